-- When a whole number overflows 128 signed bits, and what an exact result then is.
use Rattle.std.proofs.Common.{◌≡◌, ◌^◌, ◌≤◌, Bool, true, false, cond, ℤ, ◌+ℤ◌, ◌*ℤ◌, unsigned_abs, refl, sym, ◌∙◌, ap, FitsSigned, Some, None}
use Rattle.std.specs.Int.{w128}
use Rattle.std.proofs.lemmas.Bool.{le-leb, lt-leb, leb-false}
use Rattle.std.proofs.lemmas.Int.{fits_signed_from_abs, to_z-of_z, to_z_pos}
use Rattle.whole.specs.Numbers.{IsWithin, overflows, whole, fma}

pub overflows_not : (z : ℤ) → IsWithin z → overflows z ≡ false
overflows_not z small = lt-leb (2 ^ 127) (unsigned_abs z) small

pub overflows_beyond : (z : ℤ) → 2 ^ 127 ≤ unsigned_abs z → overflows z ≡ true
overflows_beyond z large = le-leb (2 ^ 127) (unsigned_abs z) large

pub IsWithin-overflows : (z : ℤ) → overflows z ≡ false → IsWithin z
IsWithin-overflows z not = leb-false (2 ^ 127) (unsigned_abs z) not

pub whole_kept : (z : ℤ) → IsWithin z → whole z ≡ Some z
whole_kept z small = ap (λ t. cond t None (Some z)) (overflows_not z small)

pub whole_none : (z : ℤ) → 2 ^ 127 ≤ unsigned_abs z → whole z ≡ None
whole_none z large = ap (λ t. cond t None (Some z)) (overflows_beyond z large)

-- what is kept is the number, and it is within 128 bits
pub whole_some : (z x : ℤ) → whole z ≡ Some x → (x ≡ z) × IsWithin z
whole_some z x e = by (overflows z) refl e
  where
    by : (t : Bool) → overflows z ≡ t → cond t None (Some z) ≡ Some x → (x ≡ z) × IsWithin z
    by true p q = absurd (cc)
    by false p q = (cc, IsWithin-overflows z p)

-- a number that doesn't fit an `i128` overflows
pub whole_unfit : (z : ℤ) → (FitsSigned w128 z → ⊥) → whole z ≡ None
whole_unfit z unfit = by (overflows z) refl
  where
    by : (t : Bool) → overflows z ≡ t → cond t None (Some z) ≡ None
    by true p = refl
    by false p = absurd (unfit (fits_signed_from_abs w128 z (IsWithin-overflows z p)))

pub fma_kept : (acc k y : ℤ) → IsWithin (k *ℤ y) → fma acc k y ≡ whole (acc +ℤ k *ℤ y)
fma_kept acc k y small = ap (λ t. cond t None (whole (acc +ℤ k *ℤ y))) (overflows_not (k *ℤ y) small)

pub fma_none : (acc k y : ℤ) → whole (k *ℤ y) ≡ None → fma acc k y ≡ None
fma_none acc k y e = by (overflows (k *ℤ y)) refl e
  where
    by : (t : Bool) → overflows (k *ℤ y) ≡ t → cond t None (Some (k *ℤ y)) ≡ None → cond t None (whole (acc +ℤ k *ℤ y)) ≡ None
    by true p q = refl
    by false p q = absurd (cc)

-- the sum onto a product that is kept
pub fma_of_sum : (acc k y product : ℤ) → whole (k *ℤ y) ≡ Some product → fma acc k y ≡ whole (acc +ℤ product)
fma_of_sum acc k y product e =
    let kept = whole_some (k *ℤ y) product e in
    fma_kept acc k y kept.1 ∙ ap (λ z. whole (acc +ℤ z)) (sym kept.0)

-- where the product and the sum are kept, the result is the sum
pub fma_some : (acc k y x : ℤ) → fma acc k y ≡ Some x → (x ≡ acc +ℤ k *ℤ y) × IsWithin (acc +ℤ k *ℤ y)
fma_some acc k y x e = by (overflows (k *ℤ y)) e
  where
    by : (t : Bool) → cond t None (whole (acc +ℤ k *ℤ y)) ≡ Some x → (x ≡ acc +ℤ k *ℤ y) × IsWithin (acc +ℤ k *ℤ y)
    by true q = absurd (cc)
    by false q = whole_some (acc +ℤ k *ℤ y) x q

-- a signed number that was passed or returned is the number, and so is a natural one that is cast
pub ruleset signed = (to_z-of_z, to_z_pos)
