-- Whole numbers of size at most 1: their signs, and that their sums, products and quotients are too wide where they are.
use Rattle.std.proofs.Common.{◌≡◌, ◌≤◌, ◌<◌, ℤ, pos, negsuc, zero, suc, ◌+ℤ◌, ◌*ℤ◌, neg_ℤ, ◌^◌, unsigned_abs, to_z, of_z, ◌↔◌, refl, sym, ap, subst, ◌∙◌, arith, lit≤, Result, Ok, Err}
use Rattle.std.specs.Int.{w128, w32}
use Rattle.std.specs.Result.{IfOk, OnOk, OnErr}
use Rattle.std.proofs.lemmas.Int.{ints, to_z-of_z, fits_signed_from_abs, unsigned_abs-mul}
use Rattle.std.proofs.lemmas.Nat.{mul-le}
use Rattle.ordered_field.specs.Rational.{ℚ, whole, ◌*ℚ◌, neg_ℚ}
use Rattle.ordered_field.specs.Order.{◌<ℚ◌}
use Rattle.ordered_field.specs.Wideness.{Exceeds, QuotientExceeds}
use Rattle.ordered_field.proofs.Fractions.{whole-product, whole-neg, whole-injective, whole-<ℚ, <ℚ-whole}
use Rattle.ordered_field.proofs.FieldLaws.{*ℚ_cancel}
use Rattle.ordered_field.proofs.WholeNumbers.{whole-kept}

-- ---- results

pub if_ok : {T E : Type 0} (r : Result T E) {P Q : T → Type 0} → ((x : T) → P x → Q x) → IfOk r P → IfOk r Q
if_ok (Ok x) f h = f x h
if_ok (Err e) f h = h

pub on_ok : {T E : Type 0} (r : Result T E) {P Q : Type 0} → (P → Q) → OnOk r P → OnOk r Q
on_ok (Ok x) f h = f h
on_ok (Err e) f h = h

pub on_err : {T E : Type 0} (r : Result T E) {P Q : Type 0} → (P → Q) → OnErr r P → OnErr r Q
on_err (Ok x) f h = h
on_err (Err e) f h = f h

-- ---- signs

pub read_back : (n m : ℤ) → unsigned_abs n < 2 ^ 127 → m ≡ n → to_z w128 (of_z w128 m) ≡ n
read_back n m small e = to_z-of_z w128 m (fits_signed_from_abs w128 m (rw e small)) ∙ e

pub opposite_size : (n : ℤ) → unsigned_abs (neg_ℤ n) ≡ unsigned_abs n
opposite_size (pos zero) = refl
opposite_size (pos (suc n)) = refl
opposite_size (negsuc n) = refl

pub opposite_read : (n m : ℤ) → unsigned_abs n ≤ 1 → m ≡ neg_ℤ n → to_z w128 (of_z w128 m) ≡ neg_ℤ n
opposite_read n m small e = read_back (neg_ℤ n) m (omega (arith, small, opposite_size n)) e

pub sum_read : (a b m : ℤ) → unsigned_abs a ≤ 1 → unsigned_abs b ≤ 1 → m ≡ a +ℤ b → to_z w128 (of_z w128 m) ≡ a +ℤ b
sum_read a b m p q e = read_back (a +ℤ b) m (omega (arith, ints, p, q)) e

pub product_read : (a b m : ℤ) → unsigned_abs a ≤ 1 → unsigned_abs b ≤ 1 → m ≡ a *ℤ b → to_z w128 (of_z w128 m) ≡ a *ℤ b
product_read a b m p q e =
    read_back (a *ℤ b) m (omega (arith, unsigned_abs-mul a b, mul-le (unsigned_abs a) (unsigned_abs b) 1 1 p q)) e

pub read_back_narrow : (n m : ℤ) → unsigned_abs n ≤ 1 → m ≡ n → to_z w32 (of_z w32 m) ≡ n
read_back_narrow n m small e = to_z-of_z w32 m (fits_signed_from_abs w32 m (rw e (omega (arith, small)))) ∙ e

pub unit_negative : (n : ℤ) → unsigned_abs n ≤ 1 → (n ≡ negsuc 0) ↔ (whole n <ℚ whole (pos 0))
unit_negative n small = (
  λ e. whole-<ℚ n (pos 0) (omega (arith, ints, e)),
  λ h. let less = <ℚ-whole n (pos 0) h in omega (arith, ints, less, small),
)

pub unit_zero : (n : ℤ) → (n ≡ pos 0) ↔ (whole n ≡ whole (pos 0))
unit_zero n = (λ e. ap whole e, λ e. whole-injective n (pos 0) e)

pub unit_positive : (n : ℤ) → unsigned_abs n ≤ 1 → (n ≡ pos 1) ↔ (whole (pos 0) <ℚ whole n)
unit_positive n small = (
  λ e. whole-<ℚ (pos 0) n (omega (arith, ints, e)),
  λ h. let more = <ℚ-whole (pos 0) n h in omega (arith, ints, more, small),
)

-- ---- products

pub product_kept : (n m : ℤ) → unsigned_abs (n *ℤ m) ≤ 1 → Exceeds 1 (whole n *ℚ whole m) → ⊥
product_kept n m small wide = whole-kept 1 (n *ℤ m) (lit≤ tt) small (rw whole-product wide)

-- a number of size 1 is its own inverse
pub times_twice : (n m : ℤ) → unsigned_abs m ≤ 1 → (m ≡ pos 0 → ⊥) → n *ℤ m *ℤ m ≡ n
times_twice n (pos zero) small some = absurd (some refl)
times_twice n (pos (suc zero)) small some = omega (arith, ints)
times_twice n (pos (suc (suc m))) small some = absurd (omega (arith, small))
times_twice n (negsuc zero) small some = omega (arith, ints)
times_twice n (negsuc (suc m)) small some = absurd (omega (arith, small))

pub quotient_exact : (n m : ℤ) → unsigned_abs m ≤ 1 → (whole m ≡ whole (pos 0) → ⊥) → whole (n *ℤ m) *ℚ whole m ≡ whole n
quotient_exact n m small some = sym (whole-product (n *ℤ m) m) ∙ ap whole (times_twice n m small (λ e. some (ap whole e)))

pub quotient_kept : (n m : ℤ) → unsigned_abs m ≤ 1 → (whole m ≡ whole (pos 0) → ⊥) → unsigned_abs (n *ℤ m) ≤ 1 → QuotientExceeds 1 (whole n) (whole m) → ⊥
quotient_kept n m small some size wide =
    whole-kept 1 (n *ℤ m) (lit≤ tt) size (subst (λ q. Exceeds 1 q) (*ℚ_cancel wide.quotient (whole (n *ℤ m)) (whole m) some (wide.divides ∙ sym (quotient_exact n m small some))) wide.overflows)

pub minus_one-apart : (one x : ℚ) → one ≡ whole (pos 1) → x ≡ neg_ℚ one → x ≡ whole (pos 0) → ⊥
minus_one-apart one x is_one is_minus is_zero =
    let same : negsuc 0 ≡ pos 0 = whole-injective (negsuc 0) (pos 0) (whole-neg (pos 1) ∙ ap neg_ℚ (sym is_one) ∙ sym is_minus ∙ is_zero) in
    cc

pub minus_one_is_apart : whole (negsuc 0) ≡ whole (pos 0) → ⊥
minus_one_is_apart e = let same : negsuc 0 ≡ pos 0 = whole-injective (negsuc 0) (pos 0) e in omega (arith, ints)
