-- Products of whole numbers, which are kept or pass 2^127 - 1.
use Rattle.std.proofs.Common.{◌≡◌, ℕ, ◌*◌, ◌/◌, ◌^◌, ◌<◌, ◌≤◌, Bool, true, false, cond, Option, None, Some, ℤ, pos, negsuc, ◌+ℤ◌, ◌*ℤ◌, ◌≤ℤ◌, unsigned_abs, refl, sym, ap, subst, ◌∙◌, arith}
use Rattle.std.specs.Prelude.{int_div}
use Rattle.std.proofs.lemmas.Bool.{leb-true}
use Rattle.std.proofs.lemmas.Int.{ints}
use Rattle.std.proofs.Math.Nat.{pos_of_dvd_of_pos, mul-pos, dvd-mul_right, dvd-mul_left}
use Rattle.whole.specs.Numbers.{IsWithin, overflows, whole, fma, IsLcm, gcd_of, lcm_of}
use Rattle.whole.proofs.Overflow.{whole_some, fma_some}
use Rattle.whole.proofs.Divisors.{IsLcm-lcm_of}

pub above_zero : (a : ℤ) → pos 1 ≤ℤ a → 0 < unsigned_abs a
above_zero a h = omega (arith, ints)

-- what isn't kept overflows
pub beyond : (z : ℤ) → None ≡ whole z → 2 ^ 127 ≤ unsigned_abs z
beyond z e = by (overflows z) refl e
  where
    by : (t : Bool) → overflows z ≡ t → None ≡ cond t None (Some z) → 2 ^ 127 ≤ unsigned_abs z
    by true p q = leb-true (2 ^ 127) (unsigned_abs z) p
    by false p q = absurd (cc)

-- ---- a least common multiple

pub record KeptMultiple (a b l : ℤ) : Type 0 where
  pub is_lcm : IsLcm (unsigned_abs a) (unsigned_abs b) (unsigned_abs l)
  pub positive : pos 1 ≤ℤ l
  pub within : IsWithin l
  pub small : unsigned_abs a / gcd_of (unsigned_abs a) (unsigned_abs b) * unsigned_abs b < 2 ^ 127

lcm_positive : (a b l : ℕ) → 0 < a → 0 < b → IsLcm a b l → 0 < l
lcm_positive a b l some other is = pos_of_dvd_of_pos (is.2 (a * b) (dvd-mul_right a b) (dvd-mul_left b a)) (mul-pos some other)

pub multiple_kept : (a b l : ℤ) → pos 1 ≤ℤ a → pos 1 ≤ℤ b → Some l ≡ whole (pos (lcm_of (unsigned_abs a) (unsigned_abs b))) → KeptMultiple a b l
unfolding lcm_of
multiple_kept a b l some other e =
    let m = lcm_of (unsigned_abs a) (unsigned_abs b) in
    let is = IsLcm-lcm_of (unsigned_abs a) (unsigned_abs b) (above_zero a some) (above_zero b other) in
    let kept = whole_some (pos m) l (sym e) in
    let more = lcm_positive (unsigned_abs a) (unsigned_abs b) m (above_zero a some) (above_zero b other) is in
    record {
      is_lcm = subst (λ z. IsLcm (unsigned_abs a) (unsigned_abs b) (unsigned_abs z)) (sym kept.0) is;
      positive = subst (λ z. pos 1 ≤ℤ z) (sym kept.0) (omega (arith, ints, more));
      within = subst IsWithin (sym kept.0) kept.1;
      small = kept.1;
    }

pub multiple_wide : (a b : ℤ) → None ≡ whole (pos (lcm_of (unsigned_abs a) (unsigned_abs b))) → 2 ^ 127 ≤ unsigned_abs a / gcd_of (unsigned_abs a) (unsigned_abs b) * unsigned_abs b
unfolding lcm_of
multiple_wide a b e = beyond (pos (lcm_of (unsigned_abs a) (unsigned_abs b))) e

-- ---- a product

zero_more : (z : ℤ) → pos 0 +ℤ z ≡ z
zero_more z = omega (arith, ints)

pub product_kept : (n t z : ℤ) → Some z ≡ fma (pos 0) n t → (z ≡ n *ℤ t) × IsWithin z
product_kept n t z e =
    let kept = fma_some (pos 0) n t z (sym e) in
    (kept.0 ∙ zero_more (n *ℤ t), subst IsWithin (sym kept.0) kept.1)

pub product_wide : (n t : ℤ) → None ≡ fma (pos 0) n t → 2 ^ 127 ≤ unsigned_abs (n *ℤ t)
product_wide n t e = by (overflows (n *ℤ t)) refl e
  where
    by : (b : Bool) → overflows (n *ℤ t) ≡ b → None ≡ cond b None (whole (pos 0 +ℤ n *ℤ t)) → 2 ^ 127 ≤ unsigned_abs (n *ℤ t)
    by true p q = leb-true (2 ^ 127) (unsigned_abs (n *ℤ t)) p
    by false p q = subst (λ z. 2 ^ 127 ≤ unsigned_abs z) (zero_more (n *ℤ t)) (beyond (pos 0 +ℤ n *ℤ t) q)

-- ---- a quotient

pub over_is : (a : ℤ) (d : ℕ) → pos 1 ≤ℤ a → int_div a (pos d) ≡ pos (unsigned_abs a / d)
over_is (pos n) d h = refl
over_is (negsuc n) d h = absurd (omega (arith, ints))

pub size_is : (a : ℤ) → pos 1 ≤ℤ a → a ≡ pos (unsigned_abs a)
size_is (pos n) h = refl
size_is (negsuc n) h = absurd (omega (arith, ints))
