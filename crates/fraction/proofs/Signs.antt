-- The opposite, the inverse and the sign of a fraction
use Rattle.std.proofs.Common.{◌≡◌, ℕ, ◌<◌, ℤ, pos, negsuc, ◌*ℤ◌, ◌≤ℤ◌, ◌<ℤ◌, neg_ℤ, unsigned_abs, ◌↔◌, refl, ap, ap₂, sym, ◌∙◌, subst, arith, mul-pos, lit<, ◌*◌, ◌-ℤ◌, ◌^◌, FitsSigned, to_z, of_z, to_z-of_z, eq-zero-or-pos, inl, inr}
use Rattle.std.proofs.lemmas.Int.{ints, fits_signed_from_abs}
use Rattle.std.proofs.Math.IntN.{*ℤ_comm}
use Rattle.std.specs.Int.{int_signum}
use mir.Syntax.{Width}
use mir.Val.{hbits}
use Rattle.ordered_field.specs.Rational.{ℚ, whole, neg_ℚ, ◌*ℚ◌}
use Rattle.ordered_field.specs.Order.{◌<ℚ◌}
use Rattle.ordered_field.proofs.Fractions.{fraction-same, fraction-product, neg_ℚ-fraction, whole-is_fraction, fraction-zero, zero-fraction, fraction-negative, negative-fraction, fraction-positive, positive-fraction}
use Rattle.lowest_terms.proofs.Reduction.{size_some, pos-size}
use Rattle.ordered_field.specs.Wideness.{Exceeds, QuotientExceeds}
use Rattle.ordered_field.proofs.RingLaws.{*ℚ_assoc, *ℚ-one}
use Rattle.ordered_field.proofs.FieldLaws.{cancel_by_inverse}
use Rattle.whole.proofs.Integers.{*ℤ-one, one-*ℤ, neg_ℤ-*ℤ, zero_of_size, zero-sub_ℤ, unsigned_abs-neg_ℤ}
use Rattle.fraction.specs.Value.{rational}

-- what the code's opposite of z is, in any width
pub negated : (w : Width) (z : ℤ) → FitsSigned w z → unsigned_abs z < 2 ^ hbits w → to_z w (of_z w (pos 0 -ℤ to_z w (of_z w z))) ≡ neg_ℤ z
negated w z fits small =
    let size = ap unsigned_abs (zero-sub_ℤ z) ∙ unsigned_abs-neg_ℤ z in
    let opposite : FitsSigned w (pos 0 -ℤ z) = fits_signed_from_abs w (pos 0 -ℤ z) (omega (arith, size, small)) in
    simp to_z-of_z (zero-sub_ℤ z)

pub opposite_value : (num den : ℤ) (some : pos 1 ≤ℤ den) → rational (neg_ℤ num) den some ≡ neg_ℚ (rational num den some)
opposite_value num den some = sym (neg_ℚ-fraction num (unsigned_abs den) (size_some den some))

pub whole_value : (n : ℤ) (some : pos 1 ≤ℤ pos 1) → rational n (pos 1) some ≡ whole n
whole_value n some = sym (whole-is_fraction n (size_some (pos 1) some))

-- n / d times m / b is 1 where n * m and d * b are one number
pub inverse_value : (n d m b : ℤ) (left : pos 1 ≤ℤ d) (right : pos 1 ≤ℤ b) → n *ℤ m ≡ d *ℤ b → rational n d left *ℚ rational m b right ≡ whole (pos 1)
inverse_value n d m b left right e =
    let both = mul-pos (size_some d left) (size_some b right) in
    fraction-product n m (unsigned_abs d) (unsigned_abs b) (size_some d left) (size_some b right) both
    ∙ fraction-same (n *ℤ m) (pos 1) (unsigned_abs d * unsigned_abs b) 1 both (lit< tt)
    (*ℤ-one (n *ℤ m) ∙ e ∙ ap₂ (λ x y. x *ℤ y) (sym (pos-size d left)) (sym (pos-size b right)) ∙ sym (one-*ℤ (pos (unsigned_abs d * unsigned_abs b))))
    ∙ sym (whole-is_fraction (pos 1) (lit< tt))

pub opposite_parts : (n d : ℤ) → neg_ℤ d *ℤ n ≡ neg_ℤ n *ℤ d
opposite_parts n d = neg_ℤ-*ℤ d n ∙ ap neg_ℤ (*ℤ_comm d n) ∙ sym (neg_ℤ-*ℤ n d)

pub size_from_apart : (num den : ℤ) (some : pos 1 ≤ℤ den) → (rational num den some ≡ whole (pos 0) → ⊥) → 0 < unsigned_abs num
size_from_apart num den some apart =
    elim (eq-zero-or-pos (unsigned_abs num)) [
      | inl none ↦
          absurd (apart (ap (λ n. rational n den some) (zero_of_size num none) ∙ fraction-zero (unsigned_abs den) (size_some den some)))
      | inr more ↦ more
    ]

-- ---- the quotient as the product with the inverse

module _ (x y i : ℚ) (inverse : i *ℚ y ≡ whole (pos 1)) where
  pub quotient_divides : x *ℚ i *ℚ y ≡ x
  quotient_divides = *ℚ_assoc x i y ∙ ap (λ v. x *ℚ v) inverse ∙ *ℚ-one x

  pub quotient_wide : (limit : ℕ) → Exceeds limit (x *ℚ i) → QuotientExceeds limit x y
  quotient_wide limit h = record { quotient = x *ℚ i; divides = quotient_divides; overflows = h }

  pub quotient_kept : (limit : ℕ) → (Exceeds limit (x *ℚ i) → ⊥) → QuotientExceeds limit x y → ⊥
  quotient_kept limit not e =
      not (subst (Exceeds limit) (cancel_by_inverse e.quotient (x *ℚ i) y i inverse (e.divides ∙ sym quotient_divides)) e.overflows)

-- ---- the sign

sign_of_positive : (n : ℤ) → (int_signum n ≡ pos 1) ↔ (pos 0 <ℤ n)
sign_of_positive (pos n) = (λ e. omega (arith, ints), λ h. omega (arith, ints))
sign_of_positive (negsuc n) = (λ e. absurd (cc), λ h. absurd (omega (arith, ints)))

sign_of_zero : (n : ℤ) → (int_signum n ≡ pos 0) ↔ (n ≡ pos 0)
sign_of_zero (pos n) = (λ e. omega (arith, ints), λ h. omega (arith, ints))
sign_of_zero (negsuc n) = (λ e. absurd (cc), λ h. absurd (cc))

sign_of_negative : (n : ℤ) → (int_signum n ≡ negsuc 0) ↔ (n <ℤ pos 0)
sign_of_negative (pos n) = (λ e. absurd (cc), λ h. absurd (omega (arith, ints)))
sign_of_negative (negsuc n) = (λ e. omega (arith, ints), λ h. refl)

module _ (num den s : ℤ) (some : pos 1 ≤ℤ den) (is : s ≡ int_signum num) where
  pub sign_positive : (s ≡ pos 1) ↔ (whole (pos 0) <ℚ rational num den some)
  sign_positive = (
    λ e. fraction-positive num (unsigned_abs den) (size_some den some) ((sign_of_positive num).0 (sym is ∙ e)),
    λ h. is ∙ (sign_of_positive num).1 (positive-fraction num (unsigned_abs den) (size_some den some) h),
  )

  pub sign_zero : (s ≡ pos 0) ↔ (rational num den some ≡ whole (pos 0))
  sign_zero = (
    λ e. ap (λ n. rational n den some) ((sign_of_zero num).0 (sym is ∙ e)) ∙ fraction-zero (unsigned_abs den) (size_some den some),
    λ h. is ∙ (sign_of_zero num).1 (zero-fraction num (unsigned_abs den) (size_some den some) h),
  )

  pub sign_negative : (s ≡ negsuc 0) ↔ (rational num den some <ℚ whole (pos 0))
  sign_negative = (
    λ e. fraction-negative num (unsigned_abs den) (size_some den some) ((sign_of_negative num).0 (sym is ∙ e)),
    λ h. is ∙ (sign_of_negative num).1 (negative-fraction num (unsigned_abs den) (size_some den some) h),
  )
