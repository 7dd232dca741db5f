-- What is left of a fraction over a common divisor of its parts is the same number, and quotients by it are refused as it is.
use Rattle.std.proofs.Common.{◌≡◌, ℕ, ◌<◌, ◌≤◌, ℤ, pos, ◌*ℤ◌, ◌≤ℤ◌, unsigned_abs, ◌⊎◌, ap, ap₂, sym, ◌∙◌, subst, arith}
use Rattle.std.proofs.Math.IntN.{*ℤ_comm}
use Rattle.std.proofs.lemmas.Int.{ints}
use Rattle.ordered_field.specs.Rational.{ℚ, whole, ◌*ℚ◌}
use Rattle.ordered_field.specs.Wideness.{Exceeds, QuotientExceeds}
use Rattle.ordered_field.proofs.Fractions.{fraction-same, fraction-times_den, whole-injective}
use Rattle.ordered_field.proofs.FieldLaws.{*ℚ_cancel}
use Rattle.lowest_terms.specs.Coprime.{IsCoprime}
use Rattle.lowest_terms.proofs.Reduction.{size_some, pos-size}
use Rattle.whole.proofs.Integers.{*ℤ_assoc}
use Rattle.fraction.specs.Value.{ratio, rational, in_lowest_terms}
use Rattle.fraction.proofs.Pairs.{exceeds_not}

pub exceeds : (limit : ℕ) (num den : ℤ) (some : pos 1 ≤ℤ den) (x : ℚ) → IsCoprime (unsigned_abs num) (unsigned_abs den) → x ≡ rational num den some → (limit < unsigned_abs num) ⊎ (limit < unsigned_abs den) → Exceeds limit x
exceeds limit num den some x lowest e h =
    subst (Exceeds limit) (sym e) (record { pair = ratio num den; lowest = in_lowest_terms num den some lowest; overflows = h })

-- both parts times one number make the same fraction
pub scaled_value : (num den common n d : ℤ) (left : pos 1 ≤ℤ den) (right : pos 1 ≤ℤ d) → num *ℤ common ≡ n → den *ℤ common ≡ d → rational num den left ≡ rational n d right
scaled_value num den common n d left right n_is d_is =
    fraction-same num n (unsigned_abs den) (unsigned_abs d) (size_some den left) (size_some d right)
    (ap (λ z. num *ℤ z) (pos-size d right ∙ sym d_is ∙ *ℤ_comm den common)
    ∙ sym (*ℤ_assoc num common den)
    ∙ ap₂ (λ x y. x *ℤ y) n_is (sym (pos-size den left)))

-- n / d times d is n
pub rational-times_den : (n d : ℤ) (some : pos 1 ≤ℤ d) → rational n d some *ℚ whole d ≡ whole n
rational-times_den n d some =
    ap (λ z. rational n d some *ℚ whole z) (sym (pos-size d some)) ∙ fraction-times_den n (unsigned_abs d) (size_some d some)

whole_apart : (d : ℤ) → pos 1 ≤ℤ d → whole d ≡ whole (pos 0) → ⊥
whole_apart d some e = let none = whole-injective d (pos 0) e in absurd (omega (arith, ints))

module _ (num den common n d : ℤ) (left : pos 1 ≤ℤ den) (right : pos 1 ≤ℤ d) (n_is : num *ℤ common ≡ n) (d_is : den *ℤ common ≡ d) (lowest : IsCoprime (unsigned_abs num) (unsigned_abs den)) where
  pub reduced_divides : rational num den left *ℚ whole d ≡ whole n
  reduced_divides =
      ap (λ x. x *ℚ whole d) (scaled_value num den common n d left right n_is d_is) ∙ rational-times_den n d right

  pub reduced_wide : (limit : ℕ) → (limit < unsigned_abs num) ⊎ (limit < unsigned_abs den) → QuotientExceeds limit (whole n) (whole d)
  reduced_wide limit h = record {
    quotient = rational num den left;
    divides = reduced_divides;
    overflows = record { pair = ratio num den; lowest = in_lowest_terms num den left lowest; overflows = h };
  }

  pub reduced_kept : (limit : ℕ) → unsigned_abs num ≤ limit → unsigned_abs den ≤ limit → QuotientExceeds limit (whole n) (whole d) → ⊥
  reduced_kept limit p q e =
      let same : e.quotient ≡ rational num den left =
      *ℚ_cancel e.quotient (rational num den left) (whole d) (whole_apart d right) (e.divides ∙ sym reduced_divides) in
      exceeds_not limit (ratio num den) (rational num den left) (in_lowest_terms num den left lowest) p q (subst (Exceeds limit) same e.overflows)
