-- The inverse of a number has the number's parts, exchanged, so it exceeds no limit that the number is within.
use Rattle.std.proofs.Common.{◌≡◌, ℕ, zero, ◌*◌, ◌<◌, ◌⊎◌, inl, inr, pos, ◌*ℤ◌, unsigned_abs, sym, ap, ◌∙◌, arith, lit<}
use Rattle.std.proofs.lemmas.Int.{unsigned_abs-mul}
use Rattle.std.proofs.Math.Nat.{mul-one, one-mul, mul_comm}
use Rattle.lowest_terms.proofs.CoprimeLaws.{IsCoprime-swap}
use Rattle.lowest_terms.proofs.Uniqueness.{same_lowest_terms}
use Rattle.ordered_field.specs.Rational.{ℚ, fraction, whole, product_some, ◌*ℚ◌}
use Rattle.ordered_field.specs.LowestTerms.{Ratio, InLowestTerms}
use Rattle.ordered_field.specs.Wideness.{IsWithin, QuotientExceeds}
use Rattle.ordered_field.proofs.Fractions.{fraction-product, fraction-cross, whole-is_fraction}

-- the sizes of the parts of two numbers whose product is 1
sizes_cross : (p q : Ratio) (x y : ℚ) → InLowestTerms p x → InLowestTerms q y → x *ℚ y ≡ whole (pos 1) → unsigned_abs p.num * unsigned_abs q.num ≡ q.den * p.den
sizes_cross p q x y left right one =
    sym (unsigned_abs-mul p.num q.num) ∙ sym (mul-one _) ∙ sym (unsigned_abs-mul (p.num *ℤ q.num) (pos 1))
    ∙ ap unsigned_abs cross ∙ unsigned_abs-mul (pos 1) (pos (p.den * q.den)) ∙ one-mul _ ∙ mul_comm p.den q.den
  where
    both : zero < p.den * q.den
    both = product_some p.den q.den left.reduced.some right.reduced.some

    products : fraction p.num p.den left.reduced.some *ℚ fraction q.num q.den right.reduced.some ≡ whole (pos 1)
    products = ap (λ v. v *ℚ fraction q.num q.den right.reduced.some) (sym left.stands) ∙ ap (λ v. x *ℚ v) (sym right.stands) ∙ one

    cross : (p.num *ℤ q.num) *ℤ pos 1 ≡ pos 1 *ℤ pos (p.den * q.den)
    cross =
        fraction-cross (p.num *ℤ q.num) (pos 1) (p.den * q.den) 1 both (lit< tt) (sym (fraction-product _ _ _ _ _ _ both) ∙ products ∙ whole-is_fraction (pos 1) _)

pub inverse_is_exchanged : (p q : Ratio) (x y : ℚ) → InLowestTerms p x → InLowestTerms q y → x *ℚ y ≡ whole (pos 1) → (unsigned_abs p.num ≡ q.den) × (p.den ≡ unsigned_abs q.num)
inverse_is_exchanged p q x y left right one =
    same_lowest_terms (unsigned_abs p.num) p.den q.den (unsigned_abs q.num) left.reduced.some left.reduced.coprime (IsCoprime-swap _ _ right.reduced.coprime) (sizes_cross p q x y left right one)

pub inverse_fits : (limit : ℕ) (q : Ratio) (y : ℚ) → InLowestTerms q y → IsWithin limit q → QuotientExceeds limit (whole (pos 1)) y → ⊥
inverse_fits limit q y right within wide = by_cause wide.overflows.overflows
  where
    exchanged : (unsigned_abs wide.overflows.pair.num ≡ q.den) × (wide.overflows.pair.den ≡ unsigned_abs q.num)
    exchanged = inverse_is_exchanged wide.overflows.pair q wide.quotient y wide.overflows.lowest right wide.divides

    by_cause : (limit < unsigned_abs wide.overflows.pair.num) ⊎ (limit < wide.overflows.pair.den) → ⊥
    by_cause (inl more) = absurd (omega (arith, exchanged, within))
    by_cause (inr more) = absurd (omega (arith, exchanged, within))
