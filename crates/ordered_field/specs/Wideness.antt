-- When a result is too wide for a field that keeps numerators and denominators within a limit.
use Rattle.std.specs.Prelude.{◌≡◌, ℕ, ◌<◌, ◌≤◌, ◌+ℤ◌, unsigned_abs, ◌⊎◌}
use Rattle.ordered_field.specs.Rational.{ℚ, ◌*ℚ◌}
use Rattle.ordered_field.specs.LowestTerms.{Ratio, InLowestTerms, IsCommonDenominator, numerator_over}

-- both parts of a pair are at most the limit in size
pub record IsWithin (limit : ℕ) (p : Ratio) : Type 0 where
  pub num : unsigned_abs p.num ≤ limit
  pub den : p.den ≤ limit

-- x in lowest terms has a numerator or a denominator past the limit in size
pub record Exceeds (limit : ℕ) (x : ℚ) : Type 0 where
  pub pair : Ratio
  pub lowest : InLowestTerms pair x
  pub overflows : (limit < unsigned_abs pair.num) ⊎ (limit < pair.den)

-- what exceeds the limit when two pairs are added over their common denominator l: l itself, one of the two
-- numerators brought to l, or their sum
abbrev pub SumExceeds : ℕ → Ratio → Ratio → ℕ → Type 0
SumExceeds limit p q l =
    (limit < l)
    ⊎ (limit < unsigned_abs (numerator_over l p))
    ⊎ (limit < unsigned_abs (numerator_over l q))
    ⊎ (limit < unsigned_abs (numerator_over l p +ℤ numerator_over l q))

-- x + y over the least common denominator exceeds the limit
pub record SumIsWide (limit : ℕ) (x y : ℚ) : Type 0 where
  pub left : Ratio
  pub right : Ratio
  pub over : ℕ
  pub left_lowest : InLowestTerms left x
  pub right_lowest : InLowestTerms right y
  pub least : IsCommonDenominator left right over
  pub overflows : SumExceeds limit left right over

-- x + k * y exceeds the limit: the product, or then the sum
abbrev pub FmaIsWide : ℕ → ℚ → ℚ → ℚ → Type 0
FmaIsWide limit x k y = Exceeds limit (k *ℚ y) ⊎ SumIsWide limit x (k *ℚ y)

-- the quotient of x by y exceeds the limit
pub record QuotientExceeds (limit : ℕ) (x y : ℚ) : Type 0 where
  pub quotient : ℚ
  pub divides : quotient *ℚ y ≡ x
  pub overflows : Exceeds limit quotient
