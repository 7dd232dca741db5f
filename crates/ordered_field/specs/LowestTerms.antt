-- Pairs of a numerator and a denominator, and when a pair is a rational in lowest terms.
use Rattle.std.specs.Prelude.{◌≡◌, ℕ, zero, ◌/◌, ◌<◌, ℤ, pos, ◌*ℤ◌, unsigned_abs}
use Rattle.std.specs.Int.{◌∣◌, IsGcd}
use Rattle.ordered_field.specs.Rational.{ℚ, fraction}

-- a numerator and a denominator
pub record Ratio : Type 0 where
  pub num : ℤ
  pub den : ℕ

-- the denominator is at least 1, and the two parts have no common divisor but 1
pub record IsReduced (p : Ratio) : Type 0 where
  pub some : zero < p.den
  pub coprime : IsGcd (unsigned_abs p.num) p.den 1

-- x is num / den, and that pair is in lowest terms
pub record InLowestTerms (p : Ratio) (x : ℚ) : Type 0 where
  pub reduced : IsReduced p
  pub stands : x ≡ fraction p.num p.den reduced.some

-- l is the least common denominator of two pairs
abbrev pub IsCommonDenominator : Ratio → Ratio → ℕ → Type 0
IsCommonDenominator p q l = (p.den ∣ l) × (q.den ∣ l) × ((m : ℕ) → p.den ∣ m → q.den ∣ m → l ∣ m)

-- the numerator of a pair when its denominator is brought to the multiple l
abbrev pub numerator_over : ℕ → Ratio → ℤ
numerator_over l p = p.num *ℤ pos (l / p.den)
