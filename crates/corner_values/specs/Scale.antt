-- The least common denominator of the columns' values, and the whole numbers that the values are over it.
use Rattle.std.specs.Prelude.{◌≡◌, ℕ, ℤ, pos, List, length, map, All, Some, slice_get}
use Rattle.std.specs.Int.{◌∣◌}
use Rattle.ordered_field.specs.Rational.{ℚ}
use Rattle.ordered_field.specs.LowestTerms.{Ratio, InLowestTerms, numerator_over}

-- the first n of the numbers x, as code values
pub record AreNumbers {F : Type 0} (value : F → ℚ) (n : ℕ) (x : ℕ → ℚ) (numbers : List F) : Type 0 where
  pub count : length numbers ≡ n
  pub each : (j : ℕ) (f : F) → slice_get numbers j ≡ Some f → value f ≡ x j

-- the first n of the numbers x, in lowest terms
pub record AreInLowestTerms (n : ℕ) (x : ℕ → ℚ) (ratios : List Ratio) : Type 0 where
  pub count : length ratios ≡ n
  pub each : (j : ℕ) (p : Ratio) → slice_get ratios j ≡ Some p → InLowestTerms p (x j)

-- l is the least common multiple of the denominators
pub record IsScale (ratios : List Ratio) (l : ℕ) : Type 0 where
  pub multiple : All (λ p. p.den ∣ l) ratios
  pub least : (m : ℕ) → All (λ p. p.den ∣ m) ratios → l ∣ m

-- the numerators over the denominator l
abbrev pub numerators : ℕ → List Ratio → List ℤ
numerators l ratios = map (numerator_over l) ratios

-- the numerators over the least common denominator
pub record AreOverScale (ratios : List Ratio) (over : ℤ) (values : List ℤ) : Type 0 where
  pub scale : ℕ
  pub is_scale : IsScale ratios scale
  pub over_is : over ≡ pos scale
  pub values_are : values ≡ numerators scale ratios
