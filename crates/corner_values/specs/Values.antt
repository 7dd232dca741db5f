-- The values at a corner: those that are computed, and what holds of them.
use Rattle.std.specs.Prelude.{◌≡◌, ℕ, ◌<◌, true, false, ℤ, pos, List, length, Some, IfSome, slice_get}
use Rattle.ordered_field.specs.Rational.{ℚ, whole, ◌*ℚ◌}
use Rattle.ordered_field.specs.Order.{◌≤ℚ◌, ◌<ℚ◌}
use Rattle.ordered_field.specs.Delta.{DeltaValue, delta_at}
use Rattle.ordered_field.specs.LowestTerms.{Ratio}
use Rattle.tableau.specs.Tables.{variables, Meets}
use Rattle.simplex.specs.Corners.{Corner}
use Rattle.simplex.specs.InForce.{number_in_force}
use Rattle.corner_values.specs.Epsilon.{IsEpsilon}
use Rattle.corner_values.specs.Scale.{AreInLowestTerms, AreOverScale}

-- the value of variable v once a number is put in for the infinitesimal
abbrev pub value_at : {F : Type 0} → Corner F → ℚ → ℕ → ℚ
value_at c epsilon v = delta_at (c.value v) epsilon

-- the columns' values once epsilon is put in, over their least common denominator
pub record AreValuesAt {F : Type 0} (c : Corner F) (over : ℤ) (values : List ℤ) : Type 0 where
  pub epsilon : ℚ
  pub is_epsilon : IsEpsilon c epsilon
  pub lowest : List Ratio
  pub in_lowest_terms : AreInLowestTerms c.table.columns (value_at c epsilon) lowest
  pub over_scale : AreOverScale lowest over values

-- x keeps the lower limit b + j * infinitesimal: it is at least b, and above b where j is above zero
pub record IsAtLeast (x : ℚ) (limit : DeltaValue) : Type 0 where
  pub not_below : whole (pos 0) ≤ℚ limit.inf → limit.real ≤ℚ x
  pub above : whole (pos 0) <ℚ limit.inf → limit.real <ℚ x

-- x keeps the upper limit b + j * infinitesimal: it is at most b, and below b where j is below zero
pub record IsAtMost (x : ℚ) (limit : DeltaValue) : Type 0 where
  pub not_above : limit.inf ≤ℚ whole (pos 0) → x ≤ℚ limit.real
  pub below : limit.inf <ℚ whole (pos 0) → x <ℚ limit.real

-- with these values of the columns, over a common denominator, each row is met and each limit in force is kept
pub record IsSolution {F : Type 0} (value : F → ℚ) (c : Corner F) (over : ℤ) (values : List ℤ) : Type 0 where
  pub of_variable : ℕ → ℚ
  pub count : length values ≡ c.table.columns
  pub columns : (j : ℕ) (n : ℤ) → slice_get values j ≡ Some n → of_variable j *ℚ whole over ≡ whole n
  pub rows : Meets value c.table of_variable
  pub lower : (v : ℕ) → v < variables c.table → IfSome (number_in_force false v c.limits) (IsAtLeast (of_variable v))
  pub upper : (v : ℕ) → v < variables c.table → IfSome (number_in_force true v c.limits) (IsAtMost (of_variable v))
