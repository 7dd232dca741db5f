-- The number that is put in for the infinitesimal: the least of 1 and the numbers at which a value would meet a limit.
use Rattle.std.specs.Prelude.{◌≡◌, ℕ, ◌<◌, ◌⊎◌, Bool, true, false, Some, pos}
use Rattle.ordered_field.specs.Rational.{ℚ, whole, ◌+ℚ◌, ◌*ℚ◌, neg_ℚ}
use Rattle.ordered_field.specs.Order.{◌≤ℚ◌, ◌<ℚ◌}
use Rattle.ordered_field.specs.Delta.{DeltaValue}
use Rattle.tableau.specs.Tables.{variables}
use Rattle.simplex.specs.Corners.{Corner}
use Rattle.simplex.specs.InForce.{number_in_force}

-- the least of x and all numbers of the set P
pub record IsLeastOf (x : ℚ) (P : ℚ → Type 0) (least : ℚ) : Type 0 where
  pub at_most : least ≤ℚ x
  pub below : (q : ℚ) → P q → least ≤ℚ q
  pub reached : (least ≡ x) ⊎ P least

-- y less x
abbrev pub difference : ℚ → ℚ → ℚ
difference y x = y +ℚ neg_ℚ x

-- x is below y, and grows faster with the infinitesimal
pub record Approaches (x y : DeltaValue) : Type 0 where
  pub below : x.real <ℚ y.real
  pub faster : y.inf <ℚ x.inf

-- x approaches y, and they are equal where the infinitesimal is q = (y.real - x.real) / (x.inf - y.inf)
pub record MeetAt (x y : DeltaValue) (q : ℚ) : Type 0 where
  pub approach : Approaches x y
  pub quotient : q *ℚ difference x.inf y.inf ≡ difference y.real x.real

-- the limit of v in force on this side says that x is at most y, one of which is v's value
abbrev pub Orders : {F : Type 0} → Corner F → Bool → ℕ → DeltaValue → DeltaValue → Type 0
Orders c false v x y = (number_in_force false v c.limits ≡ Some x) × (y ≡ c.value v)
Orders c true v x y = (x ≡ c.value v) × (number_in_force true v c.limits ≡ Some y)

-- v's value and its limit on this side meet where the infinitesimal is q
pub record IsQuotientOn {F : Type 0} (c : Corner F) (upper : Bool) (v : ℕ) (q : ℚ) : Type 0 where
  pub lesser : DeltaValue
  pub greater : DeltaValue
  pub orders : Orders c upper v lesser greater
  pub meet : MeetAt lesser greater q

-- some variable's value and one of its limits do
pub record IsQuotient {F : Type 0} (c : Corner F) (q : ℚ) : Type 0 where
  pub variable : ℕ
  pub within : variable < variables c.table
  pub upper : Bool
  pub quotient : IsQuotientOn c upper variable q

-- epsilon
abbrev pub IsEpsilon : {F : Type 0} → Corner F → ℚ → Type 0
IsEpsilon c epsilon = IsLeastOf (whole (pos 1)) (IsQuotient c) epsilon
