-- A variable that isn't basic moves to another stand: what the values are then, and which operation may be too wide.
use Rattle.std.specs.Prelude.{◌≡◌, ℕ, ◌==◌, Bool, true, if◌then◌else◌, Some, ◌⊎◌}
use Rattle.ordered_field.specs.Rational.{ℚ, ◌*ℚ◌, neg_ℚ}
use Rattle.ordered_field.specs.Delta.{DeltaValue, delta_sum, delta_scaled}
use Rattle.ordered_field.specs.Wideness.{Exceeds, SumIsWide}
use Rattle.whole.specs.declared.answers.Op.TheVariants.{Product, Sum}
use Rattle.whole.specs.declared.answers.Place.TheVariants.{Value}
use Rattle.whole.specs.declared.answers.Stuck.{Stuck}
use Rattle.tableau.specs.Tables.{Table, is_basic, entry}
use Rattle.tableau.specs.Exchange.{IsExchanged, IsStuckExchange}
use Rattle.tableau.specs.Operations.{IsOperation}
use Rattle.simplex.specs.declared.limits.Limit.{Limit}
use Rattle.simplex.specs.Limits.{in_force}
use Rattle.simplex.specs.Corners.{Corner}

abbrev pub delta_opposite : DeltaValue → DeltaValue
delta_opposite x = record { real = neg_ℚ x.real; inf = neg_ℚ x.inf }

-- the new stand less the old value
abbrev pub change_to : DeltaValue → DeltaValue → DeltaValue
change_to old to = delta_sum to (delta_opposite old)

-- the value of v once variable m, which isn't basic, has moved from its value in `old` to the stand `to`
abbrev pub moved_value : {F : Type 0} → (F → ℚ) → Table F → (ℕ → DeltaValue) → ℕ → DeltaValue → ℕ → DeltaValue
moved_value value t old m to v =
    if v == m then to
    else (if is_basic t v then delta_sum (old v) (delta_scaled (entry value t v m) (change_to (old m) to)) else old v)

-- ---- operations that are too wide

-- one part of the change: the sum of the new stand and the opposite value
pub record IsStuckDifference (limit m : ℕ) (to old : ℚ) (stuck : Stuck) : Type 0 where
  pub operation : IsOperation Value m m Sum to (neg_ℚ old) stuck
  pub overflows : SumIsWide limit to (neg_ℚ old)

abbrev pub IsStuckChange : ℕ → ℕ → DeltaValue → DeltaValue → Stuck → Type 0
IsStuckChange limit m old to stuck = IsStuckDifference limit m to.real old.real stuck ⊎ IsStuckDifference limit m to.inf old.inf stuck

-- one part of a basic variable's value x: the product of the entry e and the change d, or then its sum with x
pub record IsStuckProduct (limit r m : ℕ) (e d : ℚ) (stuck : Stuck) : Type 0 where
  pub operation : IsOperation Value r m Product e d stuck
  pub overflows : Exceeds limit (e *ℚ d)

pub record IsStuckSum (limit r m : ℕ) (x e d : ℚ) (stuck : Stuck) : Type 0 where
  pub operation : IsOperation Value r m Sum x (e *ℚ d) stuck
  pub overflows : SumIsWide limit x (e *ℚ d)

abbrev pub IsStuckPart : ℕ → ℕ → ℕ → ℚ → ℚ → ℚ → Stuck → Type 0
IsStuckPart limit r m x e d stuck = IsStuckProduct limit r m e d stuck ⊎ IsStuckSum limit r m x e d stuck

-- the value x, its real or its infinitesimal part
abbrev pub IsStuckFollowing : ℕ → ℕ → ℕ → DeltaValue → ℚ → DeltaValue → Stuck → Type 0
IsStuckFollowing limit r m x e d stuck =
    IsStuckPart limit r m x.real e d.real stuck ⊎ IsStuckPart limit r m x.inf e d.inf stuck

-- a basic variable's value
pub record IsStuckValue {F : Type 0} (limit : ℕ) (value : F → ℚ) (t : Table F) (old : ℕ → DeltaValue) (m : ℕ) (change : DeltaValue) (stuck : Stuck) : Type 0 where
  pub row : ℕ
  pub basic : is_basic t row ≡ true
  pub part : IsStuckFollowing limit row m (old row) (entry value t row m) change stuck

-- the operation is one of the move of m to the stand `to`, and too wide
abbrev pub IsStuckMove : {F : Type 0} → ℕ → (F → ℚ) → Table F → (ℕ → DeltaValue) → ℕ → DeltaValue → Stuck → Type 0
IsStuckMove limit value t old m to stuck =
    IsStuckChange limit m (old m) to stuck ⊎ IsStuckValue limit value t old m (change_to (old m) to) stuck

-- the operation is one of the pivot of b and o, where b is violated on this side, and too wide: one of the exchange, or
-- then one of b's move to its limit
pub record IsStuckAfterExchange {F : Type 0} (limit : ℕ) (value : F → ℚ) (c : Corner F) (upper : Bool) (b o : ℕ) (stuck : Stuck) : Type 0 where
  pub table : Table F
  pub exchanged : IsExchanged value b o c.table table
  pub bound : Limit DeltaValue
  pub in_force : in_force upper b c.limits ≡ Some bound
  pub move : IsStuckMove limit value table c.value b bound.at stuck

abbrev pub IsStuckPivot : {F : Type 0} → ℕ → (F → ℚ) → Corner F → Bool → ℕ → ℕ → Stuck → Type 0
IsStuckPivot limit value c upper b o stuck =
    IsStuckExchange limit value b o c.table stuck ⊎ IsStuckAfterExchange limit value c upper b o stuck
