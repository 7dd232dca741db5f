-- A tableau with a value for each variable, which meet its rows.
use Rattle.std.specs.Prelude.{◌≡◌, ℕ, ◌⊎◌, List, [], length, Option, None}
use Rattle.ordered_field.specs.Rational.{ℚ}
use Rattle.ordered_field.specs.Delta.{DeltaValue}
use Rattle.ordered_field.specs.declared.delta.Delta.{Delta}
use Rattle.field_rows.specs.Rows.{IsRow, coefficient}
use Rattle.field_rows.specs.declared.row.Entry.{Entry}
use Rattle.whole.specs.declared.answers.Stuck.{Stuck}
use Rattle.tableau.specs.Tables.{Table, variables, is_basic, entry, Meets, IsTable}
use Rattle.tableau.specs.Exchange.{IsExchanged, IsStuckExchange}
use Rattle.simplex.specs.Moves.{moved_value, IsStuckMove}
use Rattle.tableau.specs.declared.fault.PivotFault.{PivotFault}
use Rattle.simplex.specs.Limits.{Held, AreOrderly}
use Rattle.simplex.specs.Corners.{Corner, IsRepaired}
use Rattle.simplex.specs.States.{State, value_in, limits_in}

pub record Assigned (F : Type 0) : Type 0 where
  pub table : Table F
  pub values : List (Delta F)

abbrev pub value_of : {F : Type 0} → (F → ℚ) → Assigned F → ℕ → DeltaValue
value_of value a = value_in value a.values

-- the corner of an assignment under these limits
abbrev pub corner_of : {F : Type 0} → (F → ℚ) → Assigned F → Held F → Corner F
corner_of value a h = record { table = a.table; value = value_of value a; limits = limits_in value h.limits }

module _ {F : Type 0} (value : F → ℚ) where
  -- both parts of the values meet the rows
  pub record MeetsRows (t : Table F) (x : ℕ → DeltaValue) : Type 0 where
    pub real : Meets value t (λ v. (x v).real)
    pub inf : Meets value t (λ v. (x v).inf)

  pub record IsAssignment (a : Assigned F) : Type 0 where
    pub table : IsTable value a.table
    pub meets : MeetsRows a.table (value_of value a)

  -- each variable has a value
  pub record IsKept (t : Table F) (values : List (Delta F)) : Type 0 where
    pub count : length values ≡ variables t
    pub table : IsTable value t
    pub meets : MeetsRows t (value_in value values)

  -- the entries that aren't zero of the row of b
  pub record IsRowOf (t : Table F) (b : ℕ) (row : List (Entry F)) : Type 0 where
    pub table : IsTable value t
    pub is_row : IsRow value row
    pub same : (v : ℕ) → coefficient value row v ≡ entry value t b v

  -- m has moved
  pub record IsMoved (old : Assigned F) (m : ℕ) (to : DeltaValue) (new : Assigned F) : Type 0 where
    pub table : new.table ≡ old.table
    pub values : (v : ℕ) → value_of value new v ≡ moved_value value old.table (value_of value old) m to v
    pub sound : IsAssignment new

  -- b and o have changed places, and b has moved
  pub record IsPivoted (old : Assigned F) (b o : ℕ) (to : DeltaValue) (new : Assigned F) : Type 0 where
    pub exchanged : IsExchanged value b o old.table new.table
    pub same : (x : ℕ → ℚ) → Meets value new.table x → Meets value old.table x
    pub values : (v : ℕ) → value_of value new v ≡ moved_value value new.table (value_of value old) b to v
    pub sound : IsAssignment new

-- an operation of the exchange is too wide, or then one of the move
pub record IsStuckMoveAfter {F : Type 0} (limit : ℕ) (value : F → ℚ) (old : Assigned F) (b o : ℕ) (to : DeltaValue) (stuck : Stuck) : Type 0 where
  pub table : Table F
  pub exchanged : IsExchanged value b o old.table table
  pub move : IsStuckMove limit value table (value_of value old) b to stuck

abbrev pub IsStuckPivotTo : {F : Type 0} → ℕ → (F → ℚ) → Assigned F → ℕ → ℕ → DeltaValue → Stuck → Type 0
IsStuckPivotTo limit value old b o to stuck =
    IsStuckExchange limit value b o old.table stuck ⊎ IsStuckMoveAfter limit value old b o to stuck

-- an assignment and limits of the same variables, within which all that isn't basic stands
pub record IsBuilt {F : Type 0} (value : F → ℚ) (a : Assigned F) (h : Held F) (rest : Option PivotFault) : Type 0 where
  pub sound : IsAssignment value a
  pub variables : h.variables ≡ variables a.table
  pub orderly : AreOrderly [] (limits_in value h.limits)
  pub repaired : rest ≡ None → IsRepaired value (corner_of value a h)

-- the state with this assignment and these limits
abbrev pub state_of : {F : Type 0} → Assigned F → Held F → List (ℕ × ℕ) → Option PivotFault → State F
state_of a h ps rest = record { table = a.table; values = a.values; limits = h.limits; pivots = ps; rest = rest }
