-- A simplex as a caller sees it.
use Rattle.std.specs.Prelude.{◌≡◌, ℕ, List, [], map, Option, None, Some, slice_get, pos}
use Rattle.std.specs.Option.{option_map_or}
use Rattle.ordered_field.specs.Rational.{ℚ, whole}
use Rattle.ordered_field.specs.Delta.{DeltaValue, delta_value}
use Rattle.ordered_field.specs.declared.delta.Delta.{Delta}
use Rattle.tableau.specs.declared.fault.PivotFault.{PivotFault}
use Rattle.tableau.specs.declared.fault.PivotFault.TheVariants as fault
use Rattle.simplex.specs.declared.outcome.Outcome.{Outcome}
use Rattle.simplex.specs.declared.outcome.Outcome.TheVariants as outcome
use Rattle.simplex.specs.Corners.{Corner, IsCorner, IsRepaired}
use Rattle.tableau.specs.Tables.{Table}
use Rattle.simplex.specs.declared.limits.Limit.{Limit}
use Rattle.simplex.specs.Limits.{AreOrderly, limit_value}

-- `pivots` are those of the last check; `rest` is None as long as it works, and then what each later call answers
pub record State (F : Type 0) : Type 0 where
  pub table : Table F
  pub values : List (Delta F)
  pub limits : List (Limit (Delta F))
  pub pivots : List (ℕ × ℕ)
  pub rest : Option PivotFault

abbrev pub zero_delta : DeltaValue
zero_delta = record { real = whole (pos 0); inf = whole (pos 0) }

-- the value of variable v in a list of values, zero beyond it
abbrev pub value_in : {F : Type 0} → (F → ℚ) → List (Delta F) → ℕ → DeltaValue
value_in value values v = option_map_or (delta_value value) (slice_get values v) zero_delta

-- the limits that some of the code mean
abbrev pub limits_in : {F : Type 0} → (F → ℚ) → List (Limit (Delta F)) → List (Limit DeltaValue)
limits_in value limits = map (limit_value value) limits

-- the corner at which it is
abbrev pub corner : {F : Type 0} → (F → ℚ) → State F → Corner F
corner value s = record { table = s.table; value = value_in value s.values; limits = limits_in value s.limits }

-- whether it is at rest after an answer
abbrev pub rest_of : {F : Type 0} → Outcome F → Option PivotFault
rest_of outcome.Fine = None
rest_of (outcome.Conflict shares) = None
rest_of outcome.Spent = None
rest_of (outcome.Stuck stuck) = Some (fault.Stuck stuck)
rest_of outcome.NoMemory = Some fault.NoMemory

-- what is so of every simplex
pub record IsSound {F : Type 0} (value : F → ℚ) (s : State F) : Type 0 where
  pub at : IsCorner value (corner value s)
  pub orderly : AreOrderly [] (corner value s).limits
  pub repaired : s.rest ≡ None → IsRepaired value (corner value s)

-- at rest each call gives the same answer
abbrev pub Repeats : {F : Type 0} → PivotFault → Outcome F → Type 0
Repeats (fault.Stuck stuck) answer = answer ≡ outcome.Stuck stuck
Repeats fault.NoMemory answer = answer ≡ outcome.NoMemory
