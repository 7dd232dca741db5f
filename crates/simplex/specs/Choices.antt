-- What a search for a violated variable, and for one that helps it, finds.
use Rattle.std.specs.Prelude.{◌≡◌, ℕ, ◌<◌, true, Bool, List, Option, None, Some}
use Rattle.ordered_field.specs.Rational.{ℚ}
use Rattle.ordered_field.specs.Delta.{DeltaValue}
use Rattle.tableau.specs.Tables.{is_basic}
use Rattle.simplex.specs.declared.limits.Limit.{Limit}
use Rattle.simplex.specs.declared.choice.Violation.{Violation}
use Rattle.simplex.specs.Limits.{limit_value, in_force, IsTooLow, IsViolated, IsWithin}
use Rattle.simplex.specs.Corners.{Corner, CanHelp, IsLeastViolated}

-- v with the value x is outside the limit l, which is in force on this side
pub record IsBroken (upper : Bool) (limits : List (Limit DeltaValue)) (v : ℕ) (x : DeltaValue) (l : Limit DeltaValue) : Type 0 where
  pub violated : IsViolated upper limits v x
  pub in_force : in_force upper v limits ≡ Some l

module _ {F : Type 0} (value : F → ℚ) where
  -- v with the value x is outside this limit, which is in force
  pub record IsViolation (limits : List (Limit DeltaValue)) (v : ℕ) (x : DeltaValue) (w : Violation F) : Type 0 where
    pub variable : w.basic ≡ v
    pub violated : IsViolated w.upper limits v x
    pub lower_first : w.upper ≡ true → ¬ IsTooLow limits v x
    pub in_force : in_force w.upper v limits ≡ Some (limit_value value w.limit)

  pub record IsFound (c : Corner F) (w : Violation F) : Type 0 where
    pub least : IsLeastViolated value c w.upper w.basic
    pub in_force : in_force w.upper w.basic c.limits ≡ Some (limit_value value w.limit)

  abbrev pub FindsViolated : Corner F → Option (Violation F) → Type 0
  FindsViolated c None = (v : ℕ) → is_basic c.table v ≡ true → IsWithin c.limits v (c.value v)
  FindsViolated c (Some w) = IsFound c w

  abbrev pub FindsHelper : Corner F → Bool → ℕ → Option ℕ → Type 0
  FindsHelper c upper b None = (o : ℕ) → ¬ CanHelp value c upper b o
  FindsHelper c upper b (Some o) = CanHelp value c upper b o × ((v : ℕ) → v < o → ¬ CanHelp value c upper b v)
