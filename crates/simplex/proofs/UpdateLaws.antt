-- An assignment after an update, and after a pivot and an update.
use Rattle.std.proofs.Common.{◌≡◌, ℕ, ◌<◌, false, List, length, Result, Ok, Err, ◌↔◌, inr, refl, sym, ap, subst, ◌∙◌}
use Rattle.std.specs.Result.{IfErr}
use Rattle.ordered_field.specs.Rational.{ℚ}
use Rattle.ordered_field.specs.Delta.{DeltaValue}
use Rattle.ordered_field.specs.declared.delta.Delta.{Delta}
use Rattle.tableau.specs.Tables.{Table, variables, is_basic, Meets, IsTable}
use Rattle.tableau.specs.Exchange.{IsExchanged}
use Rattle.tableau.specs.Operations.{IfStuck}
use Rattle.tableau.specs.declared.fault.PivotFault.{PivotFault}
use Rattle.tableau.specs.declared.fault.PivotFault.TheVariants as fault
use Rattle.simplex.specs.Moves.{moved_value, IsStuckMove}
use Rattle.simplex.specs.States.{value_in}
use Rattle.simplex.specs.Assignments.{Assigned, value_of, MeetsRows, IsAssignment, IsKept, IsMoved, IsPivoted, IsStuckPivotTo}
use Rattle.simplex.proofs.MoveLaws.{meets-moved, meets-same}

pub if_err : {T E : Type 0} (r : Result T E) {P Q : E → Type 0} → ((x : E) → P x → Q x) → IfErr r P → IfErr r Q
if_err (Ok x) f h = h
if_err (Err e) f h = f e h

module _ {F : Type 0} (value : F → ℚ) (t : Table F) (olds news : List (Delta F)) (m : ℕ) (to : DeltaValue) (kept : IsKept value t olds) (non_basic : is_basic t m ≡ false) (inside : m < variables t) (done : (v : ℕ) → value_in value news v ≡ moved_value value t (value_in value olds) m to v) where
  meets : MeetsRows value t (value_in value news)
  meets =
      meets-same value t (moved_value value t (value_in value olds) m to) (value_in value news) done (meets-moved value t (value_in value olds) m to kept.table non_basic inside kept.meets)

  pub kept_by : length news ≡ variables t → IsKept value t news
  kept_by count = record { count = count; table = kept.table; meets = meets }

  pub moved_by : IsMoved value (record { table = t; values = olds }) m to (record { table = t; values = news })
  moved_by = record { table = refl; values = done; sound = record { table = kept.table; meets = meets } }

module _ {F : Type 0} (value : F → ℚ) (a : Assigned F) (t : Table F) (b o : ℕ) (to : DeltaValue) (exchanged : IsExchanged value b o a.table t) where
  pub stuck_after : (limit : ℕ) (f : PivotFault) → IfStuck f (IsStuckMove limit value t (value_of value a) b to) → IfStuck f (IsStuckPivotTo limit value a b o to)
  stuck_after limit (fault.Stuck s) h = inr (record { table = t; exchanged = exchanged; move = h })
  stuck_after limit fault.NoMemory h = tt

  pub pivoted_by : ((x : ℕ → ℚ) → Meets value t x ↔ Meets value a.table x) → (d : Assigned F) → IsMoved value (record { table = t; values = a.values }) b to d → IsPivoted value a b o to d
  pivoted_by same d moved = record {
    exchanged = subst (λ u. IsExchanged value b o a.table u) (sym moved.table) exchanged;
    same = λ x h. (same x).0 (subst (λ u. Meets value u x) moved.table h);
    values = λ v. moved.values v ∙ ap (λ u. moved_value value u (value_of value a) b to v) (sym moved.table);
    sound = moved.sound;
  }
