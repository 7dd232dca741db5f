use Rattle.std.proofs.Common.{◌≡◌, ℕ, ◌+◌, length}
use Rattle.field_rows.specs.Rows.{coefficient}
use Rattle.field_rows.proofs.MergeLaws.{Merging}
use Rattle.field_rows.proofs.OperationLaws.{IsEntryAt}
use Rattle.field_rows.proofs.pivot.substitute.Given as goal

abbrev pub invariant-loop-at : goal.invariant-loop-at
invariant-loop-at g l =
    let value = g.F.OrderedField.value in
    let c = coefficient value l.row in
    let d = coefficient value l.solved in
    record {
      factor : value l.factor ≡ c l.variable;
      walk : (from : ℕ) × Merging value (IsEntryAt g.F.OrderedField.LIMIT l.variable d c) c d from l.followed.items l.left l.right;
    }

abbrev pub decreases-loop-at : goal.decreases-loop-at
decreases-loop-at g l = length l.left + length l.right
