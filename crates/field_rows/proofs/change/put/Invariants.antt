use Rattle.std.proofs.Common.{◌≡◌, ℕ, ◌+◌, length}
use Rattle.field_rows.specs.Rows.{coefficient, put}
use Rattle.field_rows.proofs.MergeLaws.{Merging}
use Rattle.field_rows.proofs.OperationLaws.{one_at}
use Rattle.field_rows.proofs.change.put.Given as goal

abbrev pub invariant-loop-at : goal.invariant-loop-at
invariant-loop-at g l =
    let value = g.F.OrderedField.value in
    let c = coefficient value l.row in
    let y = value l.fn.number in
    (from : ℕ) × Merging value (λ v x. x ≡ put l.variable y c v) c (one_at l.variable y) from l.changed.items l.left l.right

abbrev pub decreases-loop-at : goal.decreases-loop-at
decreases-loop-at g l = length l.left + length l.right
