use Rattle.std.proofs.Common.{◌≡◌, ℕ, ◌+◌, length, pos}
use Rattle.ordered_field.specs.Rational.{whole, ◌*ℚ◌}
use Rattle.field_rows.specs.Rows.{coefficient}
use Rattle.field_rows.proofs.MergeLaws.{Merging}
use Rattle.field_rows.proofs.OperationLaws.{IsQuotientAt, minus_at}
use Rattle.field_rows.proofs.pivot.solve.Given as goal

abbrev pub invariant-loop-at : goal.invariant-loop-at
invariant-loop-at g l =
    let value = g.F.OrderedField.value in
    let c = coefficient value l.row in
    record {
      inverts : value l.factor *ℚ c l.variable ≡ whole (pos 1);
      walk : (from : ℕ) × Merging value (IsQuotientAt g.F.OrderedField.LIMIT l.basic l.variable c) c (minus_at l.basic) from l.solved.items l.left l.right;
    }

abbrev pub decreases-loop-at : goal.decreases-loop-at
decreases-loop-at g l = length l.left + length l.right
