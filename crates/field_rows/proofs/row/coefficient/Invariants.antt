use Rattle.std.proofs.Common.{◌≡◌, length}
use Rattle.field_rows.specs.Rows.{coefficient, IsRow}
use Rattle.field_rows.proofs.row.coefficient.Given as goal

abbrev pub invariant-loop-before : goal.invariant-loop-before
invariant-loop-before g l =
    let value = g.F.OrderedField.value in
    record {
      is_row : IsRow value l.rest;
      same : coefficient value l.rest l.variable ≡ coefficient value l.fn.row l.variable;
    }

abbrev pub decreases-loop-before : goal.decreases-loop-before
decreases-loop-before g l = length l.rest
