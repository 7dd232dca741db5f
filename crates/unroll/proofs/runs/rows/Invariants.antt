use Rattle.std.proofs.Common.{◌≡◌, map}
use Rattle.std.specs.List.{range_with_len}
use Rattle.claims.specs.Columns.{row_made}
use Rattle.linear_form.specs.Sums.{entry}
use Rattle.unroll.proofs.runs.rows.Given as goal

-- the rows so far
abbrev pub invariant-loop-row : goal.invariant-loop-row
invariant-loop-row l = l.rows.items ≡ map (row_made l.shape (entry l.values)) (range_with_len 0 l.row)
