use Rattle.std.proofs.Common.{◌≡◌, map}
use Rattle.std.specs.List.{range_with_len}
use Rattle.claims.specs.Columns.{flow_made}
use Rattle.linear_form.specs.Sums.{entry}
use Rattle.unroll.proofs.runs.flows.Given as goal

-- the flows so far
abbrev pub invariant-loop-index : goal.invariant-loop-index
invariant-loop-index l = l.flows.items ≡ map (flow_made l.shape (entry l.values) l.row) (range_with_len 1 l.index)
