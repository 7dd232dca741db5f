use Rattle.std.proofs.Common.{◌≡◌}
use Rattle.run_rows.specs.Runs.{over_flows}
use Rattle.trace_picture.specs.Measures.{entry_of}
use Rattle.trace_picture.proofs.measures.total.Given as goal

abbrev pub invariant-loop-index : goal.invariant-loop-index
invariant-loop-index l = l.total ≡ over_flows (entry_of l.run l.row l.kind) l.index
