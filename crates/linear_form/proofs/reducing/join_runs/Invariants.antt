use Rattle.std.proofs.Common.{take}
use Rattle.linear_form.proofs.JoinedRuns.{Keeps, Follows}
use Rattle.linear_form.proofs.reducing.join_runs.Given as goal

abbrev pub invariant-loop-term : goal.invariant-loop-term
invariant-loop-term l = Keeps (take l.term-index l.sorted) l.term-index l.done.items l.run × Follows l.sorted l.term-index l.run
