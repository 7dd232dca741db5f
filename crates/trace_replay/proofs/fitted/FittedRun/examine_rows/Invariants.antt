use Rattle.std.proofs.Common.{◌≡◌, Ok}
use Rattle.weighing.specs.First.{below, first}
use Rattle.trace_replay.specs.Replaying.{found, places_of_row}
use Rattle.trace_replay.proofs.fitted.FittedRun.examine_rows.Given as goal

-- nothing is amiss on the rows passed so far
abbrev pub invariant-loop-row : goal.invariant-loop-row
invariant-loop-row l = first (λ i. first (found l.self.controller.now l.self.question.now l.self.run.now) (places_of_row l.self.controller.now l.self.question.now l.self.run.now i)) (below l.row) ≡ Ok tt
