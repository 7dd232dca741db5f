use Rattle.std.proofs.Common.{◌≡◌, ◌+◌, Ok}
use Rattle.weighing.specs.First.{below, first}
use Rattle.trace_replay.specs.Replaying.{found, opens}
use Rattle.trace_replay.proofs.fitted.FittedRun.examine_openings.Given as goal

-- the flows passed so far open within their ranges
abbrev pub invariant-loop-index : goal.invariant-loop-index
invariant-loop-index l = first (λ k. found l.self.controller.now l.self.question.now l.self.run.now (opens (k + 1))) (below l.index) ≡ Ok tt
