use Rattle.std.proofs.Common.{◌≡◌, ◌+◌, Ok}
use Rattle.weighing.specs.First.{below, first}
use Rattle.trace_replay.specs.Replaying.{found, sends, steps}
use Rattle.trace_replay.proofs.fitted.FittedRun.examine_steps.Given as goal

-- the flows passed so far have taken their steps, and what they sent has this for its first finding
abbrev pub invariant-loop-index : goal.invariant-loop-index
invariant-loop-index l =
    (first (λ k. found l.self.controller.now l.self.question.now l.self.run.now (steps l.row (k + 1))) (below l.index) ≡ Ok tt)
    × (l.sent ≡ first (λ k. found l.self.controller.now l.self.question.now l.self.run.now (sends l.row (k + 1))) (below l.index))
