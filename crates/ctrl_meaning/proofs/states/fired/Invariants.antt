use Rattle.std.proofs.Common.{◌≡◌, true, Ok}
use Rattle.weighing.specs.Queries.{asked}
use Rattle.ctrl_meaning.specs.Steps.{guard_outcome}
use Rattle.ctrl_meaning.proofs.states.fired.Given as goal

-- what the guards asked so far have answered
abbrev pub invariant-loop-rule : goal.invariant-loop-rule
invariant-loop-rule l = asked true (guard_outcome l.controller l.run l.at) l.rule ≡ Ok l.found
