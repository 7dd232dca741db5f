use Rattle.std.proofs.Common.{◌≡◌, false, Ok}
use Rattle.weighing.specs.Queries.{asked}
use Rattle.ctrl_meaning.specs.Steps.{set_outcome}
use Rattle.ctrl_meaning.proofs.states.differing.Given as goal

-- what the states asked so far have answered
abbrev pub invariant-loop-state : goal.invariant-loop-state
invariant-loop-state l = asked false (set_outcome l.controller l.run l.at l.rule) l.state ≡ Ok l.found
