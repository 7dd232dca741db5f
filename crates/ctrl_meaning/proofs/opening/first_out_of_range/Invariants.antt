use Rattle.std.proofs.Common.{◌≡◌, false, Ok}
use Rattle.weighing.specs.Queries.{asked}
use Rattle.ctrl_meaning.specs.Opening.{state_in_range}
use Rattle.ctrl_meaning.proofs.opening.first_out_of_range.Given as goal

-- what the states asked so far have answered
abbrev pub invariant-loop-state : goal.invariant-loop-state
invariant-loop-state l = asked false (state_in_range l.controller l.run l.row l.flow) l.state ≡ Ok l.found
