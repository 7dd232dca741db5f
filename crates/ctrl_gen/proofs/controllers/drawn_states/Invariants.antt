use Rattle.ctrl_gen.specs.Draws.{IsDrawn, each}
use Rattle.ctrl_gen.specs.Problems.{drawn_state}
use Rattle.ctrl_gen.proofs.controllers.drawn_states.Given as goal

abbrev pub invariant-loop-number : goal.invariant-loop-number
invariant-loop-number l = IsDrawn l.states l.draws.state (each drawn_state l.number l.initial.draws.state)
