use Rattle.ctrl_gen.specs.Draws.{IsDrawn, each}
use Rattle.ctrl_gen.specs.Problems.{drawn_set}
use Rattle.ctrl_gen.proofs.controllers.drawn_sets.Given as goal

abbrev pub invariant-loop-number : goal.invariant-loop-number
invariant-loop-number l = IsDrawn l.sets l.draws.state (each drawn_set l.number l.initial.draws.state)
