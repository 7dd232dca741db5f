use Rattle.ctrl_syntax.specs.Sections.{rules_of}
use Rattle.ctrl_gen.specs.Draws.{IsDrawn, each}
use Rattle.ctrl_gen.specs.Problems.{drawn_rule}
use Rattle.ctrl_gen.proofs.controllers.drawn_rules.Given as goal

abbrev pub invariant-loop-made : goal.invariant-loop-made
invariant-loop-made l = IsDrawn (rules_of l.rules) l.draws.state (each (λ _. drawn_rule l.fn.states) l._made l.initial.draws.state)
