use Rattle.std.specs.Prelude.{map}
use Rattle.weighing.specs.First.{below}
use Rattle.claims.specs.Subjects.{part}
use Rattle.ctrl_meaning.specs.Flows.{rule_claim}
use Rattle.unroll.specs.ClaimFormulas.{Adds}
use Rattle.unroll.proofs.steps.plus_steps.Given as goal

-- the formulas of the rules so far stand after those before
abbrev pub invariant-loop-rule : goal.invariant-loop-rule
invariant-loop-rule l = Adds l.shape l.fn.formulas.items (map (rule_claim part l.controller l.at) (below l.rule)) l.formulas.items
