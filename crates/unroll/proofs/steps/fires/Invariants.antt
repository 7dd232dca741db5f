use Rattle.std.specs.Prelude.{◌≡◌, map}
use Rattle.condition_tree.specs.Trees.{opposite}
use Rattle.weighing.specs.First.{below}
use Rattle.claims.specs.Subjects.{part}
use Rattle.ctrl_meaning.specs.Flows.{guard_claim}
use Rattle.unroll.specs.ClaimFormulas.{claim_formulas, trees}
use Rattle.unroll.proofs.steps.fires.Given as goal

-- each guard so far is negated
abbrev pub invariant-loop-earlier : goal.invariant-loop-earlier
invariant-loop-earlier l = trees l.parts.items ≡ claim_formulas l.shape (map (λ j. opposite (guard_claim part l.controller l.at j)) (below l.earlier))
