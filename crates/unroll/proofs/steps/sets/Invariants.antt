use Rattle.std.specs.Prelude.{◌≡◌, map}
use Rattle.weighing.specs.First.{below}
use Rattle.claims.specs.Subjects.{part}
use Rattle.ctrl_meaning.specs.Steps.{set_claim, set_of}
use Rattle.unroll.specs.ClaimFormulas.{claim_formulas, trees}
use Rattle.unroll.proofs.steps.sets.Given as goal

-- each state so far is what the rule gives it
abbrev pub invariant-loop-state : goal.invariant-loop-state
invariant-loop-state l = trees l.parts.items ≡ claim_formulas l.shape (map (λ j. set_claim part l.at j (set_of l.controller l.rule j)) (below l.state))
