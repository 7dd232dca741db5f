use Rattle.std.proofs.Common.{◌≡◌, ℕ, ◌∙◌, ap, length, map, arith}
use Rattle.claims.specs.Subjects.{Symbolic, part}
use Rattle.weighing.specs.First.{below}
use Rattle.ctrl_meaning.specs.Steps.{set_claim, set_of}
use Rattle.unroll.specs.ClaimFormulas.{claim_formulas, trees}
use Rattle.unroll.proofs.TreeFormulas.{conjunction_is}
use Rattle.unroll.proofs.steps.sets.Goals as goal

pub returns : goal.returns
returns c =
    let s = c.args.shape.now in
    let claim : ℕ → Symbolic = λ j. set_claim part c.args.at.now j (set_of c.args.controller.now c.args.rule j) in
    let count : c.len-state-end.result ≡ length c.args.controller.now.states = c.len-state-end.ensures in
    let to = c.loop-state.auto.state-end in
    let from = c.loop-state-test.false in
    let last : c.loop-state.state ≡ length c.args.controller.now.states = omega (arith, to, from, count) in
    c.all.ensures
    ∙ conjunction_is s (map claim (below (length c.args.controller.now.states))) (trees c.loop-state.parts.items)
    (c.loop-state.invariant ∙ ap (λ n. claim_formulas s (map claim (below n))) last)
