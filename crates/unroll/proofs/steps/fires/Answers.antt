use Rattle.std.proofs.Common.{◌≡◌, ℕ, List, [], ◌∷◌, ◌++◌, ◌∙◌, ap, map, arith}
use Rattle.claims.specs.Subjects.{Symbolic, part}
use Rattle.condition_tree.specs.Trees.{opposite}
use Rattle.clause_form.specs.Formulas.{formula_of}
use Rattle.weighing.specs.First.{below}
use Rattle.ctrl_meaning.specs.Flows.{guard_claim}
use Rattle.unroll.specs.ClaimFormulas.{claim_formulas, trees}
use Rattle.unroll.proofs.TreeFormulas.{conjunction_is, one_more_claim}
use Rattle.unroll.proofs.steps.fires.Goals as goal

pub returns : goal.returns
returns c =
    let s = c.args.shape.now in
    let guard : ℕ → Symbolic = guard_claim part c.args.controller.now c.args.at.now in
    let claim : ℕ → Symbolic = λ j. opposite (guard j) in
    let before : List Symbolic = map claim (below c.args.rule) in
    let last : c.loop-earlier.earlier ≡ c.args.rule = (let to = c.loop-earlier.auto.earlier-end in let from = c.loop-earlier-test.false in omega (arith, to, from)) in
    c.all.ensures
    ∙ conjunction_is s (before ++ guard c.args.rule ∷ []) (trees c.in_ok-with.field-0.items)
    (one_more_claim s before (guard c.args.rule) (trees c.loop-earlier.parts.items) (trees c.in_ok-with.field-0.items) (formula_of c.in_ok-own.own)
    (c.loop-earlier.invariant ∙ ap (λ n. claim_formulas s (map claim (below n))) last) c.in_ok-with.ensures c.in_ok-own.ensures)
