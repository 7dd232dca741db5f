use Rattle.std.proofs.Common.{IfOk, sym, ◌∙◌, ◌≡◌, ap, subst}
use Rattle.claims.specs.Subjects.{part}
use Rattle.clause_form.specs.Formulas.{formula_of}
use Rattle.ctrl_types.specs.Tests.{test_of}
use Rattle.ctrl_meaning.specs.Guards.{leaf_claim, test_claim}
use Rattle.ctrl_meaning.proofs.ExampleFits.{cmp_test}
use Rattle.unroll.specs.ClaimFormulas.{claim_formula}
use Rattle.unroll.specs.FlowFormulas.{gate_tree}
use Rattle.unroll.proofs.GateTests.{and_test, or_test}
use Rattle.unroll.proofs.TreeFormulas.{all_with, any_with, conjunction_made, disjunction_made}
use Rattle.unroll.proofs.gates.+guards.Goals as goal

pub gate_formula-returns-in-Cmp : goal.gate_formula-returns-in-Cmp
gate_formula-returns-in-Cmp t c =
    subst (λ t. IfOk c.comparison.result (λ f. formula_of f ≡ t))
    (sym (ap (gate_tree c.args.shape.now c.args.at.now) c.in-Cmp.is
    ∙ ap (λ x. claim_formula c.args.shape.now (test_claim part c.args.at.now x)) (cmp_test c.in-Cmp.left c.in-Cmp.rel c.in-Cmp.right)))
    c.comparison.ensures

pub gate_formula-returns-in-And : goal.gate_formula-returns-in-And
gate_formula-returns-in-And t c =
    let s = c.args.shape.now in
    let at = c.args.at.now in
    subst (λ t. IfOk c.all_hold.result (λ f. formula_of f ≡ t))
    (sym (ap (gate_tree s at) c.in-And.is ∙ ap (λ x. claim_formula s (test_claim part at x)) (and_test c.in-And.parts)
    ∙ conjunction_made s (test_claim part at) test_of (all_with (leaf_claim part at)) c.in-And.parts.items))
    c.all_hold.ensures

pub gate_formula-returns-in-Or : goal.gate_formula-returns-in-Or
gate_formula-returns-in-Or t c =
    let s = c.args.shape.now in
    let at = c.args.at.now in
    subst (λ t. IfOk c.any_holds.result (λ f. formula_of f ≡ t))
    (sym (ap (gate_tree s at) c.in-Or.is ∙ ap (λ x. claim_formula s (test_claim part at x)) (or_test c.in-Or.parts)
    ∙ disjunction_made s (test_claim part at) test_of (any_with (leaf_claim part at)) c.in-Or.parts.items))
    c.any_holds.ensures
