use Rattle.std.proofs.Common.{IfOk, sym, ◌∙◌, ◌≡◌, ap, subst}
use Rattle.claims.specs.Subjects.{part}
use Rattle.clause_form.specs.Formulas.{formula_of}
use Rattle.question_text.specs.Conditions.{condition_of}
use Rattle.question_text.specs.Expressions.{condition_claim, leaf_claim}
use Rattle.question_text.proofs.ExampleLimits.{cmp_condition}
use Rattle.unroll.specs.ClaimFormulas.{claim_formula}
use Rattle.unroll.specs.QuestionFormulas.{condition_tree}
use Rattle.unroll.proofs.GateTests.{and_condition, or_condition}
use Rattle.unroll.proofs.TreeFormulas.{all_with, any_with, conjunction_made, disjunction_made}
use Rattle.unroll.proofs.question_rows.+conditions.Goals as goal

pub condition_formula-returns-in-Cmp : goal.condition_formula-returns-in-Cmp
condition_formula-returns-in-Cmp t c =
    subst (λ t. IfOk c.named_comparison.result (λ f. formula_of f ≡ t))
    (sym (ap (condition_tree c.args.shape.now c.args.at.now) c.in-Cmp.is
    ∙ ap (λ x. claim_formula c.args.shape.now (condition_claim part c.args.shape.now.flows c.args.at.now x)) (cmp_condition c.in-Cmp.left c.in-Cmp.rel c.in-Cmp.right)))
    c.named_comparison.ensures

pub condition_formula-returns-in-And : goal.condition_formula-returns-in-And
condition_formula-returns-in-And t c =
    let s = c.args.shape.now in
    let at = c.args.at.now in
    subst (λ t. IfOk c.all_hold.result (λ f. formula_of f ≡ t))
    (sym (ap (condition_tree s at) c.in-And.is ∙ ap (λ x. claim_formula s (condition_claim part s.flows at x)) (and_condition c.in-And.parts)
    ∙ conjunction_made s (condition_claim part s.flows at) condition_of (all_with (leaf_claim part s.flows at)) c.in-And.parts.items))
    c.all_hold.ensures

pub condition_formula-returns-in-Or : goal.condition_formula-returns-in-Or
condition_formula-returns-in-Or t c =
    let s = c.args.shape.now in
    let at = c.args.at.now in
    subst (λ t. IfOk c.any_holds.result (λ f. formula_of f ≡ t))
    (sym (ap (condition_tree s at) c.in-Or.is ∙ ap (λ x. claim_formula s (condition_claim part s.flows at x)) (or_condition c.in-Or.parts)
    ∙ disjunction_made s (condition_claim part s.flows at) condition_of (any_with (leaf_claim part s.flows at)) c.in-Or.parts.items))
    c.any_holds.ensures
