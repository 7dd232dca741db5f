use Rattle.std.proofs.Common.{◌∙◌, ap, map}
use Rattle.std.proofs.lemmas.Result.{IfOk-weaker}
use Rattle.claims.specs.Subjects.{Symbolic, part}
use Rattle.condition_tree.specs.Trees.{opposite}
use Rattle.clause_form.specs.Formulas.{formula_of}
use Rattle.question_text.specs.Claims.{assumed_claim, rows_for}
use Rattle.question_text.specs.declared.conditions.QCond.{QCond}
use Rattle.unroll.specs.ClaimFormulas.{trees}
use Rattle.unroll.proofs.QuestionReady.{asked_can}
use Rattle.unroll.proofs.TreeFormulas.{claims_once, one_more_claim}
use Rattle.unroll.proofs.question_rows.violation_formulas.Goals as goal

pub condition_formula-requires-clause-can : goal.condition_formula-requires-clause-can
condition_formula-requires-clause-can c = asked_can c.args.question.now c.args.shape.now c.args.question.now.require c.requires c.requires.question_in.require_in

pub returns : goal.returns
returns c =
    let s = c.args.shape.now in
    let q = c.args.question.now in
    let claim : QCond → Symbolic = assumed_claim part s.flows (rows_for s) in
    IfOk-weaker c.with.result _ _ (λ fs more.
    one_more_claim s (map claim q.assumes) (opposite (claim q.require)) (trees c.in_ok-assumed.assumed.items) (trees fs.items) (formula_of c.in_ok-not.field-0)
    (c.in_ok-assumed.ensures ∙ claims_once s claim q.assumes) more (c.in_ok-not.ensures ∙ ap opposite c.in_ok-required.ensures))
    c.with.ensures
