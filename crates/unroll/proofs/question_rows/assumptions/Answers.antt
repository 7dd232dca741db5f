use Rattle.std.proofs.Common.{sym, subst}
use Rattle.std.specs.Prelude.{All}
use Rattle.question_text.specs.Claims.{CanTake}
use Rattle.question_text.specs.Conditions.{condition_of}
use Rattle.question_text.specs.declared.conditions.QCond.{QCond}
use Rattle.unroll.specs.QuestionLimits.{CanBuild}
use Rattle.unroll.proofs.QuestionReady.{asked_can}
use Rattle.unroll.proofs.question_rows.assumptions.Goals as goal

pub condition_formula-requires-clause-can : goal.condition_formula-requires-clause-can
condition_formula-requires-clause-can c =
    let q = c.args.question.now in
    let fit = c.requires.shape_in in
    let items = c.as_slice-assumption-items.result.now in
    let each = subst (All (λ (d : QCond). CanTake fit.in_shape.states q.setting (condition_of d))) (sym c.as_slice-assumption-items.ensures) fit.question_in.assumes_in in
    let here = each c.loop-assumption.assumption-index c.assumption-item.result c.loop-assumption-test.true in
    subst (λ at. CanBuild c.args.shape.now at (condition_of c.assumption-item.result)) (sym c.requires.at_in)
    (asked_can q c.args.shape.now c.assumption-item.result fit
    (subst (λ (d : QCond). CanTake fit.in_shape.states q.setting (condition_of d)) (sym c.assumption-item.is) here))
