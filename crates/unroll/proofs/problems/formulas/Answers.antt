use Rattle.std.proofs.Common.{◌≡◌, ◌∙◌, ◌+◌, sym, subst, arith}
use Rattle.std.proofs.lemmas.Result.{IfOk-weaker}
use Rattle.run_rows.specs.Columns.{rows_of}
use Rattle.unroll.specs.QuestionFormulas.{IsShapeFor}
use Rattle.unroll.proofs.ProblemLaws.{problem_parts, shape_fits}
use Rattle.unroll.proofs.problems.formulas.Goals as goal

pub question_formulas-requires : goal.question_formulas-requires
question_formulas-requires c =
    subst (IsShapeFor c.args.question.now) (sym c.requires.shape_is)
    (shape_fits c.args.controller.now c.args.question.now c.requires.controller_in c.requires.question_in)

pub returns : goal.returns
returns c =
    let rows : c.loop-row.row ≡ rows_of c.args.shape.now = omega arith in
    IfOk-weaker c.with_all.result _ _ (λ fs is.
    is ∙ problem_parts c.args.controller.now c.args.question.now c.args.shape.now c.loop-row.row c.loop-row.formulas.items c.in_ok-asked.asked.items
    c.requires.shape_is rows c.loop-row.invariant c.in_ok-asked.ensures.exact) c.with_all.ensures
