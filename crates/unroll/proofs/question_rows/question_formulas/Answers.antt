use Rattle.std.proofs.Common.{length, sym, subst}
use Rattle.std.proofs.lemmas.Result.{IfOk-weaker}
use Rattle.clause_form.specs.Formulas.{CanTake, EachComparison}
use Rattle.run_rows.specs.Columns.{entries_of}
use Rattle.unroll.proofs.QuestionSizes.{question_takes}
use Rattle.unroll.specs.ClaimFormulas.{trees}
use Rattle.unroll.proofs.FlowMeaning.{question_in_run, question_made}
use Rattle.unroll.proofs.question_rows.question_formulas.Goals as goal

pub returns-clause-made : goal.returns-clause-made
returns-clause-made c =
    IfOk-weaker c.violation_formulas.result _ _ (λ fs is. question_made c.args.question.now c.args.shape.now (trees fs.items) c.requires is)
    c.violation_formulas.ensures

pub returns-clause-read : goal.returns-clause-read
returns-clause-read c =
    IfOk-weaker c.violation_formulas.result _ _ (λ fs is. question_in_run c.args.question.now c.args.shape.now (trees fs.items) c.requires is)
    c.violation_formulas.ensures

pub returns-clause-small : goal.returns-clause-small
returns-clause-small c =
    IfOk-weaker c.violation_formulas.result _ _ (λ fs is.
    subst (EachComparison (CanTake (length (entries_of c.args.shape.now)))) (sym is) (question_takes c.args.question.now c.args.shape.now c.requires))
    c.violation_formulas.ensures
