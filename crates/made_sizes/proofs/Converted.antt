-- A problem that is small is converted to clauses.
use Rattle.std.proofs.Common.{length, arith}
use Rattle.std.specs.Prelude.{IsOk}
use Rattle.run_rows.specs.Columns.{entries_of}
use Rattle.ctrl_types.specs.declared.controllers.Controller.{Controller}
use Rattle.ctrl_meaning.specs.Flows.{shape_for}
use Rattle.question_text.specs.declared.questions.Question.{Question}
use Rattle.clause_form.specs.Building.{clauses_of}
use Rattle.unroll.specs.Problems.{problem_claims, problem_formulas}
use Rattle.made_sizes.specs.Drawn.{IsSmall}
use Rattle.made_sizes.proofs.FormulaSizes.{measured_converted}
use Rattle.made_sizes.proofs.QuestionMeasures.{columns_few, problem_measured}

pub small_converted : (c : Controller) (q : Question) → IsSmall c q → IsOk (clauses_of (length (entries_of (shape_for c q.setting))) (problem_formulas c q))
small_converted c q is =
    let columns = columns_few c q is in
    measured_converted (shape_for c q.setting) (length (entries_of (shape_for c q.setting))) 1548 3973 13369 (problem_claims c q) (problem_measured c q is)
    (omega arith) (omega arith) (omega arith)
