-- What is answered to the texts of a controller and a question: the first of them that is refused; or what is written of the problem
-- that they pose, or that it is too large.
use Rattle.std.specs.Prelude.{ℕ, List, length, Result, Ok, Err}
use Rattle.whole.specs.declared.answers.Refusal.{Refusal}
use Rattle.run_rows.specs.Columns.{entries_of}
use Rattle.ctrl_types.specs.declared.controllers.Controller.{Controller as AController}
use Rattle.ctrl_meaning.specs.Flows.{shape_for}
use Rattle.question_text.specs.declared.questions.Question.{Question as AQuestion}
use Rattle.clause_form.specs.Building.{clauses_of, limit_of}
use Rattle.clause_form.specs.declared.clauses.Clauses.{Clauses}
use Rattle.clause_form.specs.declared.clauses.What.{What}
use Rattle.unroll.specs.Problems.{problem_formulas}
use Rattle.smt_text.specs.Texts.{counts_text, problem_text}
use Rattle.asked.specs.Asked.{AreAsked, IsQuestionRefused}
use Rattle.asked.specs.Texts.{IsControllerRefused}
use Rattle.problem_smt.specs.Reports.{Answer, refused, too_large}
use Rattle.problem_smt.specs.declared.reports.Source.TheVariants.{Controller, Question}
use Rattle.problem_smt.specs.declared.requests.Kind.{Kind}
use Rattle.problem_smt.specs.declared.requests.Kind.TheVariants.{Problem, Counts}

-- the clauses that have a model exactly where some run of the controller violates the question, or the limit that they would pass first
abbrev pub problem_of : AController → AQuestion → Result Clauses What
problem_of c q = clauses_of (length (entries_of (shape_for c q.setting))) (problem_formulas c q)

abbrev pub text_of : Kind → Clauses → List ℕ
text_of Problem clauses = problem_text clauses
text_of Counts clauses = counts_text clauses

-- the clauses as they are written, or that they are too large
abbrev pub answer_of : Kind → Result Clauses What → Answer
answer_of kind (Ok clauses) = record { status = 0; text = text_of kind clauses }
answer_of kind (Err what) = too_large what (limit_of what)

-- the one answer to these bytes
pub data Answers (kind : Kind) (controller question : List ℕ) : Answer → Type 0 where
  controller_refused : (r : Refusal) → IsControllerRefused controller r → Answers kind controller question (refused Controller r)
  question_refused : (r : Refusal) → IsQuestionRefused controller question r → Answers kind controller question (refused Question r)
  posed : (c : AController) (q : AQuestion) → AreAsked controller question c q → Answers kind controller question (answer_of kind (problem_of c q))
