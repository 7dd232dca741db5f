-- The problem that a question poses, and what it is about.
use Rattle.std.specs.Prelude.{◌≡◌, length, Result, Ok}
use Rattle.run_rows.specs.Columns.{entries_of}
use Rattle.run_rows.specs.declared.rows.Run.{Run}
use Rattle.ctrl_types.specs.declared.controllers.Controller.{Controller}
use Rattle.ctrl_meaning.specs.Flows.{shape_for}
use Rattle.ctrl_meaning.specs.RunOf.{RunOf}
use Rattle.question_text.specs.Meaning.{Violates}
use Rattle.question_text.specs.declared.questions.Question.{Question}
use Rattle.clause_form.specs.Building.{clauses_of}
use Rattle.clause_form.specs.declared.clauses.Clauses.{Clauses}
use Rattle.clause_form.specs.declared.clauses.What.{What}
use Rattle.unroll.specs.Problems.{problem_formulas}
use Rattle.unroll.specs.declared.problems.Problem.{Problem}

-- the clauses that have a model exactly where some run violates the question, or the limit that they would pass first
abbrev pub problem_of : Controller → Question → Result Clauses What
problem_of c q = clauses_of (length (entries_of (shape_for c q.setting))) (problem_formulas c q)

-- the problem has these clauses, over the columns of the question's runs
pub record IsProblemOf (c : Controller) (q : Question) (p : Problem) : Type 0 where
  pub made : problem_of c q ≡ Ok p.clauses
  pub shape_is : p.shape ≡ shape_for c q.setting

-- no run, whatever its denominator and the size of its numbers, is one of the controller's flows on an admitted path and
-- violates the question
abbrev pub NoneViolates : Controller → Question → Type 0
NoneViolates c q = (r : Run) → RunOf c q.setting r → Violates q r → ⊥
