-- The formulas of a problem, and the runs that it is about.
use Rattle.std.specs.Prelude.{ℕ, List, ◌++◌, false, flat_map}
use Rattle.condition_tree.specs.Trees.{Tree}
use Rattle.linear_form.specs.declared.relations.Comparison.{Comparison}
use Rattle.claims.specs.Subjects.{Symbolic, part}
use Rattle.weighing.specs.First.{below}
use Rattle.run_rows.specs.Columns.{rows_of}
use Rattle.run_rows.specs.declared.rows.Run.{Run}
use Rattle.path_server.specs.RowClaims.{row_claims}
use Rattle.path_server.specs.Servers.{server_of}
use Rattle.ctrl_types.specs.declared.controllers.Controller.{Controller}
use Rattle.ctrl_meaning.specs.Flows.{flow_claims, shape_for}
use Rattle.ctrl_meaning.specs.RunOf.{RunOf}
use Rattle.question_text.specs.Claims.{question_claims, rows_for}
use Rattle.question_text.specs.Meaning.{Violates}
use Rattle.question_text.specs.declared.questions.Question.{Question}
use Rattle.unroll.specs.ClaimFormulas.{claim_formulas}

-- what is claimed of a row: first of the path, then of the flows
unfoldable pub row_problem : Controller → Question → ℕ → List Symbolic
row_problem c q i = row_claims part q.setting.flows (server_of q.setting.path) i ++ flow_claims part false c q.setting i

-- the rows in order, and last the question
unfoldable pub problem_claims : Controller → Question → List Symbolic
problem_claims c q =
    flat_map (row_problem c q) (below (rows_of (shape_for c q.setting)))
    ++ question_claims part q.setting.flows (rows_for (shape_for c q.setting)) q

abbrev pub problem_formulas : Controller → Question → List (Tree Comparison)
problem_formulas c q = claim_formulas (shape_for c q.setting) (problem_claims c q)

-- a run of the controller, of any size, that violates the question
pub record IsViolation (c : Controller) (q : Question) (r : Run) : Type 0 where
  pub run : RunOf c q.setting r
  pub violates : Violates q r
