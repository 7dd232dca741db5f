-- The answer about a run: every assumption and the requirement are weighed, in order, before any truth is taken.
use Rattle.std.specs.Prelude.{ℕ, ◌-◌, ℤ, Bool, length, map, Result}
use Rattle.whole.specs.declared.answers.Stuck.{Stuck}
use Rattle.condition_tree.specs.Trees as trees
use Rattle.claims.specs.Subjects.{Subject, in_run}
use Rattle.run_rows.specs.Runs.{flow_count}
use Rattle.weighing.specs.Claim.{Claims, outcome}
use Rattle.run_rows.specs.declared.rows.Run.{Run}
use Rattle.question_text.specs.Conditions.{Condition, condition_of, conjunction}
use Rattle.question_text.specs.Expressions.{condition_claim}
use Rattle.question_text.specs.declared.names.Rows.{Rows}
use Rattle.question_text.specs.declared.questions.Question.{Question}

-- the last row of the run, and the row that lies the question's steps before it
abbrev pub rows_of : Question → Run → Rows
rows_of q r = record { opening = length r.rows - 1 - q.setting.steps; last = length r.rows - 1 }

-- all assumptions, in order
abbrev pub assumptions : Question → Condition
assumptions q = conjunction (map condition_of q.assumes)

-- every assumption, and that the requirement is false
abbrev pub violation_claim : {T : Type 0} → (ℤ → Subject → T) → ℕ → Rows → Question → Claims T
violation_claim term n at q = trees.all_of (condition_claim term n at (assumptions q)) (trees.opposite (condition_claim term n at (condition_of q.require)))

unfoldable pub violation : Question → Run → Result Bool Stuck
violation q r = outcome (rows_of q r).last (violation_claim (in_run r) (flow_count r 0) (rows_of q r) q)
