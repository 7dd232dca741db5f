-- What the formulas of the flows and of the question mean.
use Rattle.std.proofs.Common.{◌≡◌, ℕ, ◌<◌, Bool, ℤ, pos, List, map, sym, subst, arith}
use Rattle.std.proofs.lemmas.Int.{ints}
use Rattle.std.specs.Prelude.{All}
use Rattle.condition_tree.specs.Trees.{Tree}
use Rattle.claims.specs.Subjects.{Symbolic, part, with_values}
use Rattle.claims.specs.Columns.{column_value, run_of}
use Rattle.weighing.specs.Claim.{Holds}
use Rattle.run_rows.specs.Columns.{rows_of, value_at}
use Rattle.run_rows.specs.Runs.{Shaped}
use Rattle.run_rows.specs.declared.rows.Run.{Run}
use Rattle.run_rows.specs.declared.shapes.Shape.{Shape}
use Rattle.path_server.proofs.RuleLaws.{Means}
use Rattle.path_server.specs.Shapes.{shape_of}
use Rattle.path_server.specs.declared.settings.Setting.{Setting}
use Rattle.ctrl_types.specs.Limits.{IsController}
use Rattle.ctrl_types.specs.declared.controllers.Controller.{Controller}
use Rattle.ctrl_meaning.specs.Flows.{FlowsHold, flow_claims}
use Rattle.ctrl_meaning.specs.Limits.{HasShape}
use Rattle.ctrl_meaning.proofs.FlowColumns.{flows_meet, flows_read}
use Rattle.question_text.specs.Claims.{question_claims, rows_for}
use Rattle.question_text.specs.Meaning.{Violates}
use Rattle.question_text.specs.declared.questions.Question.{Question}
use Rattle.question_text.proofs.QuestionColumns.{question_meets, question_read}
use Rattle.linear_form.specs.declared.relations.Comparison.{Comparison}
use Rattle.clause_form.specs.Formulas.{AreTrueAt}
use Rattle.unroll.specs.ClaimFormulas.{claim_formulas}
use Rattle.ctrl_meaning.specs.Flows.{shape_for}
use Rattle.unroll.specs.QuestionFormulas.{IsShapeFor}
use Rattle.unroll.proofs.ClaimLaws.{formulas_mean}

-- formulas of claims are true of the values exactly where the claims hold of them
by_claims : (s : Shape) (value : ℕ → ℤ) (over : ℕ) (cs : List Symbolic) (ts : List (Tree Comparison)) (P : Type 0) → ts ≡ claim_formulas s cs
    → Means (All Holds (map (with_values (column_value s value (pos over))) cs)) P → Means (AreTrueAt value over ts) P
by_claims s value over cs ts P is law =
    let formulas = formulas_mean s value over cs in
    (λ h. law.0 (formulas.0 (subst (AreTrueAt value over) is h)), λ p. subst (AreTrueAt value over) (sym is) (formulas.1 (law.1 p)))

pub flows_made : (free : Bool) (c : Controller) (s : Setting) (i : ℕ) (ts : List (Tree Comparison)) → IsController c → i < rows_of (shape_for c s)
    → ts ≡ claim_formulas (shape_for c s) (flow_claims part free c s i) → (value : ℕ → ℤ) (over : ℕ) → 0 < over
    → Means (AreTrueAt value over ts) (FlowsHold free c s (run_of (shape_for c s) value (pos over)) i)
flows_made free c s i ts is row same value over some =
    by_claims (shape_for c s) value over (flow_claims part free c s i) ts _ same (flows_meet free c s value (pos over) i is (omega (arith, ints)) row)

pub flows_in_run : (free : Bool) (c : Controller) (s : Setting) (i : ℕ) (ts : List (Tree Comparison)) → IsController c → i < rows_of (shape_for c s)
    → ts ≡ claim_formulas (shape_for c s) (flow_claims part free c s i) → (r : Run) (over : ℕ) → HasShape c s r → r.over ≡ pos over
    → Means (AreTrueAt (value_at (shape_for c s) r) over ts) (FlowsHold free c s r i)
flows_in_run free c s i ts is row same r over shaped units =
    let shape : Shape = shape_for c s in
    by_claims shape (value_at shape r) over (flow_claims part free c s i) ts _ same
    (subst (λ n. Means (All Holds (map (with_values (column_value shape (value_at shape r) n)) (flow_claims part free c s i))) (FlowsHold free c s r i)) units
    (flows_read free c s r i is shaped row))

-- the claims of a question whose shape is known
abbrev asked : Question → Shape → List Symbolic
asked q shape = question_claims part shape.flows (rows_for shape) q

pub question_made : (q : Question) (shape : Shape) (ts : List (Tree Comparison)) → IsShapeFor q shape → ts ≡ claim_formulas shape (asked q shape)
    → (value : ℕ → ℤ) (over : ℕ) → 0 < over → Means (AreTrueAt value over ts) (Violates q (run_of shape value (pos over)))
question_made q shape ts fit same value over some =
    by_claims shape value over (asked q shape) ts _ same
    (subst (λ s. Means (All Holds (map (with_values (column_value s value (pos over))) (asked q s))) (Violates q (run_of s value (pos over)))) (sym fit.in_shape.is)
    (question_meets q fit.in_shape.states fit.in_shape.delay_max value (pos over) fit.question_in (omega (arith, ints))))

pub question_in_run : (q : Question) (shape : Shape) (ts : List (Tree Comparison)) → IsShapeFor q shape → ts ≡ claim_formulas shape (asked q shape)
    → (r : Run) (over : ℕ) → Shaped shape r → r.over ≡ pos over → Means (AreTrueAt (value_at shape r) over ts) (Violates q r)
question_in_run q shape ts fit same r over shaped units =
    by_claims shape (value_at shape r) over (asked q shape) ts _ same
    (subst (λ s. Means (All Holds (map (with_values (column_value s (value_at s r) (pos over))) (asked q s))) (Violates q r)) (sym fit.in_shape.is)
    (subst (λ n. Means (All Holds (map (with_values (column_value (given fit) (value_at (given fit) r) n)) (asked q (given fit)))) (Violates q r)) units
    (question_read q fit.in_shape.states fit.in_shape.delay_max r fit.question_in (subst (λ s. Shaped s r) fit.in_shape.is shaped))))
  where
    given : IsShapeFor q shape → Shape
    given fit = shape_of q.setting fit.in_shape.states fit.in_shape.delay_max
