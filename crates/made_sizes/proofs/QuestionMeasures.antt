-- The claims of a drawn problem are few, and so are its columns.
use Rattle.std.proofs.Common.{◌≡◌, ℕ, ◌+◌, ◌-◌, ◌*◌, ◌≤◌, List, [], ◌∷◌, ◌++◌, map, length, sym, subst, arith}
use Rattle.std.specs.Prelude.{flat_map, false}
use Rattle.std.proofs.Math.Nat.{mul-le-mul_left, mul-le-mul_right}
use Rattle.condition_tree.specs.Trees.{opposite}
use Rattle.weighing.specs.First.{below}
use Rattle.weighing.specs.declared.weighings.Rel5.TheVariants.{AtLeast}
use Rattle.claims.specs.Subjects.{part}
use Rattle.run_rows.specs.Columns.{entries_of, rows_of}
use Rattle.run_rows.specs.declared.shapes.Shape.{Shape}
use Rattle.run_rows.proofs.EntryPlaces.{length-entries_before}
use Rattle.path_server.specs.RowClaims.{row_claims}
use Rattle.path_server.specs.Servers.{server_of}
use Rattle.ctrl_types.specs.declared.controllers.Controller.{Controller}
use Rattle.ctrl_meaning.specs.Flows.{flow_claims, shape_for}
use Rattle.ctrl_meaning.specs.Opening.{opening_row}
use Rattle.question_text.specs.Claims.{assumed_claim, question_claims, rows_for}
use Rattle.question_text.specs.Conditions.{Condition, comparison}
use Rattle.question_text.specs.Expressions.{condition_claim}
use Rattle.question_text.specs.declared.conditions.QCond.{QCond}
use Rattle.question_text.specs.declared.conditions.QLin.{QLin}
use Rattle.question_text.specs.declared.names.Rows.{Rows}
use Rattle.question_text.specs.declared.questions.Question.{Question}
use Rattle.unroll.specs.Problems.{problem_claims, row_problem}
use Rattle.made_sizes.specs.Drawn.{IsSmall}
use Rattle.made_sizes.proofs.Measures.{Measured, measured_to, measured_own, measured_none, measured_joined, measured_more}
use Rattle.made_sizes.proofs.FlowMeasures.{before_measured, opens_measured, steps_on_measured}
use Rattle.made_sizes.proofs.PathMeasures.{path_measured}

-- ---- the question

require_measured : (n : ℕ) (at : Rows) (left right : QLin) → Measured (opposite (condition_claim part n at (comparison left AtLeast right)) ∷ []) 1 1 1
require_measured n at left right =
    measured_own (opposite (condition_claim part n at (comparison left AtLeast right)) ∷ []) 1 1 1 (omega arith) (omega arith) (omega arith)

question_measured : (n : ℕ) (at : Rows) (c : Controller) (q : Question) → IsSmall c q → Measured (question_claims part n at q) 1 1 1
question_measured n at c q is =
    subst (λ (ds : List QCond). Measured (map (assumed_claim part n at) ds ++ opposite (assumed_claim part n at q.require) ∷ []) 1 1 1) (sym is.assumes)
    (subst (λ (d : Condition). Measured (opposite (condition_claim part n at d) ∷ []) 1 1 1) (sym is.require) (require_measured n at is.left is.right))

-- ---- the rows

module _ (c : Controller) (q : Question) (is : IsSmall c q) where
  with_path : (i n a d : ℕ) → Measured (flow_claims part false c q.setting i) n a d → Measured (row_problem c q i) (19 + n) (24 + a) (60 + d)
  unfolding row_problem
  with_path i n a d flows =
      measured_joined (row_claims part q.setting.flows (server_of q.setting.path) i) (flow_claims part false c q.setting i) 19 24 60 n a d
      (path_measured q.setting.flows (server_of q.setting.path) i is.flows_from is.flows_to) flows

  abbrev opens : ℕ
  opens = opening_row c q.setting

  before : Measured (flat_map (row_problem c q) (below (opens + 0))) (0 + opens * 19) (0 + opens * 24) (0 + opens * 60)
  before = measured_more (row_problem c q) 0 opens 19 24 60 0 0 0 measured_none (λ j from to. with_path j 0 0 0 (before_measured c q.setting j (omega arith)))

  opened : Measured (flat_map (row_problem c q) (below (1 + (opens + 0)))) (0 + opens * 19 + 1 * 31) (0 + opens * 24 + 1 * 36) (0 + opens * 60 + 1 * 72)
  opened =
      measured_more (row_problem c q) (opens + 0) 1 31 36 72 (0 + opens * 19) (0 + opens * 24) (0 + opens * 60) before
      (λ j from to. with_path j 12 12 12 (opens_measured c q.setting j (omega arith) is.controller.states_to is.flows_to))

  abbrev steps : ℕ
  steps = q.setting.steps

  stepped : Measured (flat_map (row_problem c q) (below (steps + (1 + (opens + 0))))) (0 + opens * 19 + 1 * 31 + steps * 45)
      (0 + opens * 24 + 1 * 36 + steps * 120) (0 + opens * 60 + 1 * 72 + steps * 408)
  stepped =
      measured_more (row_problem c q) (1 + (opens + 0)) steps 45 120 408 (0 + opens * 19 + 1 * 31) (0 + opens * 24 + 1 * 36) (0 + opens * 60 + 1 * 72) opened
      (λ j from to. with_path j 26 96 348 (steps_on_measured c q.setting j (omega arith) is.controller is.flows_to))

  -- the opening row is the fourth at most
  opens_early : opens ≤ 4
  opens_early = let delay = is.controller.delay_to in let rtt = is.rtt_to in omega arith

  pub problem_measured : Measured (problem_claims c q) 1548 3973 13369
  unfolding problem_claims
  problem_measured =
      let early = opens_early in
      let steps_to = is.steps_to in
      let rows : steps + (1 + (opens + 0)) ≡ rows_of (shape_for c q.setting) = omega arith in
      measured_to (problem_claims c q) (0 + opens * 19 + 1 * 31 + steps * 45 + 1) (0 + opens * 24 + 1 * 36 + steps * 120 + 1)
      (0 + opens * 60 + 1 * 72 + steps * 408 + 1) 1548 3973 13369
      (measured_joined (flat_map (row_problem c q) (below (rows_of (shape_for c q.setting))))
      (question_claims part q.setting.flows (rows_for (shape_for c q.setting)) q)
      (0 + opens * 19 + 1 * 31 + steps * 45) (0 + opens * 24 + 1 * 36 + steps * 120) (0 + opens * 60 + 1 * 72 + steps * 408) 1 1 1
      (subst (λ (n : ℕ). Measured (flat_map (row_problem c q) (below n)) (0 + opens * 19 + 1 * 31 + steps * 45) (0 + opens * 24 + 1 * 36 + steps * 120)
      (0 + opens * 60 + 1 * 72 + steps * 408)) rows stepped)
      (question_measured q.setting.flows (rows_for (shape_for c q.setting)) c q is))
      (omega arith) (omega arith) (omega arith)

  -- ---- the columns

  pub columns_few : length (entries_of (shape_for c q.setting)) ≤ 458
  columns_few =
      let s : Shape = shape_for c q.setting in
      let early = opens_early in
      let steps_to = is.steps_to in
      let flows_to = is.flows_to in
      let states_to = is.controller.states_to in
      let count = length-entries_before s (rows_of s) in
      let rows : rows_of s ≤ 37 = omega arith in
      let row : 1 + 3 * q.setting.flows ≤ 7 = omega arith in
      let behind : rows_of s - s.h ≤ 33 = omega arith in
      let states : q.setting.flows * length c.states ≤ 2 * 3 = omega (arith, mul-le-mul_left q.setting.flows states_to, mul-le-mul_right 3 flows_to) in
      let plain : rows_of s * (1 + 3 * q.setting.flows) ≤ 37 * 7 = omega (arith, mul-le-mul_left (rows_of s) row, mul-le-mul_right 7 rows) in
      let stated : (rows_of s - s.h) * (q.setting.flows * length c.states) ≤ 33 * 6 =
      omega (arith, mul-le-mul_left (rows_of s - s.h) states, mul-le-mul_right 6 behind) in
      omega (arith, count, plain, stated)
