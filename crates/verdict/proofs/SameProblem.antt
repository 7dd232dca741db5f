-- The problem that a question poses depends on the controller and on the question only as they are seen.
use Rattle.std.proofs.Common.{◌≡◌, ℕ, false, List, [], ◌∷◌, ◌++◌, length, map, get_or, None, Result, refl, sym, ◌∙◌, ap}
use Rattle.std.specs.Prelude.{◌==◌, nat_lt, flat_map, if◌then◌else◌}
use Rattle.std.proofs.lemmas.Simd.{map-map}
use Rattle.std.proofs.Math.ListN.{get_or-map, length-map}
use Rattle.std.proofs.Math.Path.{fun_ext}
use Rattle.condition_tree.specs.Trees.{conjunction, disjunction, opposite}
use Rattle.weighing.specs.First.{below}
use Rattle.claims.specs.Subjects.{Symbolic, each_flow, part}
use Rattle.run_rows.specs.Columns.{entries_of, rows_of}
use Rattle.run_rows.specs.declared.shapes.Shape.{Shape}
use Rattle.path_server.specs.RowClaims.{row_claims}
use Rattle.path_server.specs.Servers.{server_of}
use Rattle.path_server.specs.declared.settings.Setting.{Setting}
use Rattle.ctrl_types.specs.Limits.{no_rule, rule_of}
use Rattle.ctrl_types.specs.Resolving.{SeenController, SeenRule, controller_seen, rule_seen}
use Rattle.ctrl_types.specs.declared.controllers.Controller.{Controller}
use Rattle.ctrl_meaning.specs.Flows.{flow_claims, opening_row_claims, shape_for}
use Rattle.ctrl_meaning.specs.Guards.{test_claim}
use Rattle.ctrl_meaning.specs.Opening.{opening_row}
use Rattle.ctrl_meaning.specs.Sends.{send_claim}
use Rattle.ctrl_meaning.specs.Steps.{sending, set_claim, stepping}
use Rattle.ctrl_meaning.specs.declared.readings.ReadPoint.{ReadPoint}
use Rattle.ctrl_meaning.proofs.SeenLaws.{unruled}
use Rattle.question_text.specs.Claims.{question_claims, rows_for}
use Rattle.question_text.specs.Conditions.{condition_of}
use Rattle.question_text.specs.Expressions.{condition_claim}
use Rattle.question_text.specs.StatementRules.{SeenQuestion, question_seen}
use Rattle.question_text.specs.declared.names.Rows.{Rows}
use Rattle.question_text.specs.declared.questions.Question.{Question}
use Rattle.clause_form.specs.Building.{clauses_of}
use Rattle.clause_form.specs.declared.clauses.Clauses.{Clauses}
use Rattle.clause_form.specs.declared.clauses.What.{What}
use Rattle.unroll.specs.ClaimFormulas.{claim_formulas}
use Rattle.unroll.specs.Problems.{problem_claims, row_problem}
use Rattle.verdict.specs.Problems.{problem_of}

-- ---- the claims on the flows

abbrev rules_of : Controller → ℕ → SeenRule
rules_of c k = rule_seen (rule_of c k)

-- the rule with this number
abbrev rule_in : SeenController → ℕ → SeenRule
rule_in x k = get_or x.rules k (rule_seen no_rule)

rule_in_is : (c : Controller) (k : ℕ) → rule_in (controller_seen c) k ≡ rules_of c k
rule_in_is c k = get_or-map rule_seen c.rules k no_rule

rule_count : (c : Controller) → length (controller_seen c).rules ≡ length c.rules
rule_count c = length-map c.rules rule_seen

-- one claim for each rule, of rules that are seen
abbrev claims_by : (ℕ → SeenRule) → ℕ → ℕ → ReadPoint → List Symbolic
claims_by rules states count at =
    map (λ k. disjunction (
    opposite (conjunction (map (λ j. opposite (test_claim part at (rules j).guard)) (below k) ++ test_claim part at (rules k).guard ∷ []))
    ∷ conjunction (map (λ j. set_claim part at j (get_or (rules k).sets j None)) (below states)) ∷ []
    )) (below count)

-- the claims of a row, with these of the rules
abbrev row_by : (ReadPoint → List Symbolic) → Controller → Setting → ℕ → List Symbolic
row_by steps c s i =
    if nat_lt i (opening_row c s) then []
    else if i == opening_row c s then opening_row_claims part c s i
    else each_flow (λ f. steps (stepping s i f)) s.flows ++ each_flow (λ f. send_claim part (sending s i f) c.window c.rate ∷ []) s.flows

-- the claims of a row of a controller that is seen
abbrev flows_by : SeenController → Setting → ℕ → List Symbolic
flows_by x s i = row_by (claims_by (rule_in x) (length x.states) (length x.rules)) (unruled x) s i

module _ (c : Controller) where
  rules_seen : rules_of c ≡ rule_in (controller_seen c)
  rules_seen = fun_ext (λ k. sym (rule_in_is c k))

  steps_seen : claims_by (rules_of c) (length c.states) (length c.rules)
      ≡ claims_by (rule_in (controller_seen c)) (length c.states) (length (controller_seen c).rules)
  steps_seen =
      ap (λ (rules : ℕ → SeenRule). claims_by rules (length c.states) (length c.rules)) rules_seen
      ∙ ap (claims_by (rule_in (controller_seen c)) (length c.states)) (sym (rule_count c))

  flows_seen : (s : Setting) (i : ℕ) → flow_claims part false c s i ≡ flows_by (controller_seen c) s i
  unfolding flow_claims
  flows_seen s i = ap (λ (steps : ReadPoint → List Symbolic). row_by steps c s i) steps_seen

-- ---- the claims of the question

abbrev asked_by : SeenQuestion → ℕ → Rows → List Symbolic
asked_by x n at = map (condition_claim part n at) x.assumes ++ opposite (condition_claim part n at x.require) ∷ []

question_by : (q : Question) (n : ℕ) (at : Rows) → question_claims part n at q ≡ asked_by (question_seen q) n at
question_by q n at =
    ap (λ (cs : List Symbolic). cs ++ opposite (condition_claim part n at (condition_of q.require)) ∷ [])
    (sym (map-map (condition_claim part n at) condition_of q.assumes))

-- ---- the problem

-- the problem of rows and a question that are seen
abbrev problem_by : Shape → (ℕ → List Symbolic) → List Symbolic → Result Clauses What
problem_by s rows asked = clauses_of (length (entries_of s)) (claim_formulas s (flat_map rows (below (rows_of s)) ++ asked))

problem_is : (c : Controller) (q : Question)
    → problem_of c q ≡ problem_by (shape_for c q.setting) (row_problem c q) (question_claims part q.setting.flows (rows_for (shape_for c q.setting)) q)
unfolding problem_claims
problem_is c q = refl

-- the problem of a controller and a question that are seen
abbrev rows_by : SeenController → SeenQuestion → ℕ → List Symbolic
rows_by x y i = row_claims part y.setting.flows (server_of y.setting.path) i ++ flows_by x y.setting i

abbrev pub problem_seen : SeenController → SeenQuestion → Result Clauses What
problem_seen x y =
    problem_by (shape_for (unruled x) y.setting) (rows_by x y) (asked_by y y.setting.flows (rows_for (shape_for (unruled x) y.setting)))

rows_seen : (c : Controller) (q : Question) → row_problem c q ≡ rows_by (controller_seen c) (question_seen q)
unfolding row_problem
rows_seen c q =
    fun_ext (λ i. ap (λ (flows : List Symbolic). row_claims part q.setting.flows (server_of q.setting.path) i ++ flows) (flows_seen c q.setting i))

pub problem_is_seen : (c : Controller) (q : Question) → problem_of c q ≡ problem_seen (controller_seen c) (question_seen q)
problem_is_seen c q =
    problem_is c q
    ∙ ap (λ (rows : ℕ → List Symbolic). problem_by (shape_for c q.setting) rows (question_claims part q.setting.flows (rows_for (shape_for c q.setting)) q))
    (rows_seen c q)
    ∙ ap (problem_by (shape_for c q.setting) (rows_by (controller_seen c) (question_seen q))) (question_by q q.setting.flows (rows_for (shape_for c q.setting)))

pub problem_same : (c d : Controller) (q p : Question) → controller_seen c ≡ controller_seen d → question_seen q ≡ question_seen p
    → problem_of c q ≡ problem_of d p
problem_same c d q p controllers questions =
    problem_is_seen c q ∙ ap (λ (x : SeenController). problem_seen x (question_seen q)) controllers ∙ ap (problem_seen (controller_seen d)) questions
    ∙ sym (problem_is_seen d p)
