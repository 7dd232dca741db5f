-- The claims on the flows of a row over columns: those by any terms are the written claims with these terms, and name entries
-- of the shape alone. So they hold of some columns exactly where what is asked of the flows holds of the run of these columns.
use Rattle.std.proofs.Common.{◌≡◌, ℕ, ◌-◌, ◌<◌, ◌≤◌, ◌==◌, Bool, ℤ, pos, ◌≤ℤ◌, Option, Some, None, List, [], ◌∷◌, ◌++◌, get_or, length, map, refl, sym, ◌∙◌, ap, subst, arith}
use Rattle.std.specs.Prelude.{All, nat_lt}
use Rattle.std.proofs.lemmas.Bool.Decides.{nat_tests}
use Rattle.std.proofs.lemmas.List.Elements.{All-append, All-cons, All-map, All-nil}
use Rattle.condition_tree.specs.Trees.{EachLeaf, all_of, always, any_of, conjunction, end_of_all, end_of_any, leaf, never, opposite}
use Rattle.claims.specs.Subjects.{Part, Subject, Symbolic, at, constant, each_flow, in_run, made, of_state, part, with_terms, with_values}
use Rattle.claims.specs.Columns.{IsOver, column_value, run_of}
use Rattle.claims.proofs.Made.{claim_made, claim_read}
use Rattle.weighing.specs.Claim.{Claims, Compared, Holds}
use Rattle.weighing.specs.First.{below}
use Rattle.run_rows.specs.Columns.{rows_of, value_at}
use Rattle.run_rows.specs.Runs.{state_count}
use Rattle.run_rows.specs.declared.rows.Run.{Run}
use Rattle.run_rows.specs.declared.shapes.Shape.{Shape}
use Rattle.run_rows.proofs.EntryPlaces.{state_count_after}
use Rattle.path_server.proofs.RuleColumns.{chosen, chosen_over}
use Rattle.path_server.proofs.RuleLaws.{Means}
use Rattle.path_server.specs.declared.settings.Setting.{Setting}
use Rattle.ctrl_types.specs.Limits.{IsController, IsLin, IsSource, OptionalLin, no_rule, rule_of}
use Rattle.ctrl_types.specs.Tests.{EachExpr, Test, compares, delayed, test_of}
use Rattle.ctrl_types.specs.declared.controllers.Controller.{Controller}
use Rattle.ctrl_types.specs.declared.expressions.Lin.{Lin}
use Rattle.ctrl_types.specs.declared.expressions.LinTerm.{LinTerm}
use Rattle.ctrl_meaning.specs.Flows.{FlowsHold, controlled_row_claims, fires_claim, flow_claims, guard_claim, opening_claims, opening_row_claims, rule_claim, sets_claim, shape_for, step_claims}
use Rattle.ctrl_meaning.specs.Limits.{HasShape, IsControlled}
use Rattle.ctrl_meaning.specs.Opening.{declared_state, opening_row, range_claims}
use Rattle.ctrl_meaning.specs.Sends.{send_claim}
use Rattle.ctrl_meaning.specs.Steps.{sending, set_claim, set_of, stepping}
use Rattle.ctrl_meaning.specs.declared.readings.ReadPoint.{ReadPoint}
use Rattle.path_server.proofs.RowColumns.{map-flat_map}
use Rattle.path_server.proofs.AdmissionLaws.{all_below, all_flat_map}
use Rattle.claim_values.proofs.ClaimLists.{conjunction_leaves, conjunction_with, each_flows_made, flows_of_each, joined_made, maps_agree, maps_made}
use Rattle.ctrl_meaning.proofs.Columns.{AreSources, IsReadingOf, LeafIn, OptionIn, range_over, send_made, send_over, set_made, set_over, test_made, test_over}
use Rattle.ctrl_meaning.proofs.FlowRows.{flows_mean}
use Rattle.claim_values.proofs.MadeShape.{made_shape}

-- ---- by any terms

abbrev rewritten : {T : Type 0} → (ℤ → Subject → T) → List (Claims Part) → List (Claims T)
rewritten term cs = map (with_terms (made term)) cs

-- another way to make the terms of each comparison
abbrev remaking : {T : Type 0} → (ℤ → Subject → T) → Compared Part → Compared T
remaking term c = record { terms = map (made term) c.terms; rel = c.rel }

guard_made : {T : Type 0} (term : ℤ → Subject → T) (c : Controller) (at : ReadPoint) (k : ℕ) → with_terms (made term) (guard_claim part c at k) ≡ guard_claim term c at k
guard_made term c at k = test_made term at (test_of (rule_of c k).guard)

fires_made : {T : Type 0} (term : ℤ → Subject → T) (c : Controller) (at : ReadPoint) (k : ℕ) → with_terms (made term) (fires_claim part c at k) ≡ fires_claim term c at k
fires_made term c at k =
    conjunction_with (remaking term) (map (λ j. opposite (guard_claim part c at j)) (below k) ++ guard_claim part c at k ∷ [])
    ∙ ap conjunction
    (joined_made (with_terms (made term)) (map (λ j. opposite (guard_claim part c at j)) (below k)) (guard_claim part c at k ∷ []) _ _
    (maps_made (with_terms (made term)) (λ j. opposite (guard_claim part c at j)) (λ j. opposite (guard_claim term c at j)) (λ j. ap opposite (guard_made term c at j)) (below k))
    (ap (λ d. d ∷ []) (guard_made term c at k)))

sets_made : {T : Type 0} (term : ℤ → Subject → T) (c : Controller) (at : ReadPoint) (k : ℕ) → with_terms (made term) (sets_claim part c at k) ≡ sets_claim term c at k
sets_made term c at k =
    conjunction_with (remaking term) (map (λ j. set_claim part at j (set_of c k j)) (below (length c.states)))
    ∙ ap conjunction
    (maps_made (with_terms (made term)) (λ j. set_claim part at j (set_of c k j)) (λ j. set_claim term at j (set_of c k j)) (λ j. set_made term at j (set_of c k j)) (below (length c.states)))

rule_made : {T : Type 0} (term : ℤ → Subject → T) (c : Controller) (at : ReadPoint) (k : ℕ) → with_terms (made term) (rule_claim part c at k) ≡ rule_claim term c at k
rule_made term c at k =
    ap (λ d. any_of (opposite d) (any_of (with_terms (made term) (sets_claim part c at k)) end_of_any)) (fires_made term c at k)
    ∙ ap (λ d. any_of (opposite (fires_claim term c at k)) (any_of d end_of_any)) (sets_made term c at k)

controlled_row_made : {T : Type 0} (term : ℤ → Subject → T) (c : Controller) (s : Setting) (i : ℕ)
    → rewritten term (controlled_row_claims part c s i) ≡ controlled_row_claims term c s i
controlled_row_made term c s i =
    joined_made (with_terms (made term)) (each_flow (λ f. step_claims part c (stepping s i f)) s.flows)
    (each_flow (λ f. send_claim part (sending s i f) c.window c.rate ∷ []) s.flows) _ _
    (each_flows_made (with_terms (made term)) (λ f. step_claims part c (stepping s i f)) (λ f. step_claims term c (stepping s i f))
    (λ f. maps_made (with_terms (made term)) (rule_claim part c (stepping s i f)) (rule_claim term c (stepping s i f)) (rule_made term c (stepping s i f)) (below (length c.rules))) s.flows)
    (each_flows_made (with_terms (made term)) (λ f. send_claim part (sending s i f) c.window c.rate ∷ []) (λ f. send_claim term (sending s i f) c.window c.rate ∷ [])
    (λ f. ap (λ d. d ∷ []) (send_made term (sending s i f) c.window c.rate)) s.flows)

opening_row_made : {T : Type 0} (term : ℤ → Subject → T) (c : Controller) (s : Setting) (i : ℕ)
    → rewritten term (opening_row_claims part c s i) ≡ opening_row_claims term c s i
opening_row_made term c s i =
    each_flows_made (with_terms (made term)) (opening_claims part c i) (opening_claims term c i)
    (λ f. map-flat_map (with_terms (made term)) (λ j. range_claims part (declared_state c j) (of_state i f j) constant) (λ j. range_claims term (declared_state c j) (of_state i f j) constant)
    (λ j. refl) (below (length c.states))) s.flows

-- the claims of a row by any terms are its written claims with these terms
pub flows_made : {T : Type 0} (term : ℤ → Subject → T) (free : Bool) (c : Controller) (s : Setting) (i : ℕ)
    → map (with_terms (made term)) (flow_claims part free c s i) ≡ flow_claims term free c s i
unfolding flow_claims
flows_made term free c s i =
    chosen (rewritten term) (nat_lt i (opening_row c s)) _ _ _ _ refl
    (chosen (rewritten term) (i == opening_row c s) _ _ _ _
    (chosen (rewritten term) free _ _ _ _ refl (opening_row_made term c s i)) (controlled_row_made term c s i))

-- ---- over the shape

lin_sources : (s : Shape) (at : ReadPoint) (n : ℕ) (lin : Lin) → state_count s at.states ≡ n → IsLin n lin → AreSources s at lin.terms
lin_sources s at n lin same is = λ k d inside. subst (λ m. IsSource m (let t : LinTerm = get_or lin.terms k d in t.of)) (sym same) (is.sources k d inside)

test_in : (s : Shape) (at : ReadPoint) (n : ℕ) (t : Test) → state_count s at.states ≡ n → EachExpr (IsLin n) t → EachLeaf (LeafIn s at) t
test_in s at n always same is = tt
test_in s at n never same is = tt
test_in s at n (leaf (compares left rel right)) same is = (lin_sources s at n left same is.0, lin_sources s at n right same is.1)
test_in s at n (leaf (delayed k)) same is = tt
test_in s at n (opposite t) same is = test_in s at n t same is
test_in s at n end_of_all same is = tt
test_in s at n (all_of t rest) same is = (test_in s at n t same is.0, test_in s at n rest same is.1)
test_in s at n end_of_any same is = tt
test_in s at n (any_of t rest) same is = (test_in s at n t same is.0, test_in s at n rest same is.1)

option_in : (s : Shape) (at : ReadPoint) (n : ℕ) (o : Option Lin) → state_count s at.states ≡ n → OptionalLin (IsLin n) o → OptionIn s at o
option_in s at n None same is = tt
option_in s at n (Some lin) same is = lin_sources s at n lin same is

-- what is read at a controlled row of the shape
record IsOfShape (c : Controller) (s : Shape) (at : ReadPoint) : Type 0 where
  reading_in : IsReadingOf s at
  states_here : state_count s at.row ≡ length c.states
  states_read : state_count s at.states ≡ length c.states

guard_over : (c : Controller) (s : Shape) (at : ReadPoint) (k : ℕ) → IsController c → IsOfShape c s at → k < length c.rules → IsOver s (guard_claim part c at k)
guard_over c s at k is of inside =
    test_over s at (test_of (rule_of c k).guard) of.reading_in
    (test_in s at (length c.states) (test_of (rule_of c k).guard) of.states_read (is.each_lin.rules k no_rule inside).guard)

fires_over : (c : Controller) (s : Shape) (at : ReadPoint) (k : ℕ) → IsController c → IsOfShape c s at → k < length c.rules → IsOver s (fires_claim part c at k)
fires_over c s at k is of inside =
    conjunction_leaves _ (map (λ j. opposite (guard_claim part c at j)) (below k) ++ guard_claim part c at k ∷ [])
    (All-append (IsOver s) (map (λ j. opposite (guard_claim part c at j)) (below k)) (guard_claim part c at k ∷ [])
    (All-map (IsOver s) (λ j. opposite (guard_claim part c at j)) (below k)
    (all_below (λ j. IsOver s (opposite (guard_claim part c at j))) k (λ j less. guard_over c s at j is of (omega arith))))
    (All-cons (IsOver s) (guard_claim part c at k) [] (guard_over c s at k is of inside) (All-nil (IsOver s))))

sets_over : (c : Controller) (s : Shape) (at : ReadPoint) (k : ℕ) → IsController c → IsOfShape c s at → k < length c.rules → IsOver s (sets_claim part c at k)
sets_over c s at k is of inside =
    conjunction_leaves _ (map (λ j. set_claim part at j (set_of c k j)) (below (length c.states)))
    (All-map (IsOver s) (λ j. set_claim part at j (set_of c k j)) (below (length c.states))
    (all_below (λ j. IsOver s (set_claim part at j (set_of c k j))) (length c.states) each))
  where
    each : (j : ℕ) → j < length c.states → IsOver s (set_claim part at j (set_of c k j))
    each j among =
        let here = of.states_here in
        let before = of.states_read in
        let places : j < length (rule_of c k).sets = (let count = (is.each_rule k no_rule inside).places in omega arith) in
        set_over s at j (set_of c k j) of.reading_in (omega arith) (omega arith)
        (option_in s at (length c.states) (set_of c k j) of.states_read ((is.each_lin.rules k no_rule inside).sets j None places))

step_over : (c : Controller) (s : Shape) (at : ReadPoint) → IsController c → IsOfShape c s at → All (IsOver s) (step_claims part c at)
step_over c s at is of =
    All-map (IsOver s) (rule_claim part c at) (below (length c.rules))
    (all_below (λ k. IsOver s (rule_claim part c at k)) (length c.rules)
    (λ k inside. (fires_over c s at k is of inside, (sets_over c s at k is of inside, tt))))

send_in : (c : Controller) (s : Shape) (at : ReadPoint) → IsController c → IsOfShape c s at → All (IsOver s) (send_claim part at c.window c.rate ∷ [])
send_in c s at is of =
    All-cons (IsOver s) (send_claim part at c.window c.rate) []
    (send_over s at c.window c.rate of.reading_in (lin_sources s at (length c.states) c.window of.states_read is.each_lin.window)
    (option_in s at (length c.states) c.rate of.states_read is.each_lin.rate))
    (All-nil (IsOver s))

of_shape : (c : Controller) (s : Setting) (i f states : ℕ) → IsControlled c s i → (shape_for c s).h ≤ states → states ≤ i → 1 ≤ f → f ≤ s.flows
    → IsOfShape c (shape_for c s) (record { row = i; flow = f; states = states; heard = i - s.rtt })
of_shape c s i f states controlled later within from to =
    let last = controlled.within in
    let after = controlled.after_opening in
    record {
      reading_in = record { row_in = omega arith; states_in = omega arith; heard_in = omega arith; flow_from = from; flow_to = to };
      states_here = state_count_after (shape_for c s) i (omega arith);
      states_read = state_count_after (shape_for c s) states later;
    }

controlled_row_over : (c : Controller) (s : Setting) (i : ℕ) → IsController c → IsControlled c s i → All (IsOver (shape_for c s)) (controlled_row_claims part c s i)
controlled_row_over c s i is controlled =
    let after = controlled.after_opening in
    All-append (IsOver (shape_for c s)) (each_flow (λ f. step_claims part c (stepping s i f)) s.flows) (each_flow (λ f. send_claim part (sending s i f) c.window c.rate ∷ []) s.flows)
    (flows_of_each (IsOver (shape_for c s)) (λ f. step_claims part c (stepping s i f)) s.flows
    (λ f from to. step_over c (shape_for c s) (stepping s i f) is (of_shape c s i f (i - 1) controlled (omega arith) (omega arith) from to)))
    (flows_of_each (IsOver (shape_for c s)) (λ f. send_claim part (sending s i f) c.window c.rate ∷ []) s.flows
    (λ f from to. send_in c (shape_for c s) (sending s i f) is (of_shape c s i f i controlled (omega arith) (omega arith) from to)))

two_over : (s : Shape) (d e : Symbolic) → IsOver s d → IsOver s e → All (IsOver s) (d ∷ e ∷ [])
two_over s d e one two = All-cons (IsOver s) d (e ∷ []) one (All-cons (IsOver s) e [] two (All-nil (IsOver s)))

opening_row_over : (c : Controller) (s : Setting) (i : ℕ) → (shape_for c s).h ≤ i → i < rows_of (shape_for c s) → All (IsOver (shape_for c s)) (opening_row_claims part c s i)
opening_row_over c s i later row =
    flows_of_each (IsOver (shape_for c s)) (opening_claims part c i) s.flows (λ f from to.
    all_flat_map (IsOver (shape_for c s)) (λ j. range_claims part (declared_state c j) (of_state i f j) constant) (below (length c.states))
    (all_below (λ j. All (IsOver (shape_for c s)) (range_claims part (declared_state c j) (of_state i f j) constant)) (length c.states)
    (λ j among.
    let both = range_over (shape_for c s) (declared_state c j) i f j (record { row_in = row; flow_from = from; flow_to = to })
    (let count = state_count_after (shape_for c s) i later in omega (arith, count, among)) in
    two_over (shape_for c s) _ _ both.0 both.1)))

-- the claims of a row of the shape name its entries alone
pub flows_over : (free : Bool) (c : Controller) (s : Setting) (i : ℕ) → IsController c → i < rows_of (shape_for c s)
    → All (IsOver (shape_for c s)) (flow_claims part free c s i)
unfolding flow_claims
flows_over free c s i is row =
    let P : List Symbolic → Type 0 = All (IsOver (shape_for c s)) in
    chosen_over P (nat_lt i (opening_row c s)) _ _ (λ _. All-nil (IsOver (shape_for c s)))
    (λ before. chosen_over P (i == opening_row c s) _ _
    (λ here. chosen_over P free _ _ (λ _. All-nil (IsOver (shape_for c s)))
    (λ _. opening_row_over c s i (grind (arith, nat_tests, before)) row))
    (λ here. controlled_row_over c s i is (record { after_opening = grind (arith, nat_tests, before, here); within = omega arith })))

-- ---- the claims of a row over columns

-- where the written claims are those of the run, they hold exactly where what is asked of the flows does
flows_say : (free : Bool) (c : Controller) (s : Setting) (r : Run) (i : ℕ) (v : Subject → ℤ) → IsController c → HasShape c s r → i < rows_of (shape_for c s)
    → ((d : Symbolic) → IsOver (shape_for c s) d → at r d ≡ with_values v d)
    → Means (All Holds (map (with_values v) (flow_claims part free c s i))) (FlowsHold free c s r i)
flows_say free c s r i v is shaped row same =
    let law = flows_mean free c s r i is shaped (let rows = shaped.row_count in omega arith) in
    let written : flow_claims (in_run r) free c s i ≡ map (with_values v) (flow_claims part free c s i) =
    sym (flows_made (in_run r) free c s i) ∙ maps_agree (IsOver (shape_for c s)) (at r) (with_values v) same (flow_claims part free c s i) (flows_over free c s i is row) in
    (λ h. law.0 (subst (All Holds) (sym written) h), λ h. subst (All Holds) written (law.1 h))

-- of the run that is made of columns
pub flows_meet : (free : Bool) (c : Controller) (s : Setting) (value : ℕ → ℤ) (den : ℤ) (i : ℕ) → IsController c → pos 1 ≤ℤ den → i < rows_of (shape_for c s)
    → Means (All Holds (map (with_values (column_value (shape_for c s) value den)) (flow_claims part free c s i))) (FlowsHold free c s (run_of (shape_for c s) value den) i)
flows_meet free c s value den i is some row =
    flows_say free c s (run_of (shape_for c s) value den) i (column_value (shape_for c s) value den) is (made_shape (shape_for c s) value den some) row
    (λ d over. claim_made (shape_for c s) value den d over)

-- of a run, at the values of its columns
pub flows_read : (free : Bool) (c : Controller) (s : Setting) (r : Run) (i : ℕ) → IsController c → HasShape c s r → i < rows_of (shape_for c s)
    → Means (All Holds (map (with_values (column_value (shape_for c s) (value_at (shape_for c s) r) r.over)) (flow_claims part free c s i))) (FlowsHold free c s r i)
flows_read free c s r i is shaped row =
    flows_say free c s r i (column_value (shape_for c s) (value_at (shape_for c s) r) r.over) is shaped row (λ d over. claim_read (shape_for c s) r d over)
