-- The formulas of a controller within the limits can be turned into clauses.
use Rattle.std.proofs.Common.{◌≡◌, ℕ, suc, ◌+◌, ◌*◌, ◌<◌, ◌≤◌, ◌==◌, ◌^◌, Bool, ℤ, pos, negsuc, neg_ℤ, unsigned_abs, Option, Some, None, List, [], ◌∷◌, ◌++◌, length, map, subst, arith}
use Rattle.std.specs.Prelude.{All, nat_lt}
use Rattle.std.proofs.lemmas.Int.{ints}
use Rattle.std.proofs.lemmas.Bool.Decides.{nat_tests}
use Rattle.std.proofs.lemmas.List.Elements.{All-append, All-cons, All-head, All-map, All-nil, All-tail}
use Rattle.whole.proofs.Integers.{unsigned_abs-neg_ℤ}
use Rattle.condition_tree.specs.Trees.{EachLeaf, opposite}
use Rattle.weighing.specs.Claim.{compare}
use Rattle.weighing.specs.First.{below}
use Rattle.weighing.specs.Scaled.{IsNum, scaled}
use Rattle.weighing.specs.declared.scales.Num.{Num}
use Rattle.weighing.specs.declared.scales.Side.{Side}
use Rattle.weighing.specs.declared.scales.Side.TheVariants.{Left, Right}
use Rattle.weighing.specs.declared.weighings.Rel5.{Rel5}
use Rattle.weighing.specs.declared.weighings.Rel5.TheVariants.{AtLeast, AtMost}
use Rattle.claims.specs.Subjects.{Part, Subject, Symbolic, constant, each_flow, of_state, part}
use Rattle.claims.specs.Columns.{EachOver, IsOver}
use Rattle.run_rows.specs.Columns.{entries_of, rows_of}
use Rattle.run_rows.specs.declared.shapes.Shape.{Shape}
use Rattle.path_server.proofs.RuleColumns.{chosen_over}
use Rattle.path_server.specs.Limits.{IsSetting}
use Rattle.path_server.specs.declared.settings.Setting.{Setting}
use Rattle.ctrl_types.specs.Limits.{IsController, rule_of}
use Rattle.ctrl_types.specs.Tests.{Leaf, Test, compares, delayed, test_of}
use Rattle.ctrl_types.specs.declared.controllers.Controller.{Controller}
use Rattle.ctrl_types.specs.declared.controllers.State.{State}
use Rattle.ctrl_types.specs.declared.expressions.Lin.{Lin}
use Rattle.ctrl_types.specs.declared.expressions.LinTerm.{LinTerm}
use Rattle.ctrl_types.specs.declared.expressions.Source.{Source}
use Rattle.ctrl_types.specs.declared.expressions.Source.TheVariants.{One, State as StateSource, Acked, Lost}
use Rattle.ctrl_meaning.specs.Expressions.{IsTerm, lin_terms, scale_of_two, scale_with, source_terms, term_terms}
use Rattle.ctrl_meaning.specs.Flows.{controlled_row_claims, fires_claim, flow_claims, guard_claim, opening_claims, opening_row_claims, rule_claim, sets_claim, step_claims}
use Rattle.ctrl_meaning.specs.Guards.{leaf_claim, test_claim}
use Rattle.ctrl_meaning.specs.Limits.{IsControlled}
use Rattle.ctrl_meaning.specs.Opening.{declared_state, no_state, opening_row, range_claims}
use Rattle.ctrl_meaning.specs.Sends.{growth_terms, rate_terms, send_claim, window_terms}
use Rattle.ctrl_meaning.specs.Steps.{sending, set_claim, set_of, stepping}
use Rattle.ctrl_meaning.specs.declared.readings.ReadPoint.{ReadPoint}
use Rattle.path_server.proofs.AdmissionLaws.{all_below, all_flat_map}
use Rattle.claim_values.proofs.ClaimLists.{conjunction_leaves, flows_of_each}
use Rattle.ctrl_meaning.proofs.FlowColumns.{flows_over}
use Rattle.clause_form.specs.Formulas.{CanTake, EachComparison}
use Rattle.unroll.specs.ClaimFormulas.{claim_formulas}
use Rattle.ctrl_meaning.specs.Flows.{shape_for}
use Rattle.unroll.specs.FlowLimits.{CanAdd, CanAsk, CanSet, CanStep, CanSum, CanTest}
use Rattle.unroll.specs.Sizes.{AreSmall, IsSmall}
use Rattle.unroll.proofs.FlowReady.{can_send, can_step}
use Rattle.unroll.proofs.LinSizes.{each_with, scaled_size, wider}
use Rattle.unroll.proofs.RuleSizes.{IsShort, both_short, none_short, one_more, small_of_short}
use Rattle.unroll.proofs.SizeLaws.{formulas_take}

-- ---- expressions

two_parts : (k : ℤ) (of other : Subject) → unsigned_abs k ≤ 10 ^ 13 → IsShort 2 (part k of ∷ part (neg_ℤ k) other ∷ [])
two_parts k of other small =
    one_more 1 k of (part (neg_ℤ k) other ∷ []) small (one_more 0 (neg_ℤ k) other [] (let same = unsigned_abs-neg_ℤ k in omega (arith, same, small)) none_short)

one_part : (k : ℤ) (of : Subject) → unsigned_abs k ≤ 10 ^ 13 → IsShort 2 (part k of ∷ [])
one_part k of small = wider 1 2 (part k of ∷ []) (omega arith) (one_more 0 k of [] small none_short)

source_short : (at : ReadPoint) (k : ℤ) (of : Source) → unsigned_abs k ≤ 10 ^ 13 → IsShort 2 (source_terms part at k of)
source_short at k One small = one_part k _ small
source_short at k (StateSource j) small = one_part k _ small
source_short at k Acked small = two_parts k _ _ small
source_short at k Lost small = two_parts k _ _ small

lin_short : (at : ReadPoint) (side : Side) (n m : ℕ) (ts : List LinTerm) → m ≤ 1000000 → All (IsTerm n) ts → IsShort (length ts * 2) (lin_terms part at side m ts)
lin_short at side n m [] small each = none_short
lin_short at side n m (t ∷ ts) small each =
    let here = source_short at (scaled side m t.coef) t.of (scaled_size side m t.coef (All-head (IsTerm n) t ts each).coef_in small) in
    subst (λ k. IsShort k (lin_terms part at side m (t ∷ ts))) (let same : 2 + length ts * 2 ≡ suc (length ts) * 2 = omega arith in same)
    (both_short 2 (length ts * 2) (term_terms part at side m t) (lin_terms part at side m ts) here (lin_short at side n m ts small (All-tail (IsTerm n) t ts each)))

side_short : (s : Shape) (at : ReadPoint) (side : Side) (m : ℕ) (lin : Lin) → m ≤ 1000000 → CanAdd s at lin → IsShort 32 (lin_terms part at side m lin.terms)
side_short s at side m lin small can =
    let few = can.terms_to in
    wider (length lin.terms * 2) 32 (lin_terms part at side m lin.terms) (omega arith) (lin_short at side _ m lin.terms small can.terms_in)

-- ---- guards and assignments

delay_short : (a b c : Subject) → IsShort 3 (part (pos 1) a ∷ part (negsuc 0) b ∷ part (negsuc 0) c ∷ [])
delay_short a b c =
    one_more 2 (pos 1) a _ (omega (arith, ints)) (one_more 1 (negsuc 0) b _ (omega (arith, ints)) (one_more 0 (negsuc 0) c [] (omega (arith, ints)) none_short))

leaf_small : (s : Shape) (at : ReadPoint) (l : Leaf Lin ℕ) → CanAsk s at l → IsSmall (leaf_claim part at l)
leaf_small s at (compares left rel right) can =
    let m : ℕ = scale_of_two left right in
    small_of_short 64 _ rel (omega arith)
    (both_short 32 32 (lin_terms part at Left m left.terms) (lin_terms part at Right m right.terms)
    (side_short s at Left m left can.scale_to can.left_in) (side_short s at Right m right can.scale_to can.right_in))
leaf_small s at (delayed k) can = small_of_short 3 _ _ (omega arith) (delay_short _ _ _)

test_small : (s : Shape) (at : ReadPoint) (t : Test) → CanTest s at t → EachLeaf IsSmall (test_claim part at t)
test_small s at t can = each_with (CanAsk s at) IsSmall (leaf_claim part at) (leaf_small s at) t can

set_small : (s : Shape) (at : ReadPoint) (j : ℕ) (o : Option Lin) → CanSet s at o → EachLeaf IsSmall (set_claim part at j o)
set_small s at j None can =
    small_of_short 2 _ _ (omega arith) (one_more 1 (pos 1) _ _ (omega (arith, ints)) (one_more 0 (negsuc 0) _ [] (omega (arith, ints)) none_short))
set_small s at j (Some lin) can =
    let m : ℕ = scale_with 1 lin.terms in
    let to = can.scale_to in
    small_of_short 33 _ _ (omega arith)
    (one_more 32 (pos m) (of_state at.row at.flow j) (lin_terms part at Right m lin.terms) (omega (arith, ints)) (side_short s at Right m lin can.scale_to can.lin_in))

guard_small : (s : Shape) (at : ReadPoint) (c : Controller) (k : ℕ) → CanStep s at c → k < length c.rules → EachLeaf IsSmall (guard_claim part c at k)
guard_small s at c k can inside = test_small s at (test_of (rule_of c k).guard) (can.guards k inside)

fires_small : (s : Shape) (at : ReadPoint) (c : Controller) (k : ℕ) → CanStep s at c → k < length c.rules → EachLeaf IsSmall (fires_claim part c at k)
fires_small s at c k can inside =
    let P : Symbolic → Type 0 = EachLeaf IsSmall in
    let negated : ℕ → Symbolic = λ j. opposite (guard_claim part c at j) in
    let own : Symbolic = guard_claim part c at k in
    conjunction_leaves IsSmall (map negated (below k) ++ own ∷ [])
    (All-append P (map negated (below k)) (own ∷ [])
    (All-map P negated (below k) (all_below (λ j. P (negated j)) k (λ j less. guard_small s at c j can (let among : j < length c.rules = omega arith in among))))
    (All-cons P own [] (guard_small s at c k can inside) (All-nil P)))

sets_small : (s : Shape) (at : ReadPoint) (c : Controller) (k : ℕ) → CanStep s at c → k < length c.rules → EachLeaf IsSmall (sets_claim part c at k)
sets_small s at c k can inside =
    let P : Symbolic → Type 0 = EachLeaf IsSmall in
    let set : ℕ → Symbolic = λ j. set_claim part at j (set_of c k j) in
    conjunction_leaves IsSmall (map set (below (length c.states)))
    (All-map P set (below (length c.states)) (all_below (λ j. P (set j)) (length c.states) (λ j among. set_small s at j (set_of c k j) (can.sets k j inside among))))

step_small : (s : Shape) (at : ReadPoint) (c : Controller) → CanStep s at c → All (EachLeaf IsSmall) (step_claims part c at)
step_small s at c can =
    let P : Symbolic → Type 0 = EachLeaf IsSmall in
    All-map P (rule_claim part c at) (below (length c.rules))
    (all_below (λ k. P (rule_claim part c at k)) (length c.rules) (λ k inside. (fires_small s at c k can inside, (sets_small s at c k can inside, tt))))

-- ---- what is sent, and the opening

growth_short : (at : ReadPoint) → IsShort 2 (growth_terms part at)
growth_short at = one_more 1 (pos 1) _ _ (omega (arith, ints)) (one_more 0 (negsuc 0) _ [] (omega (arith, ints)) none_short)

unit_size : (m : ℕ) → m ≤ 1000000 → unsigned_abs (pos m) ≤ 10 ^ 13
unit_size m small = omega (arith, ints)

minus_size : (m : ℕ) → m ≤ 1000000 → unsigned_abs (neg_ℤ (pos m)) ≤ 10 ^ 13
minus_size m small = let same = unsigned_abs-neg_ℤ (pos m) in let one = unit_size m small in omega (arith, same, one)

window_short : (s : Shape) (at : ReadPoint) (lin : Lin) → CanSum s at lin → IsShort 35 (window_terms part at lin)
window_short s at lin can =
    let m : ℕ = scale_with 1 lin.terms in
    one_more 34 (pos m) _ _ (unit_size m can.scale_to)
    (one_more 33 (neg_ℤ (pos m)) _ _ (minus_size m can.scale_to)
    (one_more 32 (neg_ℤ (pos m)) _ _ (minus_size m can.scale_to) (side_short s at Right m lin can.scale_to can.lin_in)))

rate_short : (s : Shape) (at : ReadPoint) (lin : Lin) → CanSum s at lin → IsShort 34 (rate_terms part at lin)
rate_short s at lin can =
    let m : ℕ = scale_with 1 lin.terms in
    one_more 33 (pos m) _ _ (unit_size m can.scale_to)
    (one_more 32 (neg_ℤ (pos m)) _ _ (minus_size m can.scale_to) (side_short s at Right m lin can.scale_to can.lin_in))

send_small : (s : Shape) (at : ReadPoint) (window : Lin) (rate : Option Lin) → CanSum s at window → CanSet s at rate → EachLeaf IsSmall (send_claim part at window rate)
send_small s at window None can paced = (growth, (allowed, (growth, allowed)))
  where
    growth : {rel : Rel5} → IsSmall (record { terms = growth_terms part at; rel = rel })
    growth {rel} = small_of_short 2 (growth_terms part at) rel (omega arith) (growth_short at)

    allowed : {rel : Rel5} → IsSmall (record { terms = window_terms part at window; rel = rel })
    allowed {rel} = small_of_short 35 (window_terms part at window) rel (omega arith) (window_short s at window can)
send_small s at window (Some rate) can paced = ((growth, allowed), ((growth, faster), ((growth, allowed), (growth, faster))))
  where
    growth : {rel : Rel5} → IsSmall (record { terms = growth_terms part at; rel = rel })
    growth {rel} = small_of_short 2 (growth_terms part at) rel (omega arith) (growth_short at)

    allowed : {rel : Rel5} → IsSmall (record { terms = window_terms part at window; rel = rel })
    allowed {rel} = small_of_short 35 (window_terms part at window) rel (omega arith) (window_short s at window can)

    faster : {rel : Rel5} → IsSmall (record { terms = rate_terms part at rate; rel = rel })
    faster {rel} = small_of_short 34 (rate_terms part at rate) rel (omega arith) (rate_short s at rate paced)

bound_short : (n : Num) (x : Subject) → IsNum n → IsShort 2 (part n.den x ∷ part (neg_ℤ n.num) constant ∷ [])
bound_short n x is =
    let from = is.den_from in
    let to = is.den_to in
    let num = is.num_to in
    let same = unsigned_abs-neg_ℤ n.num in
    one_more 1 n.den x _ (omega (arith, ints)) (one_more 0 (neg_ℤ n.num) constant [] (omega (arith, same, num)) none_short)

range_small : (st : State) (x : Subject) → IsNum st.lo → IsNum st.hi → All (EachLeaf IsSmall) (range_claims part st x constant)
range_small st x low high =
    two_small (part st.lo.den x ∷ part (neg_ℤ st.lo.num) constant ∷ []) (part st.hi.den x ∷ part (neg_ℤ st.hi.num) constant ∷ [])
    (bound_short st.lo x low) (bound_short st.hi x high)
  where
    two_small : (from to : List Part) → IsShort 2 from → IsShort 2 to → All (EachLeaf IsSmall) (compare from AtLeast ∷ compare to AtMost ∷ [])
    two_small from to one two =
        let P : Symbolic → Type 0 = EachLeaf IsSmall in
        All-cons P (compare from AtLeast) (compare to AtMost ∷ []) (small_of_short 2 from AtLeast (omega arith) one)
        (All-cons P (compare to AtMost) [] (small_of_short 2 to AtMost (omega arith) two) (All-nil P))

-- ---- rows

opening_row_small : (c : Controller) (s : Setting) (i : ℕ) → IsController c → All (EachLeaf IsSmall) (opening_row_claims part c s i)
opening_row_small c s i is =
    let P : Symbolic → Type 0 = EachLeaf IsSmall in
    flows_of_each P (opening_claims part c i) s.flows (λ f from to.
    all_flat_map P (λ j. range_claims part (declared_state c j) (of_state i f j) constant) (below (length c.states))
    (all_below (λ j. All P (range_claims part (declared_state c j) (of_state i f j) constant)) (length c.states)
    (λ j among. let both = is.each_num.states j no_state among in range_small (declared_state c j) (of_state i f j) both.0 both.1)))

controlled_row_small : (c : Controller) (s : Setting) (i : ℕ) → IsController c → IsSetting s → IsControlled c s i → All (EachLeaf IsSmall) (controlled_row_claims part c s i)
controlled_row_small c s i is set controlled =
    let P : Symbolic → Type 0 = EachLeaf IsSmall in
    All-append P (each_flow (λ f. step_claims part c (stepping s i f)) s.flows) (each_flow (λ f. send_claim part (sending s i f) c.window c.rate ∷ []) s.flows)
    (flows_of_each P (λ f. step_claims part c (stepping s i f)) s.flows
    (λ f from to. step_small (shape_for c s) (stepping s i f) c (can_step c s i f is set controlled from to)))
    (flows_of_each P (λ f. send_claim part (sending s i f) c.window c.rate ∷ []) s.flows
    (λ f from to.
    let can = can_send c s i f is set controlled from to in
    All-cons P (send_claim part (sending s i f) c.window c.rate) [] (send_small (shape_for c s) (sending s i f) c.window c.rate can.window_in can.rate_in) (All-nil P)))

row_small : (free : Bool) (c : Controller) (s : Setting) (i : ℕ) → IsController c → IsSetting s → i < rows_of (shape_for c s)
    → All (EachLeaf IsSmall) (flow_claims part free c s i)
unfolding flow_claims
row_small free c s i is set row =
    let P : List Symbolic → Type 0 = All (EachLeaf IsSmall) in
    let none : P [] = All-nil (EachLeaf IsSmall) in
    chosen_over P (nat_lt i (opening_row c s)) _ _ (λ _. none)
    (λ before. chosen_over P (i == opening_row c s) _ _
    (λ here. chosen_over P free _ _ (λ _. none) (λ _. opening_row_small c s i is))
    (λ here. controlled_row_small c s i is set (record { after_opening = grind (arith, nat_tests, before, here); within = omega arith })))

-- each of a list, as the laws of formulas take it
pub all_small : (cs : List Symbolic) → All (EachLeaf IsSmall) cs → AreSmall cs
all_small [] each = tt
all_small (c ∷ cs) each = (All-head (EachLeaf IsSmall) c cs each, all_small cs (All-tail (EachLeaf IsSmall) c cs each))

pub all_over : (s : Shape) (cs : List Symbolic) → All (IsOver s) cs → EachOver s cs
all_over s [] each = tt
all_over s (c ∷ cs) each = (All-head (IsOver s) c cs each, all_over s cs (All-tail (IsOver s) c cs each))

-- the formulas of a row can be turned into clauses
pub flows_take : (free : Bool) (c : Controller) (s : Setting) (i : ℕ) → IsController c → IsSetting s → i < rows_of (shape_for c s)
    → EachComparison (CanTake (length (entries_of (shape_for c s)))) (claim_formulas (shape_for c s) (flow_claims part free c s i))
flows_take free c s i is set row =
    formulas_take (shape_for c s) (flow_claims part free c s i) (all_over (shape_for c s) (flow_claims part free c s i) (flows_over free c s i is row))
    (all_small (flow_claims part free c s i) (row_small free c s i is set row))
