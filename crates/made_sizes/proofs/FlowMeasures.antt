-- The claims of a drawn controller's flows on a row are few.
use Rattle.std.proofs.Common.{◌≡◌, ℕ, zero, suc, ◌+◌, ◌*◌, ◌<◌, ◌≤◌, ◌==◌, pos, negsuc, inl, inr, true, false, Option, Some, None, List, [], ◌∷◌, ◌++◌, map, length, length-append, refl, sym, ap, subst, arith}
use Rattle.std.specs.Prelude.{flat_map, nat_lt}
use Rattle.std.proofs.lemmas.Bool.Decides.{nat_tests}
use Rattle.std.proofs.lemmas.Grind.{flat_map-append}
use Rattle.std.proofs.lemmas.List.{length-map}
use Rattle.condition_tree.specs.Trees.{opposite}
use Rattle.weighing.specs.First.{below}
use Rattle.weighing.specs.declared.scales.Side.TheVariants.{Right}
use Rattle.claims.specs.Subjects.{Part, constant, each_flow, of_state, part}
use Rattle.path_server.specs.declared.settings.Setting.{Setting}
use Rattle.ctrl_types.specs.Limits.{rule_of}
use Rattle.ctrl_types.specs.Tests.{Test, test_of}
use Rattle.ctrl_types.specs.declared.controllers.Controller.{Controller}
use Rattle.ctrl_types.specs.declared.expressions.Lin.{Lin}
use Rattle.ctrl_meaning.specs.Expressions.{lin_terms, scale_with}
use Rattle.ctrl_meaning.specs.Flows.{controlled_row_claims, fires_claim, flow_claims, guard_claim, opening_claims, opening_row_claims, rule_claim, sets_claim, step_claims}
use Rattle.ctrl_meaning.specs.Guards.{test_claim}
use Rattle.ctrl_meaning.specs.Opening.{declared_state, opening_row, range_claims}
use Rattle.ctrl_meaning.specs.Sends.{growth_terms, send_claim, window_terms}
use Rattle.ctrl_meaning.specs.Steps.{sending, set_claim, set_of, stepping}
use Rattle.ctrl_meaning.specs.declared.readings.ReadPoint.{ReadPoint}
use Rattle.clause_limits.specs.Limits.{IsAmong}
use Rattle.clause_limits.proofs.Simplifying.{among_map}
use Rattle.made_sizes.specs.Drawn.{IsPlain, otherwise, above, waits, IsFew}
use Rattle.made_sizes.proofs.Measures.{among_flat, among_left, among_right, in_below, below_in, length_below, sums_in, IsOf, through, are_joined, are_mapped, conjunction_of, claim_weight, light_joined, light_mapped, conjunction_weight, total_over, mapped_weights, Measured, measured_to, measured_own, measured_none, measured_joined, measured_flows, measured_below}

-- ---- the opening row

state_measured : (c : Controller) (i f j : ℕ) → Measured (range_claims part (declared_state c j) (of_state i f j) constant) 2 2 2
state_measured c i f j = measured_own (range_claims part (declared_state c j) (of_state i f j) constant) 2 2 2 (omega arith) (omega arith) (omega arith)

opening_measured : (c : Controller) (i f : ℕ) → length c.states ≤ 3 → Measured (opening_claims part c i f) 6 6 6
opening_measured c i f few =
    measured_to (opening_claims part c i f) (length c.states * 2) (length c.states * 2) (length c.states * 2) 6 6 6
    (measured_below (λ j. range_claims part (declared_state c j) (of_state i f j) constant) 2 2 2 (length c.states) (state_measured c i f))
    (omega arith) (omega arith) (omega arith)

opening_row_measured : (c : Controller) (s : Setting) (i : ℕ) → length c.states ≤ 3 → s.flows ≤ 2 → Measured (opening_row_claims part c s i) 12 12 12
opening_row_measured c s i few flows =
    measured_to (opening_row_claims part c s i) (s.flows * 6) (s.flows * 6) (s.flows * 6) 12 12 12
    (measured_flows (opening_claims part c i) 6 6 6 s.flows (λ f. opening_measured c i f few)) (omega arith) (omega arith) (omega arith)

-- ---- guards and assignments

module _ (at : ReadPoint) where
  guard_light : (t : Test) → IsPlain t → claim_weight 1 0 (test_claim part at t) ≤ 1
  guard_light t otherwise = omega arith
  guard_light t (above x y) = omega arith
  guard_light t (waits k) = omega arith

  guard_light_too : (t : Test) → IsPlain t → claim_weight 2 2 (test_claim part at t) ≤ 2
  guard_light_too t otherwise = omega arith
  guard_light_too t (above x y) = omega arith
  guard_light_too t (waits k) = omega arith

  guard_sums : (t : Test) → IsPlain t → length (sums_in (test_claim part at t)) ≤ 1
  guard_sums t otherwise = omega arith
  guard_sums t (above x y) = omega arith
  guard_sums t (waits k) = omega arith

  -- the sum by which a state gets its value
  abbrev set_terms : ℕ → Option Lin → List Part
  set_terms j None = part (pos 1) (of_state at.row at.flow j) ∷ part (negsuc 0) (of_state at.states at.flow j) ∷ []
  set_terms j (Some lin) = part (pos (scale_with 1 lin.terms)) (of_state at.row at.flow j) ∷ lin_terms part at Right (scale_with 1 lin.terms) lin.terms

  set_is_of : (sums : List (List Part)) (j : ℕ) (to : Option Lin) → IsAmong sums (set_terms j to) → IsOf sums (set_claim part at j to)
  set_is_of sums j None among = among
  set_is_of sums j (Some lin) among = among

  set_light : (j : ℕ) (to : Option Lin) → claim_weight 1 0 (set_claim part at j to) ≤ 3
  set_light j None = omega arith
  set_light j (Some lin) = omega arith

  set_light_too : (j : ℕ) (to : Option Lin) → claim_weight 2 2 (set_claim part at j to) ≤ 8
  set_light_too j None = omega arith
  set_light_too j (Some lin) = omega arith

-- ---- steps

short_flat : {A X : Type 0} (g : A → List X) (most : ℕ) (zs : List A) → ((a : A) → length (g a) ≤ most) → length (flat_map g zs) ≤ length zs * most
short_flat g most [] each = omega arith
short_flat g most (a ∷ zs) each =
    let first = each a in
    let rest = short_flat g most zs each in
    let long : length (g a ++ flat_map g zs) ≡ length (g a) + length (flat_map g zs) = length-append (g a) (flat_map g zs) in
    omega arith

three_at_most : (n : ℕ) → n ≤ 3 → total_over (λ k. k + 13) (below n) ≤ 42
three_at_most zero to = omega arith
three_at_most (suc zero) to = omega arith
three_at_most (suc (suc zero)) to = omega arith
three_at_most (suc (suc (suc zero))) to = omega arith
three_at_most (suc (suc (suc (suc n)))) to = absurd (omega arith)

three_at_most_too : (n : ℕ) → n ≤ 3 → total_over (λ k. 52) (below n) ≤ 156
three_at_most_too zero to = omega arith
three_at_most_too (suc zero) to = omega arith
three_at_most_too (suc (suc zero)) to = omega arith
three_at_most_too (suc (suc (suc zero))) to = omega arith
three_at_most_too (suc (suc (suc (suc n)))) to = absurd (omega arith)

module _ (c : Controller) (few : IsFew c) (at : ReadPoint) where
  abbrev guard_lists : ℕ → List (List Part)
  guard_lists k = sums_in (guard_claim part c at k)

  abbrev set_lists : ℕ → List (List Part)
  set_lists k = map (λ j. set_terms at j (set_of c k j)) (below (length c.states))

  abbrev step_sums : List (List Part)
  step_sums = flat_map guard_lists (below (length c.rules)) ++ flat_map set_lists (below (length c.rules))

  -- `otherwise` has none
  guards_few : length (flat_map guard_lists (below (length c.rules))) ≤ 2
  guards_few =
      let last : length (guard_lists few.before) ≡ 0 = ap (λ (t : Test). length (sums_in (test_claim part at t))) few.last in
      let parted : flat_map guard_lists (below (suc few.before)) ≡ flat_map guard_lists (below few.before) ++ (guard_lists few.before ++ []) =
      flat_map-append guard_lists (below few.before) (few.before ∷ []) in
      let front = short_flat guard_lists 1 (below few.before) (λ k. guard_sums at (test_of (rule_of c k).guard) (few.plain k)) in
      let many = length_below few.before in
      let to = few.before_to in
      let long : length (flat_map guard_lists (below few.before) ++ (guard_lists few.before ++ []))
      ≡ length (flat_map guard_lists (below few.before)) + length (guard_lists few.before ++ []) =
      length-append (flat_map guard_lists (below few.before)) (guard_lists few.before ++ []) in
      let end : length (guard_lists few.before ++ []) ≡ length (guard_lists few.before) + 0 = length-append (guard_lists few.before) [] in
      let whole : length (flat_map guard_lists (below (suc few.before))) ≤ 2 = omega (arith, ap length parted) in
      subst (λ n. length (flat_map guard_lists (below n)) ≤ 2) (sym few.count) whole

  sets_few : length (flat_map set_lists (below (length c.rules))) ≤ 9
  sets_few =
      let states_to = few.states_to in
      let before_to = few.before_to in
      let count = few.count in
      let one : (k : ℕ) → length (set_lists k) ≤ 3 = λ k.
      (let long : length (set_lists k) ≡ length (below (length c.states)) = length-map (below (length c.states)) (λ j. set_terms at j (set_of c k j)) in
      let many = length_below (length c.states) in
      omega arith) in
      let all = short_flat set_lists 3 (below (length c.rules)) one in
      let many = length_below (length c.rules) in
      omega arith

  guard_is_of : (k : ℕ) → k < length c.rules → IsOf step_sums (guard_claim part c at k)
  guard_is_of k to =
      through (guard_claim part c at k) step_sums
      (λ sum among.
      among_left (flat_map guard_lists (below (length c.rules))) (flat_map set_lists (below (length c.rules))) sum
      (among_flat guard_lists (below (length c.rules)) k sum (in_below (length c.rules) k to) among))

  sets_are_of : (k : ℕ) → k < length c.rules → IsOf step_sums (sets_claim part c at k)
  sets_are_of k to =
      conjunction_of step_sums (map (λ j. set_claim part at j (set_of c k j)) (below (length c.states)))
      (are_mapped step_sums (λ j. set_claim part at j (set_of c k j)) (below (length c.states))
      (λ j there.
      set_is_of at step_sums j (set_of c k j)
      (among_right (flat_map guard_lists (below (length c.rules))) (flat_map set_lists (below (length c.rules))) (set_terms at j (set_of c k j))
      (among_flat set_lists (below (length c.rules)) k (set_terms at j (set_of c k j)) (in_below (length c.rules) k to)
      (among_map (λ m. set_terms at m (set_of c k m)) (below (length c.states)) j there)))))

  fires_is_of : (k : ℕ) → k < length c.rules → IsOf step_sums (fires_claim part c at k)
  fires_is_of k to =
      conjunction_of step_sums (map (λ j. opposite (guard_claim part c at j)) (below k) ++ guard_claim part c at k ∷ [])
      (are_joined step_sums (map (λ j. opposite (guard_claim part c at j)) (below k)) (guard_claim part c at k ∷ [])
      (are_mapped step_sums (λ j. opposite (guard_claim part c at j)) (below k) (λ j there. guard_is_of j (let less = below_in k j there in omega arith)))
      (guard_is_of k to, tt))

  rule_is_of : (k : ℕ) → IsAmong (below (length c.rules)) k → IsOf step_sums (rule_claim part c at k)
  rule_is_of k there = let to = below_in (length c.rules) k there in (fires_is_of k to, (sets_are_of k to, tt))

  fires_length : (k : ℕ) → length (map (λ j. opposite (guard_claim part c at j)) (below k) ++ guard_claim part c at k ∷ []) ≡ k + 1
  fires_length k =
      let front : length (map (λ j. opposite (guard_claim part c at j)) (below k)) ≡ length (below k) =
      length-map (below k) (λ j. opposite (guard_claim part c at j)) in
      let many = length_below k in
      let both : length (map (λ j. opposite (guard_claim part c at j)) (below k) ++ guard_claim part c at k ∷ [])
      ≡ length (map (λ j. opposite (guard_claim part c at j)) (below k)) + 1 =
      length-append (map (λ j. opposite (guard_claim part c at j)) (below k)) (guard_claim part c at k ∷ []) in
      omega arith

  sets_length : (k : ℕ) → length (map (λ j. set_claim part at j (set_of c k j)) (below (length c.states))) ≤ 3
  sets_length k =
      let states_to = few.states_to in
      let same : length (map (λ j. set_claim part at j (set_of c k j)) (below (length c.states))) ≡ length (below (length c.states)) =
      length-map (below (length c.states)) (λ j. set_claim part at j (set_of c k j)) in
      let many = length_below (length c.states) in
      omega arith

  rule_light : (k : ℕ) → claim_weight 1 0 (rule_claim part c at k) ≤ k + 13
  rule_light k =
      let fires = conjunction_weight 1 0 1 (map (λ j. opposite (guard_claim part c at j)) (below k) ++ guard_claim part c at k ∷ [])
      (light_joined 1 0 1 (map (λ j. opposite (guard_claim part c at j)) (below k)) (guard_claim part c at k ∷ [])
      (light_mapped 1 0 1 (λ j. opposite (guard_claim part c at j)) (below k) (λ j. guard_light at (test_of (rule_of c j).guard) (few.plain j)))
      (guard_light at (test_of (rule_of c k).guard) (few.plain k), tt)) in
      let sets = conjunction_weight 1 0 3 (map (λ j. set_claim part at j (set_of c k j)) (below (length c.states)))
      (light_mapped 1 0 3 (λ j. set_claim part at j (set_of c k j)) (below (length c.states)) (λ j. set_light at j (set_of c k j))) in
      let guards = fires_length k in
      let states = sets_length k in
      omega arith

  rule_light_too : (k : ℕ) → k ≤ 2 → claim_weight 2 2 (rule_claim part c at k) ≤ 52
  rule_light_too k to =
      let fires = conjunction_weight 2 2 2 (map (λ j. opposite (guard_claim part c at j)) (below k) ++ guard_claim part c at k ∷ [])
      (light_joined 2 2 2 (map (λ j. opposite (guard_claim part c at j)) (below k)) (guard_claim part c at k ∷ [])
      (light_mapped 2 2 2 (λ j. opposite (guard_claim part c at j)) (below k) (λ j. guard_light_too at (test_of (rule_of c j).guard) (few.plain j)))
      (guard_light_too at (test_of (rule_of c k).guard) (few.plain k), tt)) in
      let sets = conjunction_weight 2 2 8 (map (λ j. set_claim part at j (set_of c k j)) (below (length c.states)))
      (light_mapped 2 2 8 (λ j. set_claim part at j (set_of c k j)) (below (length c.states)) (λ j. set_light_too at j (set_of c k j))) in
      let guards = fires_length k in
      let states = sets_length k in
      omega arith

  steps_measured : Measured (step_claims part c at) 11 42 156
  steps_measured =
      let before_to = few.before_to in
      let count = few.count in
      record {
        sums = step_sums;
        few = (let guards = guards_few in let sets = sets_few in
            let long : length step_sums ≡ length (flat_map guard_lists (below (length c.rules))) + length (flat_map set_lists (below (length c.rules))) =
            length-append (flat_map guard_lists (below (length c.rules))) (flat_map set_lists (below (length c.rules))) in omega arith);
        of = are_mapped step_sums (rule_claim part c at) (below (length c.rules)) rule_is_of;
        atoms = (let each = mapped_weights 1 0 (rule_claim part c at) (λ k. k + 13) (below (length c.rules)) (λ k there. rule_light k) in
            let all = three_at_most (length c.rules) (omega arith) in omega arith);
        clauses = (let each = mapped_weights 2 2 (rule_claim part c at) (λ k. 52) (below (length c.rules))
            (λ k there. rule_light_too k (let to = below_in (length c.rules) k there in omega arith)) in
            let all = three_at_most_too (length c.rules) (omega arith) in omega arith);
      }

-- ---- what is sent

send_measured : (at : ReadPoint) (window : Lin) (rate : Option Lin) → rate ≡ None → Measured (send_claim part at window rate ∷ []) 2 6 18
send_measured at window rate none = subst (λ (r : Option Lin). Measured (send_claim part at window r ∷ []) 2 6 18) (sym none) unpaced
  where
    unpaced : Measured (send_claim part at window None ∷ []) 2 6 18
    unpaced = record {
      sums = growth_terms part at ∷ window_terms part at window ∷ [];
      few = omega arith;
      of = ((inl refl, (inr (inl refl), (inl refl, inr (inl refl)))), tt);
      atoms = omega arith;
      clauses = omega arith;
    }

-- ---- a controlled row

controlled_measured : (c : Controller) (s : Setting) (i : ℕ) → IsFew c → s.flows ≤ 2 → Measured (controlled_row_claims part c s i) 26 96 348
controlled_measured c s i few flows =
    measured_to (controlled_row_claims part c s i) (s.flows * 11 + s.flows * 2) (s.flows * 42 + s.flows * 6) (s.flows * 156 + s.flows * 18) 26 96 348
    (measured_joined (each_flow (λ f. step_claims part c (stepping s i f)) s.flows)
    (each_flow (λ f. send_claim part (sending s i f) c.window c.rate ∷ []) s.flows)
    (s.flows * 11) (s.flows * 42) (s.flows * 156) (s.flows * 2) (s.flows * 6) (s.flows * 18)
    (measured_flows (λ f. step_claims part c (stepping s i f)) 11 42 156 s.flows (λ f. steps_measured c few (stepping s i f)))
    (measured_flows (λ f. send_claim part (sending s i f) c.window c.rate ∷ []) 2 6 18 s.flows (λ f. send_measured (sending s i f) c.window c.rate few.rate)))
    (omega arith) (omega arith) (omega arith)

-- ---- the rows one after another

pub before_measured : (c : Controller) (s : Setting) (i : ℕ) → i < opening_row c s → Measured (flow_claims part false c s i) 0 0 0
unfolding flow_claims
before_measured c s i before = let e : nat_lt i (opening_row c s) ≡ true = grind (arith, nat_tests) in rw e measured_none

pub opens_measured : (c : Controller) (s : Setting) (i : ℕ) → i ≡ opening_row c s → length c.states ≤ 3 → s.flows ≤ 2
    → Measured (flow_claims part false c s i) 12 12 12
unfolding flow_claims
opens_measured c s i here few flows =
    let e : nat_lt i (opening_row c s) ≡ false = grind (arith, nat_tests) in
    let d : (i == opening_row c s) ≡ true = grind (arith, nat_tests) in
    rw (e, d) (opening_row_measured c s i few flows)

pub steps_on_measured : (c : Controller) (s : Setting) (i : ℕ) → opening_row c s < i → IsFew c → s.flows ≤ 2 → Measured (flow_claims part false c s i) 26 96 348
unfolding flow_claims
steps_on_measured c s i behind few flows =
    let e : nat_lt i (opening_row c s) ≡ false = grind (arith, nat_tests) in
    let d : (i == opening_row c s) ≡ false = grind (arith, nat_tests) in
    rw (e, d) (controlled_measured c s i few flows)
