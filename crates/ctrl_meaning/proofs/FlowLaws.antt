-- The claims on the flows of a row hold in a run exactly where each flow opens within its ranges, or takes a step.
use Rattle.std.proofs.Common.{◌≡◌, ℕ, zero, suc, ◌-◌, ◌<◌, ◌⊎◌, inl, inr, ℤ, pos, List, [], ◌∷◌, ◌++◌, length, map, sym, subst, arith}
use Rattle.std.specs.Prelude.{All}
use Rattle.std.proofs.lemmas.Int.{ints}
use Rattle.std.proofs.lemmas.Bool.{cases_lt}
use Rattle.std.proofs.lemmas.List.Elements.{All-append, All-cons, All-head, All-map, All-nil}
use Rattle.whole.proofs.Integers.{≤ℤ_or_>}
use Rattle.condition_tree.specs.Trees.{always, never, leaf, opposite, end_of_all, all_of, end_of_any, any_of}
use Rattle.claims.specs.Subjects.{in_run}
use Rattle.weighing.specs.Claim.{Claim, ComparedHolds, Holds, total}
use Rattle.weighing.specs.First.{below}
use Rattle.weighing.specs.Weighed.{Stands}
use Rattle.weighing.specs.declared.weighings.Rel5.{Rel5}
use Rattle.weighing.specs.declared.weighings.Rel5.TheVariants.{AtMost, Below, AtLeast, Above, Equal}
use Rattle.run_rows.specs.declared.rows.Run.{Run}
use Rattle.path_server.proofs.RuleLaws.{Means}
use Rattle.ctrl_types.specs.Limits.{IsController}
use Rattle.ctrl_types.specs.declared.controllers.Controller.{Controller}
use Rattle.ctrl_meaning.specs.Flows.{fires_claim, guard_claim, rule_claim, sets_claim, step_claims}
use Rattle.ctrl_meaning.specs.Meaning.{Fires, IsTrueAt, StateAgrees, Steps, den_of_all}
use Rattle.ctrl_meaning.specs.Steps.{set_claim, set_of}
use Rattle.ctrl_meaning.specs.declared.readings.ReadPoint.{ReadPoint}
use Rattle.path_server.proofs.RowColumns.{each_below}
use Rattle.path_server.proofs.AdmissionLaws.{all_below}
use Rattle.claim_values.proofs.ClaimLists.{both_halves, conjunction_means, each_of_map}
use Rattle.ctrl_meaning.proofs.Readiness.{IsStepReady}
use Rattle.ctrl_meaning.proofs.StepLaws.{guard_means, one_fires, state_means}

-- ---- a claim holds or doesn't

abbrev OrNot : Type 0 → Type 0
OrNot P = P ⊎ (P → ⊥)

stands_or_not : (rel : Rel5) (z : ℤ) → OrNot (Stands rel z)
stands_or_not AtMost z = elim (≤ℤ_or_> z (pos 0)) [ inl h ↦ inl h | inr h ↦ inr (λ n. omega (arith, ints)) ]
stands_or_not Below z = elim (≤ℤ_or_> (pos 0) z) [ inl h ↦ inr (λ n. omega (arith, ints)) | inr h ↦ inl h ]
stands_or_not AtLeast z = elim (≤ℤ_or_> (pos 0) z) [ inl h ↦ inl h | inr h ↦ inr (λ n. omega (arith, ints)) ]
stands_or_not Above z = elim (≤ℤ_or_> z (pos 0)) [ inl h ↦ inr (λ n. omega (arith, ints)) | inr h ↦ inl h ]
stands_or_not Equal z =
    elim (≤ℤ_or_> z (pos 0)) [
      | inl h ↦ elim (≤ℤ_or_> (pos 0) z) [
        | inl g ↦ inl (omega (arith, ints))
        | inr g ↦ inr (λ n. omega (arith, ints))
      ]
      | inr h ↦ inr (λ n. omega (arith, ints))
    ]

holds_or_not : (c : Claim) → OrNot (Holds c)
holds_or_not always = inl tt
holds_or_not never = inr (λ h. h)
holds_or_not (leaf c) = stands_or_not c.rel (total c.terms)
holds_or_not (opposite c) = elim (holds_or_not c) [ inl h ↦ inr (λ n. n h) | inr n ↦ inl n ]
holds_or_not end_of_all = inl tt
holds_or_not (all_of c d) =
    elim (holds_or_not c) [
      | inl h ↦ elim (holds_or_not d) [ inl g ↦ inl (h, g) | inr n ↦ inr (λ p. n p.1) ]
      | inr n ↦ inr (λ p. n p.0)
    ]
holds_or_not end_of_any = inr (λ h. h)
holds_or_not (any_of c d) =
    elim (holds_or_not c) [
      | inl h ↦ inl (inl h)
      | inr n ↦ elim (holds_or_not d) [ inl g ↦ inl (inr g) | inr m ↦ inr (λ p. elim p [ inl h ↦ n h | inr g ↦ m g ]) ]
    ]

-- the least number below n of which P holds
record IsLeast (P : ℕ → Type 0) (n k : ℕ) : Type 0 where
  within : k < n
  holds : P k
  before : (j : ℕ) → j < k → P j → ⊥

least_or_none : (P : ℕ → Type 0) → ((k : ℕ) → OrNot (P k)) → (n : ℕ) → ((k : ℕ) × IsLeast P n k) ⊎ ((k : ℕ) → k < n → P k → ⊥)
least_or_none P known zero = inr (λ k less. absurd (omega arith))
least_or_none P known (suc n) =
    elim (least_or_none P known n) [
      | inl found ↦ inl (found.0, record { within = wider found.0 n found.1.within; holds = found.1.holds; before = found.1.before })
      | inr none ↦ elim (known n) [
        | inl here ↦ inl (n, record { within = omega arith; holds = here; before = none })
        | inr not ↦ inr (λ k less p. elim (cases_lt k n) [
          | inl before ↦ none k before p
          | inr most ↦ not (subst P (let same : k ≡ n = omega arith in same) p)
        ])
      ]
    ]
  where
    wider : (k n : ℕ) → k < n → k < suc n
    wider k n less = omega arith

-- ---- a step

-- the claim that a rule fires holds exactly where it is the least whose guard is true
fires_means : (c : Controller) (r : Run) (at : ReadPoint) (k : ℕ) → 0 < den_of_all c → IsStepReady c r at → k < length c.rules
    → Means (Holds (fires_claim (in_run r) c at k)) (Fires c r at k)
fires_means c r at k some ready inside = (there, back)
  where
    guards : List Claim
    guards = map (λ j. opposite (guard_claim (in_run r) c at j)) (below k)

    own : Claim
    own = guard_claim (in_run r) c at k

    there : Holds (fires_claim (in_run r) c at k) → Fires c r at k
    there h =
        let halves = both_halves Holds guards (own ∷ []) ((conjunction_means ComparedHolds (guards ++ own ∷ [])).0 h) in
        let before = each_of_map Holds (λ j. opposite (guard_claim (in_run r) c at j)) (below k) halves.0 in
        record {
          within = inside;
          holds = (guard_means c r at k some ready inside).0 (All-head Holds own [] halves.1);
          least = λ j less p.
              each_below (λ i. Holds (opposite (guard_claim (in_run r) c at i))) k before j less
              ((guard_means c r at j some ready (let among : j < length c.rules = omega arith in among)).1 p);
        }

    back : Fires c r at k → Holds (fires_claim (in_run r) c at k)
    back fires =
        (conjunction_means ComparedHolds (guards ++ own ∷ [])).1
        (All-append Holds guards (own ∷ [])
        (All-map Holds (λ j. opposite (guard_claim (in_run r) c at j)) (below k)
        (all_below (λ i. Holds (opposite (guard_claim (in_run r) c at i))) k
        (λ j less h. fires.least j less ((guard_means c r at j some ready (let among : j < length c.rules = omega arith in among)).0 h))))
        (All-cons Holds own [] ((guard_means c r at k some ready inside).1 fires.holds) (All-nil Holds)))

sets_mean : (c : Controller) (r : Run) (at : ReadPoint) (k : ℕ) → 0 < den_of_all c → IsStepReady c r at → k < length c.rules
    → Means (Holds (sets_claim (in_run r) c at k)) ((j : ℕ) → j < length c.states → StateAgrees c r at k j)
sets_mean c r at k some ready inside = (there, back)
  where
    set : ℕ → Claim
    set j = set_claim (in_run r) at j (set_of c k j)

    there : Holds (sets_claim (in_run r) c at k) → (j : ℕ) → j < length c.states → StateAgrees c r at k j
    there h j among =
        (state_means c r at k j some ready inside among).0
        (each_below (λ i. Holds (set i)) (length c.states)
        (each_of_map Holds set (below (length c.states)) ((conjunction_means ComparedHolds (map set (below (length c.states)))).0 h)) j among)

    back : ((j : ℕ) → j < length c.states → StateAgrees c r at k j) → Holds (sets_claim (in_run r) c at k)
    back agrees =
        (conjunction_means ComparedHolds (map set (below (length c.states)))).1
        (All-map Holds set (below (length c.states))
        (all_below (λ i. Holds (set i)) (length c.states) (λ j among. (state_means c r at k j some ready inside among).1 (agrees j among))))

-- the last rule's guard is always true, so some rule fires
some_rule_fires : (c : Controller) (r : Run) (at : ReadPoint) → IsController c → 0 < den_of_all c → IsStepReady c r at → (k : ℕ) × Fires c r at k
some_rule_fires c r at is some ready =
    elim (least_or_none P (λ k. holds_or_not (guard_claim (in_run r) c at k)) (length c.rules)) [
      | inl found ↦ (found.0, fires found.0 found.1)
      | inr none ↦ absurd (none (length c.rules - 1) (let from = is.rules_from in omega arith) last)
    ]
  where
    P : ℕ → Type 0
    P k = Holds (guard_claim (in_run r) c at k)

    last : P (length c.rules - 1)
    last = (guard_means c r at (length c.rules - 1) some ready (let from = is.rules_from in omega arith)).1
        (subst (λ t. IsTrueAt r at (den_of_all c) t) (sym is.otherwise) tt)

    fires : (k : ℕ) → IsLeast P (length c.rules) k → Fires c r at k
    fires k one =
        let inside = one.within in
        record {
          within = one.within;
          holds = (guard_means c r at k some ready one.within).0 one.holds;
          least = λ j less p. one.before j less ((guard_means c r at j some ready (let among : j < length c.rules = omega arith in among)).1 p);
        }

-- the rules' claims hold exactly where the rule that fires gives each state
pub step_means : (c : Controller) (r : Run) (at : ReadPoint) → IsController c → 0 < den_of_all c → IsStepReady c r at
    → Means (All Holds (step_claims (in_run r) c at)) ((rule : ℕ) × Steps c r at rule)
step_means c r at is some ready = (there, back)
  where
    rule : ℕ → Claim
    rule k = rule_claim (in_run r) c at k

    given : (k : ℕ) → Fires c r at k → Holds (rule k) → (j : ℕ) → j < length c.states → StateAgrees c r at k j
    given k fires (inl none) = absurd (none ((fires_means c r at k some ready fires.within).1 fires))
    given k fires (inr (inl sets)) = (sets_mean c r at k some ready fires.within).0 sets
    given k fires (inr (inr none)) = absurd none

    there : All Holds (step_claims (in_run r) c at) → (k : ℕ) × Steps c r at k
    there each =
        let found = some_rule_fires c r at is some ready in
        let claim = each_below (λ i. Holds (rule i)) (length c.rules) (each_of_map Holds rule (below (length c.rules)) each) found.0 found.1.within in
        (found.0, record { fires = found.1; agrees = given found.0 found.1 claim })

    back : ((k : ℕ) × Steps c r at k) → All Holds (step_claims (in_run r) c at)
    back found = All-map Holds rule (below (length c.rules)) (all_below (λ i. Holds (rule i)) (length c.rules) kept)
      where
        kept : (k : ℕ) → k < length c.rules → Holds (rule k)
        kept k inside =
            elim (holds_or_not (fires_claim (in_run r) c at k)) [
              | inl h ↦
                  let fires = (fires_means c r at k some ready inside).0 h in
                  let same : found.0 ≡ k = one_fires c r at found.0 k found.1.fires fires in
                  inr (inl ((sets_mean c r at k some ready inside).1 (subst (λ i. (j : ℕ) → j < length c.states → StateAgrees c r at i j) same found.1.agrees)))
              | inr none ↦ inl none
            ]
