-- What is asked at each place of a replay: what its weighing says, and that all of it together makes a run of the controller.
use Rattle.std.proofs.Common.{◌≡◌, ℕ, ◌+◌, ◌==◌, ◌<◌, ◌≤◌, inl, inr, Bool, true, false, if◌then◌else◌, Result, Ok, Err, [], ◌++◌, map, length, refl, sym, ◌∙◌, ap, subst, arith}
use Rattle.std.specs.Prelude.{All, nat_lt}
use Rattle.std.proofs.lemmas.Bool.{cases_lt}
use Rattle.std.proofs.lemmas.Bool.Decides.{nat_tests}
use Rattle.std.proofs.lemmas.List.Elements.{All-append, All-cons, All-map, All-nil, All-same}
use Rattle.whole.specs.declared.answers.Stuck.{Stuck}
use Rattle.weighing.specs.Queries.{IsFirstStuck, NoneOverflows}
use Rattle.weighing.specs.Claim.{Claim}
use Rattle.weighing.specs.First.{below}
use Rattle.weighing.specs.Overflow.{IsFirstOverflow, NothingOverflows}
use Rattle.weighing.proofs.Claims.{never_stuck, outcome_answers}
use Rattle.run_rows.specs.Runs.{Bounded}
use Rattle.run_rows.specs.declared.rows.Run.{Run}
use Rattle.path_server.specs.Limits.{IsSetting}
use Rattle.path_server.specs.Places.{places_of_row as rules_of_row}
use Rattle.path_server.specs.declared.settings.Setting.{Setting}
use Rattle.path_server.proofs.AdmissionLaws.{all_below, all_flat_map, holds_on_row, weighs_at as rule_weighs}
use Rattle.ctrl_types.specs.Limits.{IsController}
use Rattle.ctrl_types.specs.declared.controllers.Controller.{Controller}
use Rattle.ctrl_meaning.specs.Limits.{FitsBoth, HasShape, IsControlled}
use Rattle.ctrl_meaning.specs.Meaning.{IsStuckInStep, NothingOverflowsInStep, StateAgrees}
use Rattle.ctrl_meaning.specs.Opening.{opening, opening_row, range_claim}
use Rattle.ctrl_meaning.specs.Steps.{guard_claim, sending, sent, sent_claim, state_claim, step, stepping}
use Rattle.ctrl_meaning.specs.declared.opening.OpeningHolds.{OpeningHolds}
use Rattle.ctrl_meaning.specs.declared.opening.OpeningHolds.TheVariants.{Yes as Within, State as Outside, Wide as OpeningWide}
use Rattle.ctrl_meaning.specs.declared.step.StepHolds.{StepHolds}
use Rattle.ctrl_meaning.specs.declared.step.StepHolds.TheVariants.{Yes, State, Arrival, StepWide, SendWide}
use Rattle.ctrl_meaning.proofs.OpeningLaws as openings
use Rattle.ctrl_meaning.proofs.StepLaws.{IsReadyRow, arrival_law, not_sends_law, one_fires, ready_row, send_sticks_again, send_sticks_law, send_wide_law, sends_law, state_law, step_wide_again, step_wide_law, yes_law}
use Rattle.question_text.specs.declared.questions.Question.{Question}
use Rattle.trace_replay.specs.Replaying.{ReplayPlace, fits, obeys, opens, steps, sends, are_stepped, are_within, each_flow, places, places_of_flows, places_of_row, places_of_rows, weighed_at}
use Rattle.ctrl_meaning.specs.RunOf.{RunOf}
use Rattle.trace_replay.specs.Meaning.{HoldsAt, IsStuckAt, NothingOverflowsAt}

-- the row and the flow can be read
pub record IsReadable (c : Controller) (s : Setting) (i f : ℕ) : Type 0 where
  pub controlled : IsControlled c s i
  pub from : 1 ≤ f
  pub to : f ≤ s.flows

-- the places that a run of the right shape is asked at
abbrev pub IsPlace : Controller → Question → ReplayPlace → Type 0
IsPlace c q fits = ⊥
IsPlace c q (obeys p) = Unit {0}
IsPlace c q (opens f) = Unit {0}
IsPlace c q (steps i f) = IsReadable c q.setting i f
IsPlace c q (sends i f) = IsReadable c q.setting i f

-- what the replay owes of a controller, a question and a run
pub record IsGiven (c : Controller) (q : Question) (r : Run) : Type 0 where
  pub controller_in : IsController c
  pub setting_in : IsSetting q.setting
  pub shaped : FitsBoth c q.setting r

ready : (c : Controller) (q : Question) (r : Run) (i f : ℕ) → IsGiven c q r → IsReadable c q.setting i f → IsReadyRow c q.setting r i f
ready c q r i f given at =
    ready_row c q.setting r i f given.controller_in given.setting_in given.shaped at.controlled at.from at.to

-- ---- what a weighing says

-- what comes of weighing what is asked at a place: it holds, or it doesn't, or a weighing overflows
pub record WeighsAt (c : Controller) (q : Question) (r : Run) (place : ReplayPlace) : Type 0 where
  pub holds : weighed_at c q r place ≡ Ok true → NothingOverflowsAt c q r place × HoldsAt c q r place
  pub holding : NothingOverflowsAt c q r place → HoldsAt c q r place → weighed_at c q r place ≡ Ok true
  pub fails : weighed_at c q r place ≡ Ok false → NothingOverflowsAt c q r place × (HoldsAt c q r place → ⊥)
  pub failing : NothingOverflowsAt c q r place → (HoldsAt c q r place → ⊥) → weighed_at c q r place ≡ Ok false
  pub sticks : (stuck : Stuck) → weighed_at c q r place ≡ Err stuck → IsStuckAt c q r place stuck
  pub sticking : (stuck : Stuck) → IsStuckAt c q r place stuck → weighed_at c q r place ≡ Err stuck

abbrev Meant : Controller → Question → Run → ReplayPlace → Result Bool Stuck → Type 0
Meant c q r place (Ok true) = NothingOverflowsAt c q r place × HoldsAt c q r place
Meant c q r place (Ok false) = NothingOverflowsAt c q r place × (HoldsAt c q r place → ⊥)
Meant c q r place (Err stuck) = IsStuckAt c q r place stuck

-- from what its answer means, and that a weighing that is stuck is the answer and isn't one in which nothing overflows
weighs_by : (c : Controller) (q : Question) (r : Run) (place : ReplayPlace) (o : Result Bool Stuck) → weighed_at c q r place ≡ o → Meant c q r place o
    → ((stuck : Stuck) → IsStuckAt c q r place stuck → weighed_at c q r place ≡ Err stuck)
    → ((stuck : Stuck) → IsStuckAt c q r place stuck → NothingOverflowsAt c q r place → ⊥)
    → WeighsAt c q r place
weighs_by c q r place o is meant again quiet = record {
  holds = λ e. subst (Meant c q r place) (sym is ∙ e) meant;
  holding = λ small holds. is ∙ holding o meant small holds;
  fails = λ e. subst (Meant c q r place) (sym is ∙ e) meant;
  failing = λ small not. is ∙ failing o meant small not;
  sticks = λ stuck e. subst (Meant c q r place) (sym is ∙ e) meant;
  sticking = again;
}
  where
    holding : (o : Result Bool Stuck) → Meant c q r place o → NothingOverflowsAt c q r place → HoldsAt c q r place → o ≡ Ok true
    holding (Ok true) meant small holds = refl
    holding (Ok false) meant small holds = absurd (meant.1 holds)
    holding (Err stuck) meant small holds = absurd (quiet stuck meant small)

    failing : (o : Result Bool Stuck) → Meant c q r place o → NothingOverflowsAt c q r place → (HoldsAt c q r place → ⊥) → o ≡ Ok false
    failing (Ok true) meant small not = absurd (not meant.1)
    failing (Ok false) meant small not = refl
    failing (Err stuck) meant small not = absurd (quiet stuck meant small)

-- what is stuck isn't what nothing overflows in
stuck_overflows : (row : ℕ) (claim : Claim) (stuck : Stuck) → IsFirstOverflow row claim stuck → NothingOverflows claim → ⊥
stuck_overflows row claim stuck one small = never_stuck row claim stuck small (((outcome_answers row claim).stuck stuck).1 one)

one_overflows : (row : ℕ) (claim : ℕ → Claim) (n : ℕ) (stuck : Stuck) → IsFirstStuck row claim n stuck → NoneOverflows claim n → ⊥
one_overflows row claim n stuck one small = stuck_overflows row (claim one.at) stuck one.here (small one.at one.within)

module _ (c : Controller) (q : Question) (r : Run) where
  opening_meant : (f : ℕ) (answer : OpeningHolds) → opening c q.setting r f ≡ answer → Meant c q r (opens f) (are_within answer)
  opening_meant f Within is = openings.yes_law c q.setting r f is
  opening_meant f (Outside j) is =
      let one = openings.state_law c q.setting r f j is in (one.weighed, λ within. one.out (within j one.within))
  opening_meant f (OpeningWide stuck) is = openings.wide_law c q.setting r f stuck is

  opening_weighs : (f : ℕ) → WeighsAt c q r (opens f)
  unfolding weighed_at
  opening_weighs f =
      weighs_by c q r (opens f) (are_within (opening c q.setting r f)) refl (opening_meant f (opening c q.setting r f) refl)
      (λ stuck one. ap are_within (openings.wide_again c q.setting r f stuck one))
      (λ stuck one small. one_overflows (opening_row c q.setting) (range_claim c r (opening_row c q.setting) f) (length c.states) stuck one small)

  step_meant : (i f : ℕ) → IsReadyRow c q.setting r i f → (answer : StepHolds) → step c q.setting r i f ≡ answer
      → Meant c q r (steps i f) (are_stepped answer)
  step_meant i f at (Yes rule) is = let both = yes_law c q.setting r i f at rule is in (both.1.in_step, (rule, both.0.steps))
  step_meant i f at (State j) is =
      let other = state_law c q.setting r i f at j is in (
        other.weighed,
        λ has.
            let same = one_fires c r (stepping q.setting i f) has.0 other.rule has.1.fires other.fires in
            other.differs (subst (λ n. StateAgrees c r (stepping q.setting i f) n j) same (has.1.agrees j other.within)),
      )
  step_meant i f at Arrival is = let other = arrival_law c q.setting r i f at is in (other.weighed.in_step, (other.rule, other.steps))
  step_meant i f at (StepWide stuck) is = step_wide_law c q.setting r i f at stuck is
  step_meant i f at (SendWide stuck) is = let other = send_wide_law c q.setting r i f at stuck is in (other.weighed, (other.rule, other.steps))

  step_quiet : (i f : ℕ) (stuck : Stuck) → IsStuckInStep c q.setting r i f stuck → NothingOverflowsInStep c r (stepping q.setting i f) → ⊥
  step_quiet i f stuck one small =
      elim one [
        | inl guards ↦ one_overflows i (guard_claim c r (stepping q.setting i f)) (length c.rules) stuck guards small.guards
        | inr later ↦
            one_overflows i (state_claim c r (stepping q.setting i f) later.0) (length c.states) stuck later.3 (small.states later.0 later.1)
      ]

  step_weighs : (i f : ℕ) → IsReadyRow c q.setting r i f → WeighsAt c q r (steps i f)
  unfolding weighed_at
  step_weighs i f at =
      weighs_by c q r (steps i f) (are_stepped (step c q.setting r i f)) refl (step_meant i f at (step c q.setting r i f) refl)
      (λ stuck one. ap are_stepped (step_wide_again c q.setting r i f at stuck one)) (step_quiet i f)

  send_meant : (i f : ℕ) → IsReadyRow c q.setting r i f → (answer : Result Bool Stuck) → sent c r (sending q.setting i f) ≡ answer
      → Meant c q r (sends i f) answer
  send_meant i f at (Ok true) is = sends_law c r (sending q.setting i f) at.some at.sending_in is
  send_meant i f at (Ok false) is = not_sends_law c r (sending q.setting i f) at.some at.sending_in is
  send_meant i f at (Err stuck) is = send_sticks_law c r (sending q.setting i f) stuck is

  send_weighs : (i f : ℕ) → IsReadyRow c q.setting r i f → WeighsAt c q r (sends i f)
  unfolding weighed_at
  send_weighs i f at =
      weighs_by c q r (sends i f) (sent c r (sending q.setting i f)) refl (send_meant i f at (sent c r (sending q.setting i f)) refl)
      (λ stuck one. send_sticks_again c r (sending q.setting i f) stuck one)
      (λ stuck one small. stuck_overflows i (sent_claim c r (sending q.setting i f)) stuck one small)

  pub weighs_at : IsGiven c q r → (place : ReplayPlace) → IsPlace c q place → WeighsAt c q r place
  unfolding weighed_at
  weighs_at given fits is = absurd is
  weighs_at given (obeys p) is =
      let rule = rule_weighs q.setting.path r given.setting_in.path p in
      record {
        holds = rule.holds;
        holding = rule.holding;
        fails = rule.fails;
        failing = rule.failing;
        sticks = rule.sticks;
        sticking = rule.sticking;
      }
  weighs_at given (opens f) is = opening_weighs f
  weighs_at given (steps i f) is = step_weighs i f (ready c q r i f given is)
  weighs_at given (sends i f) is = send_weighs i f (ready c q r i f given is)

-- ---- what holds at every place

each_holds : (P : ReplayPlace → Type 0) (place : ℕ → ReplayPlace) (n : ℕ) → ((f : ℕ) → 1 ≤ f → f ≤ n → P (place f)) → All P (each_flow place n)
each_holds P place n each =
    All-map P (λ k. place (k + 1)) (below n) (all_below (λ k. P (place (k + 1))) n (λ k less. each (k + 1) (omega arith) (omega arith)))

-- what is asked of the controller before, on and after the opening row
pub before_opening : (h n i : ℕ) → i < h → places_of_flows h n i ≡ []
unfolding places_of_flows
before_opening h n i less = ap (λ b. if b then [] else if i == h then each_flow opens n else each_flow (steps i) n ++ each_flow (sends i) n) (is_less i h less)
  where
    is_less : (a b : ℕ) → a < b → nat_lt a b ≡ true
    is_less a b less = grind (arith, nat_tests, less)

pub on_opening : (h n i : ℕ) → i ≡ h → places_of_flows h n i ≡ each_flow opens n
unfolding places_of_flows
on_opening h n i same =
    ap (λ b. if b then [] else if i == h then each_flow opens n else each_flow (steps i) n ++ each_flow (sends i) n) (not_less i h same)
    ∙ ap (λ b. if b then each_flow opens n else each_flow (steps i) n ++ each_flow (sends i) n) (is_same i h same)
  where
    not_less : (a b : ℕ) → a ≡ b → nat_lt a b ≡ false
    not_less a b same = grind (arith, nat_tests, same)

    is_same : (a b : ℕ) → a ≡ b → a == b ≡ true
    is_same a b same = grind (arith, nat_tests, same)

pub after_opening : (h n i : ℕ) → h < i → places_of_flows h n i ≡ each_flow (steps i) n ++ each_flow (sends i) n
unfolding places_of_flows
after_opening h n i less =
    ap (λ b. if b then [] else if i == h then each_flow opens n else each_flow (steps i) n ++ each_flow (sends i) n) (not_less i h less)
    ∙ ap (λ b. if b then each_flow opens n else each_flow (steps i) n ++ each_flow (sends i) n) (not_same i h less)
  where
    not_less : (a b : ℕ) → b < a → nat_lt a b ≡ false
    not_less a b less = grind (arith, nat_tests, less)

    not_same : (a b : ℕ) → b < a → a == b ≡ false
    not_same a b less = grind (arith, nat_tests, less)

-- so it is known of all of it where it is known on the opening row and after it
flows_hold : (P : ReplayPlace → Type 0) (h n i : ℕ) → (i ≡ h → All P (each_flow opens n)) → (h < i → All P (each_flow (steps i) n ++ each_flow (sends i) n))
    → All P (places_of_flows h n i)
flows_hold P h n i on after =
    elim (cases_lt i h) [
      | inl less ↦ All-same P (places_of_flows h n i) [] (before_opening h n i less) (All-nil P)
      | inr most ↦ elim (cases_lt h i) [
        | inl more ↦ All-same P (places_of_flows h n i) _ (after_opening h n i more) (after more)
        | inr least ↦
            let same : i ≡ h = omega arith in
            All-same P (places_of_flows h n i) _ (on_opening h n i same) (on same)
      ]
    ]

-- a fact of every place of a row, where it is known of each kind of place
row_holds : (P : ReplayPlace → Type 0) (c : Controller) (q : Question) (r : Run) (i : ℕ) → HasShape c q.setting r → i < length r.rows
    → All (λ p. P (obeys p)) (rules_of_row r i)
    → ((f : ℕ) → 1 ≤ f → f ≤ q.setting.flows → P (opens f))
    → ((f : ℕ) → IsReadable c q.setting i f → P (steps i f))
    → ((f : ℕ) → IsReadable c q.setting i f → P (sends i f))
    → All P (places_of_row c q r i)
unfolding places_of_row
row_holds P c q r i shaped inside obeyed opened stepped sent =
    All-append P (map obeys (rules_of_row r i)) (places_of_flows (opening_row c q.setting) q.setting.flows i)
    (All-map P obeys (rules_of_row r i) obeyed)
    (flows_hold P (opening_row c q.setting) q.setting.flows i
    (λ on. each_holds P opens q.setting.flows opened)
    (λ after.
    let at : (f : ℕ) → 1 ≤ f → f ≤ q.setting.flows → IsReadable c q.setting i f =
    λ f from to. record {
      controlled = record { after_opening = after; within = let count = shaped.row_count in omega arith };
      from = from;
      to = to;
    } in
    All-append P (each_flow (steps i) q.setting.flows) (each_flow (sends i) q.setting.flows)
    (each_holds P (steps i) q.setting.flows (λ f from to. stepped f (at f from to)))
    (each_holds P (sends i) q.setting.flows (λ f from to. sent f (at f from to)))))

-- a run of the right shape is asked at such places alone
pub places_are : (c : Controller) (q : Question) (r : Run) → HasShape c q.setting r → All (IsPlace c q) (places_of_rows c q r)
unfolding places_of_rows
places_are c q r shaped =
    all_flat_map (IsPlace c q) (places_of_row c q r) (below (length r.rows))
    (all_below (λ i. All (IsPlace c q) (places_of_row c q r i)) (length r.rows) (λ i inside.
    row_holds (IsPlace c q) c q r i shaped inside (λ k d _. tt) (λ f from to. tt) (λ f at. at) (λ f at. at)))

-- a run of the controller holds what is asked everywhere
held_on_rows : (c : Controller) (q : Question) (r : Run) → RunOf c q.setting r → All (HoldsAt c q r) (places_of_rows c q r)
unfolding places_of_rows
held_on_rows c q r run_of =
    all_flat_map (HoldsAt c q r) (places_of_row c q r) (below (length r.rows))
    (all_below (λ i. All (HoldsAt c q r) (places_of_row c q r i)) (length r.rows) (λ i inside.
    row_holds (HoldsAt c q r) c q r i run_of.free.shaped inside (holds_on_row q.setting.path r i run_of.free.admitted inside) run_of.opened
    (λ f at. let one = run_of.free.stepped i at.controlled f at.from at.to in (one.0, one.1.steps))
    (λ f at. let one = run_of.free.stepped i at.controlled f at.from at.to in one.1.sends)))

pub held_everywhere : (c : Controller) (q : Question) (r : Run) → Bounded r → RunOf c q.setting r → All (HoldsAt c q r) (places c q r)
held_everywhere c q r bounded run_of =
    All-cons (HoldsAt c q r) fits (places_of_rows c q r) (record { shaped = run_of.free.shaped; bounded = bounded }) (held_on_rows c q r run_of)
