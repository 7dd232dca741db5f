-- What the answers about the opening row and about a step say.
use Rattle.claims.specs.Subjects.{in_run}
use Rattle.std.proofs.Common.{◌≡◌, ℕ, ◌-◌, ◌<◌, ◌≤◌, ◌⊎◌, inl, inr, Bool, true, false, Option, Some, None, Result, Ok, Err, length, refl, sym, ◌∙◌, ap, subst, arith}
use Rattle.std.proofs.lemmas.Bool.{cases_lt}
use Rattle.whole.specs.declared.answers.Stuck.{Stuck}
use Rattle.weighing.specs.Queries.{IsFirstStuck, NoneOverflows, Tells, asked}
use Rattle.weighing.specs.Claim.{Holds}
use Rattle.weighing.proofs.AskedClaims.{tells_law}
use Rattle.weighing.proofs.Claims.{outcome_answers}
use Rattle.run_rows.specs.declared.rows.Run.{Run}
use Rattle.path_server.proofs.RuleLaws.{Means}
use Rattle.path_server.specs.Limits.{IsSetting}
use Rattle.path_server.specs.declared.settings.Setting.{Setting}
use Rattle.ctrl_types.specs.Limits.{IsController, rule_of}
use Rattle.ctrl_types.specs.Tests.{test_of}
use Rattle.ctrl_types.specs.declared.controllers.Controller.{Controller}
use Rattle.ctrl_meaning.specs.Guards.{test_claim}
use Rattle.ctrl_meaning.specs.Limits.{FitsBoth, IsControlled}
use Rattle.ctrl_meaning.specs.Meaning.{Fires, GuardHolds, IsFirstDiffering, IsOtherArrival, IsStep, IsStuckInSend, IsStuckInStep, IsTrueAt, NothingOverflows, NothingOverflowsInSend, NothingOverflowsInStep, SendSticks, Sends, StateAgrees, Steps, den_of_all}
use Rattle.ctrl_meaning.specs.Steps.{after_guards, after_rule, differing, fired, firing, guard_claim, guard_outcome, sending, sent, sent_claim, set_claim, set_of, state_claim, step, stepping}
use Rattle.ctrl_meaning.specs.declared.readings.ReadPoint.{ReadPoint}
use Rattle.ctrl_meaning.specs.declared.step.StepHolds.{StepHolds}
use Rattle.ctrl_meaning.specs.declared.step.StepHolds.TheVariants.{Yes, State, Arrival, StepWide, SendWide}
use Rattle.ctrl_meaning.proofs.Readiness.{IsStepReady, can_step, has_den, step_ready}
use Rattle.ctrl_meaning.proofs.SendLaws.{send_means}
use Rattle.ctrl_meaning.proofs.TestLaws.{set_means, test_means}

pub guard_means : (c : Controller) (r : Run) (at : ReadPoint) (k : ℕ) → 0 < den_of_all c → IsStepReady c r at → k < length c.rules
    → Means (Holds (test_claim (in_run r) at (test_of (rule_of c k).guard))) (GuardHolds c r at k)
guard_means c r at k some ready inside = test_means r at (den_of_all c) (test_of (rule_of c k).guard) some (ready.guards k inside)

pub state_means : (c : Controller) (r : Run) (at : ReadPoint) (k j : ℕ) → 0 < den_of_all c → IsStepReady c r at → k < length c.rules
    → j < length c.states → Means (Holds (set_claim (in_run r) at j (set_of c k j))) (StateAgrees c r at k j)
state_means c r at k j some ready inside among = set_means r at (den_of_all c) j (set_of c k j) some (ready.sets k j inside among)

-- only one rule is the least whose guard is true
pub one_fires : (c : Controller) (r : Run) (at : ReadPoint) (j k : ℕ) → Fires c r at j → Fires c r at k → j ≡ k
one_fires c r at j k one two =
    elim (cases_lt j k) [
      | inl less ↦ absurd (two.least j less one.holds)
      | inr most ↦ elim (cases_lt k j) [
        | inl more ↦ absurd (one.least k more two.holds)
        | inr least ↦ omega arith
      ]
    ]

guards_stuck : (last : ℕ) (found : Result (Option ℕ) Stuck) (stuck : Stuck) → firing last found ≡ Err stuck → found ≡ Err stuck
guards_stuck last (Err other) stuck is = ap (λ e. let r : Result (Option ℕ) Stuck = Err e in r) (let same : other ≡ stuck = cc in same)
guards_stuck last (Ok None) stuck is = absurd (cc)
guards_stuck last (Ok (Some k)) stuck is = absurd (cc)

-- what is weighed where everything can be read
module _ (c : Controller) (r : Run) (at : ReadPoint) (some : 0 < den_of_all c) (ready : IsStepReady c r at) where
  guards_tell : Tells true at.row (guard_claim c r at) (GuardHolds c r at) (length c.rules) (asked true (guard_outcome c r at) (length c.rules))
  guards_tell =
      tells_law true at.row (guard_claim c r at) (length c.rules) (GuardHolds c r at) (λ k inside. guard_means c r at k some ready inside)

  pub states_tell : (k : ℕ) → Fires c r at k
      → Tells false at.row (state_claim c r at k) (StateAgrees c r at k) (length c.states) (differing c r at k)
  unfolding differing
  states_tell k fires =
      tells_law false at.row (state_claim c r at k) (length c.states) (StateAgrees c r at k)
      (λ j among. state_means c r at k j some ready fires.within among)

  -- the rule that is found is the least whose guard is true
  pub fires_law : (k : ℕ) → IsController c → fired c r at ≡ Ok k → NoneOverflows (guard_claim c r at) (length c.rules) × Fires c r at k
  unfolding fired
  fires_law k is found = by (asked true (guard_outcome c r at) (length c.rules)) refl found
    where
      by : (t : Result (Option ℕ) Stuck) → asked true (guard_outcome c r at) (length c.rules) ≡ t → firing (length c.rules - 1) t ≡ Ok k
          → NoneOverflows (guard_claim c r at) (length c.rules) × Fires c r at k
      by (Err stuck) asks fires = absurd (cc)
      by (Ok None) asks fires =
          let from = is.rules_from in
          let never = (guards_tell.none.0 asks).1 (length c.rules - 1) (omega arith) in
          absurd (never (subst (IsTrueAt r at (den_of_all c)) (sym is.otherwise) tt))
      by (Ok (Some j)) asks fires =
          let same : j ≡ k = cc in
          let both = (guards_tell.some j).0 asks in
          (both.0, subst (Fires c r at) same (record { within = both.1.within; holds = both.1.here; least = both.1.before }))

  pub fires_again : (k : ℕ) → NoneOverflows (guard_claim c r at) (length c.rules) → Fires c r at k → fired c r at ≡ Ok k
  unfolding fired
  fires_again k small fires =
      ap (firing (length c.rules - 1))
      ((guards_tell.some k).1 (small, record { within = fires.within; before = fires.least; here = fires.holds }))

  guards_stuck_law : (stuck : Stuck) → fired c r at ≡ Err stuck → IsFirstStuck at.row (guard_claim c r at) (length c.rules) stuck
  unfolding fired
  guards_stuck_law stuck found =
      (guards_tell.stuck stuck).0
      (guards_stuck (length c.rules - 1) (asked true (guard_outcome c r at) (length c.rules)) stuck found)

  guards_stuck_again : (stuck : Stuck) → IsFirstStuck at.row (guard_claim c r at) (length c.rules) stuck → fired c r at ≡ Err stuck
  unfolding fired
  guards_stuck_again stuck one = ap (firing (length c.rules - 1)) ((guards_tell.stuck stuck).1 one)

  -- where nothing overflows in the guards and in what a rule gives that fires, nothing overflows in the step
  nothing_overflows : (k : ℕ) → Fires c r at k → NoneOverflows (guard_claim c r at) (length c.rules) → NoneOverflows (state_claim c r at k) (length c.states)
      → NothingOverflowsInStep c r at
  nothing_overflows k fires guards states = record {
    guards = guards;
    states = λ j other. subst (λ i. NoneOverflows (state_claim c r at i) (length c.states)) (one_fires c r at k j fires other) states;
  }

-- what comes of weighing what is sent
module _ (c : Controller) (r : Run) (at : ReadPoint) (some : 0 < den_of_all c) (ready : IsStepReady c r at) where
  send_means_it : Means (Holds (sent_claim c r at)) (Sends c r at)
  send_means_it = send_means r at (den_of_all c) c.window c.rate some ready.window ready.rate

  pub sends_law : sent c r at ≡ Ok true → NothingOverflowsInSend c r at × Sends c r at
  unfolding sent
  sends_law is = let both = (outcome_answers at.row (sent_claim c r at)).holds.0 is in (both.0, send_means_it.0 both.1)

  pub sends_again : NothingOverflowsInSend c r at → Sends c r at → sent c r at ≡ Ok true
  unfolding sent
  sends_again small sends = (outcome_answers at.row (sent_claim c r at)).holds.1 (small, send_means_it.1 sends)

  pub not_sends_law : sent c r at ≡ Ok false → NothingOverflowsInSend c r at × (Sends c r at → ⊥)
  unfolding sent
  not_sends_law is =
      let both = (outcome_answers at.row (sent_claim c r at)).fails.0 is in (both.0, λ sends. both.1 (send_means_it.1 sends))

  pub not_sends_again : NothingOverflowsInSend c r at → (Sends c r at → ⊥) → sent c r at ≡ Ok false
  unfolding sent
  not_sends_again small not = (outcome_answers at.row (sent_claim c r at)).fails.1 (small, λ holds. not (send_means_it.0 holds))

pub send_sticks_law : (c : Controller) (r : Run) (at : ReadPoint) (stuck : Stuck) → sent c r at ≡ Err stuck → SendSticks c r at stuck
unfolding sent
send_sticks_law c r at stuck = ((outcome_answers at.row (sent_claim c r at)).stuck stuck).0

pub send_sticks_again : (c : Controller) (r : Run) (at : ReadPoint) (stuck : Stuck) → SendSticks c r at stuck → sent c r at ≡ Err stuck
unfolding sent
send_sticks_again c r at stuck = ((outcome_answers at.row (sent_claim c r at)).stuck stuck).1

-- ---- the parts of an answer

pub yes_parts : (f : Result ℕ Stuck) (d : ℕ → Result (Option ℕ) Stuck) (e : Result Bool Stuck) (k : ℕ) → after_guards f d e ≡ Yes k
    → (f ≡ Ok k) × (d k ≡ Ok None) × (e ≡ Ok true)
yes_parts (Err stuck) d e k is = absurd (cc)
yes_parts (Ok j) d e k is = by (d j) e refl is
  where
    by : (t : Result (Option ℕ) Stuck) (u : Result Bool Stuck) → d j ≡ t → after_rule j t u ≡ Yes k
        → ((let r : Result ℕ Stuck = Ok j in r) ≡ Ok k) × (d k ≡ Ok None) × (u ≡ Ok true)
    by (Err stuck) u q is = absurd (cc)
    by (Ok (Some i)) u q is = absurd (cc)
    by (Ok None) (Err stuck) q is = absurd (cc)
    by (Ok None) (Ok false) q is = absurd (cc)
    by (Ok None) (Ok true) q is =
        let same : j ≡ k = cc in
        (ap (λ n. let r : Result ℕ Stuck = Ok n in r) same, ap d (sym same) ∙ q, refl)

-- the states' part of an answer
pub record StateParts (f : Result ℕ Stuck) (d : ℕ → Result (Option ℕ) Stuck) (t : Result (Option ℕ) Stuck) : Type 0 where
  pub rule : ℕ
  pub fires : f ≡ Ok rule
  pub states : d rule ≡ t

state_parts : (f : Result ℕ Stuck) (d : ℕ → Result (Option ℕ) Stuck) (e : Result Bool Stuck) (j : ℕ) → after_guards f d e ≡ State j
    → StateParts f d (Ok (Some j))
state_parts (Err stuck) d e j is = absurd (cc)
state_parts (Ok k) d e j is = by (d k) e refl is
  where
    by : (t : Result (Option ℕ) Stuck) (u : Result Bool Stuck) → d k ≡ t → after_rule k t u ≡ State j → StateParts (Ok k) d (Ok (Some j))
    by (Err stuck) u q is = absurd (cc)
    by (Ok (Some i)) u q is =
        let same : i ≡ j = cc in
        record { rule = k; fires = refl; states = q ∙ ap (λ n. let r : Result (Option ℕ) Stuck = Ok (Some n) in r) same }
    by (Ok None) (Err stuck) q is = absurd (cc)
    by (Ok None) (Ok false) q is = absurd (cc)
    by (Ok None) (Ok true) q is = absurd (cc)

pub arrival_parts : (f : Result ℕ Stuck) (d : ℕ → Result (Option ℕ) Stuck) (e : Result Bool Stuck) → after_guards f d e ≡ Arrival
    → StateParts f d (Ok None) × (e ≡ Ok false)
arrival_parts (Err stuck) d e is = absurd (cc)
arrival_parts (Ok k) d e is = by (d k) e refl is
  where
    by : (t : Result (Option ℕ) Stuck) (u : Result Bool Stuck) → d k ≡ t → after_rule k t u ≡ Arrival → StateParts (Ok k) d (Ok None) × (u ≡ Ok false)
    by (Err stuck) u q is = absurd (cc)
    by (Ok (Some i)) u q is = absurd (cc)
    by (Ok None) (Err stuck) q is = absurd (cc)
    by (Ok None) (Ok false) q is = (record { rule = k; fires = refl; states = q }, refl)
    by (Ok None) (Ok true) q is = absurd (cc)

step_wide_parts : (f : Result ℕ Stuck) (d : ℕ → Result (Option ℕ) Stuck) (e : Result Bool Stuck) (stuck : Stuck) → after_guards f d e ≡ StepWide stuck
    → (f ≡ Err stuck) ⊎ StateParts f d (Err stuck)
step_wide_parts (Err other) d e stuck is = inl (ap (λ s. let r : Result ℕ Stuck = Err s in r) (let same : other ≡ stuck = cc in same))
step_wide_parts (Ok k) d e stuck is = by (d k) e refl is
  where
    by : (t : Result (Option ℕ) Stuck) (u : Result Bool Stuck) → d k ≡ t → after_rule k t u ≡ StepWide stuck
        → ((let r : Result ℕ Stuck = Ok k in r) ≡ Err stuck) ⊎ StateParts (Ok k) d (Err stuck)
    by (Err other) u q is =
        let same : other ≡ stuck = cc in
        inr (record { rule = k; fires = refl; states = q ∙ ap (λ s. let r : Result (Option ℕ) Stuck = Err s in r) same })
    by (Ok (Some i)) u q is = absurd (cc)
    by (Ok None) (Err other) q is = absurd (cc)
    by (Ok None) (Ok false) q is = absurd (cc)
    by (Ok None) (Ok true) q is = absurd (cc)

pub send_wide_parts : (f : Result ℕ Stuck) (d : ℕ → Result (Option ℕ) Stuck) (e : Result Bool Stuck) (stuck : Stuck) → after_guards f d e ≡ SendWide stuck
    → StateParts f d (Ok None) × (e ≡ Err stuck)
send_wide_parts (Err other) d e stuck is = absurd (cc)
send_wide_parts (Ok k) d e stuck is = by (d k) e refl is
  where
    by : (t : Result (Option ℕ) Stuck) (u : Result Bool Stuck) → d k ≡ t → after_rule k t u ≡ SendWide stuck
        → StateParts (Ok k) d (Ok None) × (u ≡ Err stuck)
    by (Err other) u q is = absurd (cc)
    by (Ok (Some i)) u q is = absurd (cc)
    by (Ok None) (Err other) q is =
        let same : other ≡ stuck = cc in
        (record { rule = k; fires = refl; states = q }, ap (λ s. let r : Result Bool Stuck = Err s in r) same)
    by (Ok None) (Ok false) q is = absurd (cc)
    by (Ok None) (Ok true) q is = absurd (cc)

-- ---- what each answer says of a controlled row at which everything can be read

pub record IsReadyRow (c : Controller) (s : Setting) (r : Run) (row flow : ℕ) : Type 0 where
  pub controller_in : IsController c
  pub some : 0 < den_of_all c
  pub stepping_in : IsStepReady c r (stepping s row flow)
  pub sending_in : IsStepReady c r (sending s row flow)

-- an answer by what is found of the guards, the states and the arrival
pub step_is : (c : Controller) (s : Setting) (r : Run) (row flow k : ℕ) (states : Result (Option ℕ) Stuck) (send : Result Bool Stuck)
    → fired c r (stepping s row flow) ≡ Ok k → differing c r (stepping s row flow) k ≡ states → sent c r (sending s row flow) ≡ send
    → step c s r row flow ≡ after_rule k states send
unfolding step
step_is c s r row flow k states send fires differs sends =
    ap (λ t. after_guards t (differing c r (stepping s row flow)) (sent c r (sending s row flow))) fires
    ∙ ap (λ t. after_rule k t (sent c r (sending s row flow))) differs
    ∙ ap (after_rule k states) sends

module _ (c : Controller) (s : Setting) (r : Run) (row flow : ℕ) (ready : IsReadyRow c s r row flow) where
  -- the states are those of a step of rule k, and nothing overflows
  steps_of : (k : ℕ) → fired c r (stepping s row flow) ≡ Ok k → differing c r (stepping s row flow) k ≡ Ok None → NothingOverflowsInStep c r (stepping s row flow) × Steps c r (stepping s row flow) k
  steps_of k fires none =
      let first = fires_law c r (stepping s row flow) ready.some ready.stepping_in k ready.controller_in fires in
      let states = (states_tell c r (stepping s row flow) ready.some ready.stepping_in k first.1).none.0 none in
      (nothing_overflows c r (stepping s row flow) ready.some ready.stepping_in k first.1 first.0 states.0, record { fires = first.1; agrees = states.1 })

  found_steps : (k : ℕ) → NothingOverflowsInStep c r (stepping s row flow) → Steps c r (stepping s row flow) k → (fired c r (stepping s row flow) ≡ Ok k) × (differing c r (stepping s row flow) k ≡ Ok None)
  found_steps k small steps = (
    fires_again c r (stepping s row flow) ready.some ready.stepping_in k small.guards steps.fires,
    (states_tell c r (stepping s row flow) ready.some ready.stepping_in k steps.fires).none.1 (small.states k steps.fires, steps.agrees),
  )

  pub yes_law : (k : ℕ) → step c s r row flow ≡ Yes k → IsStep c s r row flow k × NothingOverflows c s r row flow
  unfolding step
  yes_law k is =
      let parts = yes_parts (fired c r (stepping s row flow)) (differing c r (stepping s row flow)) (sent c r (sending s row flow)) k is in
      let steps = steps_of k parts.0 parts.1 in
      let sends = sends_law c r (sending s row flow) ready.some ready.sending_in parts.2 in
      (record { steps = steps.1; sends = sends.1 }, record { in_step = steps.0; in_send = sends.0 })

  -- a step is found to be one, unless a weighing overflows
  pub yes_again : (k : ℕ) → IsStep c s r row flow k → NothingOverflows c s r row flow → step c s r row flow ≡ Yes k
  yes_again k is small =
      let found = found_steps k small.in_step is.steps in
      step_is c s r row flow k (Ok None) (Ok true) found.0 found.1 (sends_again c r (sending s row flow) ready.some ready.sending_in small.in_send is.sends)

  pub state_law : (j : ℕ) → step c s r row flow ≡ State j → IsFirstDiffering c r (stepping s row flow) j
  unfolding step
  state_law j is =
      let parts = state_parts (fired c r (stepping s row flow)) (differing c r (stepping s row flow)) (sent c r (sending s row flow)) j is in
      let first = fires_law c r (stepping s row flow) ready.some ready.stepping_in parts.rule ready.controller_in parts.fires in
      let both = ((states_tell c r (stepping s row flow) ready.some ready.stepping_in parts.rule first.1).some j).0 parts.states in
      record {
        rule = parts.rule;
        fires = first.1;
        within = both.1.within;
        before = both.1.before;
        differs = both.1.here;
        weighed = nothing_overflows c r (stepping s row flow) ready.some ready.stepping_in parts.rule first.1 first.0 both.0;
      }

  pub state_again : (j : ℕ) → IsFirstDiffering c r (stepping s row flow) j → step c s r row flow ≡ State j
  state_again j one =
      step_is c s r row flow one.rule (Ok (Some j)) (sent c r (sending s row flow))
      (fires_again c r (stepping s row flow) ready.some ready.stepping_in one.rule one.weighed.guards one.fires)
      (((states_tell c r (stepping s row flow) ready.some ready.stepping_in one.rule one.fires).some j).1
      (one.weighed.states one.rule one.fires, record { within = one.within; before = one.before; here = one.differs }))
      refl

  pub arrival_law : step c s r row flow ≡ Arrival → IsOtherArrival c s r row flow
  unfolding step
  arrival_law is =
      let parts = arrival_parts (fired c r (stepping s row flow)) (differing c r (stepping s row flow)) (sent c r (sending s row flow)) is in
      let steps = steps_of parts.0.rule parts.0.fires parts.0.states in
      let sends = not_sends_law c r (sending s row flow) ready.some ready.sending_in parts.1 in
      record {
        rule = parts.0.rule;
        steps = steps.1;
        differs = sends.1;
        weighed = record { in_step = steps.0; in_send = sends.0 };
      }

  pub arrival_again : IsOtherArrival c s r row flow → step c s r row flow ≡ Arrival
  arrival_again one =
      let found = found_steps one.rule one.weighed.in_step one.steps in
      step_is c s r row flow one.rule (Ok None) (Ok false) found.0 found.1
      (not_sends_again c r (sending s row flow) ready.some ready.sending_in one.weighed.in_send one.differs)

  pub step_wide_law : (stuck : Stuck) → step c s r row flow ≡ StepWide stuck → IsStuckInStep c s r row flow stuck
  unfolding step
  step_wide_law stuck is =
      elim (step_wide_parts (fired c r (stepping s row flow)) (differing c r (stepping s row flow)) (sent c r (sending s row flow)) stuck is) [
        | inl guards ↦ inl (guards_stuck_law c r (stepping s row flow) ready.some ready.stepping_in stuck guards)
        | inr parts ↦
            let first = fires_law c r (stepping s row flow) ready.some ready.stepping_in parts.rule ready.controller_in parts.fires in
            inr (
              parts.rule,
              first.1,
              first.0,
              ((states_tell c r (stepping s row flow) ready.some ready.stepping_in parts.rule first.1).stuck stuck).0 parts.states,
            )
      ]

  pub step_wide_again : (stuck : Stuck) → IsStuckInStep c s r row flow stuck → step c s r row flow ≡ StepWide stuck
  unfolding step
  step_wide_again stuck one =
      elim one [
        | inl guards ↦
            ap (λ t. after_guards t (differing c r (stepping s row flow)) (sent c r (sending s row flow))) (guards_stuck_again c r (stepping s row flow) ready.some ready.stepping_in stuck guards)
        | inr later ↦
            step_is c s r row flow later.0 (Err stuck) (sent c r (sending s row flow))
            (fires_again c r (stepping s row flow) ready.some ready.stepping_in later.0 later.2 later.1)
            (((states_tell c r (stepping s row flow) ready.some ready.stepping_in later.0 later.1).stuck stuck).1 later.3)
            refl
      ]

  pub send_wide_law : (stuck : Stuck) → step c s r row flow ≡ SendWide stuck → IsStuckInSend c s r row flow stuck
  unfolding step
  send_wide_law stuck is =
      let parts = send_wide_parts (fired c r (stepping s row flow)) (differing c r (stepping s row flow)) (sent c r (sending s row flow)) stuck is in
      let steps = steps_of parts.0.rule parts.0.fires parts.0.states in
      record {
        rule = parts.0.rule;
        steps = steps.1;
        weighed = steps.0;
        overflows = send_sticks_law c r (sending s row flow) stuck parts.1;
      }

  pub send_wide_again : (stuck : Stuck) → IsStuckInSend c s r row flow stuck → step c s r row flow ≡ SendWide stuck
  send_wide_again stuck one =
      let found = found_steps one.rule one.weighed one.steps in
      step_is c s r row flow one.rule (Ok None) (Err stuck) found.0 found.1 (send_sticks_again c r (sending s row flow) stuck one.overflows)

  -- a step is never found to be none, whatever overflows
  pub found_law : (k : ℕ) → IsStep c s r row flow k
      → (step c s r row flow ≡ Yes k) ⊎ ((stuck : Stuck) × ((step c s r row flow ≡ StepWide stuck) ⊎ (step c s r row flow ≡ SendWide stuck)))
  found_law k is = by (step c s r row flow) refl
    where
      by : (answer : StepHolds) → step c s r row flow ≡ answer
          → (answer ≡ Yes k) ⊎ ((stuck : Stuck) × ((answer ≡ StepWide stuck) ⊎ (answer ≡ SendWide stuck)))
      by (Yes j) q = inl (ap Yes (one_fires c r (stepping s row flow) j k (yes_law j q).0.steps.fires is.steps.fires))
      by (State j) q =
          let other = state_law j q in
          let same : k ≡ other.rule = one_fires c r (stepping s row flow) k other.rule is.steps.fires other.fires in
          absurd (other.differs (subst (λ n. StateAgrees c r (stepping s row flow) n j) same (is.steps.agrees j other.within)))
      by Arrival q = absurd ((arrival_law q).differs is.sends)
      by (StepWide stuck) q = inr (stuck, inl refl)
      by (SendWide stuck) q = inr (stuck, inr refl)

-- a controlled row of a run that fits can be read
pub ready_row : (c : Controller) (s : Setting) (r : Run) (row flow : ℕ) → IsController c → IsSetting s → FitsBoth c s r → IsControlled c s row
    → 1 ≤ flow → flow ≤ s.flows → IsReadyRow c s r row flow
ready_row c s r row flow is set fits controlled from to =
    let can = can_step c s r row flow is set fits controlled from to in
    record {
      controller_in = is;
      some = (has_den c is).some;
      stepping_in = step_ready c r (stepping s row flow) is can.states_before;
      sending_in = step_ready c r (sending s row flow) is can.states_here;
    }
