-- The claims on the flows of a row hold in a run exactly where what is asked of the flows there does.
use Rattle.std.proofs.Common.{◌≡◌, ℕ, ◌-◌, ◌<◌, ◌≤◌, ◌==◌, Bool, true, false, List, [], ◌∷◌, length, refl, sym, subst, arith}
use Rattle.std.specs.Prelude.{All, nat_lt, if◌then◌else◌}
use Rattle.std.proofs.lemmas.Bool.Decides.{nat_tests}
use Rattle.std.proofs.lemmas.List.Elements.{All-append, All-cons, All-head, All-nil}
use Rattle.claims.specs.Subjects.{constant, each_flow, in_run, of_state}
use Rattle.weighing.specs.Claim.{Claim, Holds}
use Rattle.weighing.specs.First.{below}
use Rattle.run_rows.specs.Runs.{state_of}
use Rattle.run_rows.specs.declared.rows.Run.{Run}
use Rattle.path_server.proofs.RuleColumns.{each_holds}
use Rattle.path_server.proofs.RuleLaws.{Means}
use Rattle.path_server.specs.declared.settings.Setting.{Setting}
use Rattle.ctrl_types.specs.Limits.{IsController}
use Rattle.ctrl_types.specs.declared.controllers.Controller.{Controller}
use Rattle.ctrl_meaning.specs.Flows.{FlowsHold, controlled_row_claims, flow_claims, opening_claims, opening_row_claims, step_claims}
use Rattle.ctrl_meaning.specs.Limits.{HasShape, IsControlled}
use Rattle.ctrl_meaning.specs.Meaning.{IsStep, OpensWithin, Sends, den_of_all}
use Rattle.ctrl_meaning.specs.Opening.{declared_state, opening_row, range_claims}
use Rattle.ctrl_meaning.specs.Sends.{send_claim}
use Rattle.ctrl_meaning.specs.Steps.{sending, stepping}
use Rattle.ctrl_meaning.specs.declared.readings.ReadPoint.{ReadPoint}
use Rattle.path_server.proofs.RowColumns.{each_below, each_of_joined}
use Rattle.path_server.proofs.AdmissionLaws.{all_below, all_flat_map}
use Rattle.claim_values.proofs.ClaimLists.{both_halves, each_of_flows, flows_of_each}
use Rattle.ctrl_meaning.proofs.FlowLaws.{step_means}
use Rattle.ctrl_meaning.proofs.OpeningLaws.{range_means}
use Rattle.ctrl_meaning.proofs.Readiness.{IsStepReady, has_den, states_stand, step_ready}
use Rattle.ctrl_meaning.proofs.SendLaws.{send_means}

-- the ranges' claims hold exactly where the flow opens within them
opening_means : (c : Controller) (s : Setting) (r : Run) (f : ℕ)
    → Means (All Holds (opening_claims (in_run r) c (opening_row c s) f)) (OpensWithin c s r f)
opening_means c s r f = (
  λ h. λ j among. (range_means (declared_state c j) (state_of r (opening_row c s) f j) r.over).0 ((each_holds (ranges j)).1
      (each_below (λ i. All Holds (ranges i)) (length c.states) (each_of_joined Holds ranges (below (length c.states)) h) j among)),
  λ within. all_flat_map Holds ranges (below (length c.states)) (all_below (λ i. All Holds (ranges i)) (length c.states)
      (λ j among. (each_holds (ranges j)).0 ((range_means (declared_state c j) (state_of r (opening_row c s) f j) r.over).1 (within j among)))),
)
  where
    ranges : ℕ → List Claim
    ranges j = range_claims (in_run r) (declared_state c j) (of_state (opening_row c s) f j) constant

opening_row_means : (c : Controller) (s : Setting) (r : Run)
    → Means (All Holds (opening_row_claims (in_run r) c s (opening_row c s))) ((f : ℕ) → 1 ≤ f → f ≤ s.flows → OpensWithin c s r f)
opening_row_means c s r =
    let claims : ℕ → List Claim = opening_claims (in_run r) c (opening_row c s) in (
      λ h. λ f from to. (opening_means c s r f).0 (each_of_flows Holds claims s.flows f h from to),
      λ within. flows_of_each Holds claims s.flows (λ f from to. (opening_means c s r f).1 (within f from to)),
    )

sends_mean : (c : Controller) (r : Run) (at : ReadPoint) → 0 < den_of_all c → IsStepReady c r at
    → Means (Holds (send_claim (in_run r) at c.window c.rate)) (Sends c r at)
sends_mean c r at some ready = send_means r at (den_of_all c) c.window c.rate some ready.window ready.rate

-- a controlled row can be read
record IsReadable (c : Controller) (s : Setting) (r : Run) (i : ℕ) : Type 0 where
  some : 0 < den_of_all c
  stepping_in : (f : ℕ) → 1 ≤ f → f ≤ s.flows → IsStepReady c r (stepping s i f)
  sending_in : (f : ℕ) → 1 ≤ f → f ≤ s.flows → IsStepReady c r (sending s i f)

readable : (c : Controller) (s : Setting) (r : Run) (i : ℕ) → IsController c → HasShape c s r → IsControlled c s i → IsReadable c s r i
readable c s r i is shaped controlled =
    let rows = shaped.row_count in
    let after = controlled.after_opening in
    let last = controlled.within in
    record {
      some = (has_den c is).some;
      stepping_in = λ f from to. step_ready c r (stepping s i f) is (states_stand c s r (i - 1) f shaped from to (omega arith) (omega arith));
      sending_in = λ f from to. step_ready c r (sending s i f) is (states_stand c s r i f shaped from to (omega arith) (omega arith));
    }

controlled_row_means : (c : Controller) (s : Setting) (r : Run) (i : ℕ) → IsController c → IsReadable c s r i
    → Means (All Holds (controlled_row_claims (in_run r) c s i)) ((f : ℕ) → 1 ≤ f → f ≤ s.flows → (rule : ℕ) × IsStep c s r i f rule)
controlled_row_means c s r i is can = (there, back)
  where
    steps : ℕ → List Claim
    steps f = step_claims (in_run r) c (stepping s i f)

    sends : ℕ → List Claim
    sends f = send_claim (in_run r) (sending s i f) c.window c.rate ∷ []

    there : All Holds (controlled_row_claims (in_run r) c s i) → (f : ℕ) → 1 ≤ f → f ≤ s.flows → (rule : ℕ) × IsStep c s r i f rule
    there h f from to =
        let halves = both_halves Holds (each_flow steps s.flows) (each_flow sends s.flows) h in
        let stepped = (step_means c r (stepping s i f) is can.some (can.stepping_in f from to)).0 (each_of_flows Holds steps s.flows f halves.0 from to) in
        let sent = All-head Holds (send_claim (in_run r) (sending s i f) c.window c.rate) [] (each_of_flows Holds sends s.flows f halves.1 from to) in
        (stepped.0, record { steps = stepped.1; sends = (sends_mean c r (sending s i f) can.some (can.sending_in f from to)).0 sent })

    back : ((f : ℕ) → 1 ≤ f → f ≤ s.flows → (rule : ℕ) × IsStep c s r i f rule) → All Holds (controlled_row_claims (in_run r) c s i)
    back stepped =
        All-append Holds (each_flow steps s.flows) (each_flow sends s.flows)
        (flows_of_each Holds steps s.flows (λ f from to.
        let found = stepped f from to in
        (step_means c r (stepping s i f) is can.some (can.stepping_in f from to)).1 (found.0, found.1.steps)))
        (flows_of_each Holds sends s.flows (λ f from to.
        All-cons Holds (send_claim (in_run r) (sending s i f) c.window c.rate) []
        ((sends_mean c r (sending s i f) can.some (can.sending_in f from to)).1 (stepped f from to).1.sends) (All-nil Holds)))

-- the claims on the flows of a row hold exactly where they open within their ranges, or take a step
pub flows_mean : (free : Bool) (c : Controller) (s : Setting) (r : Run) (i : ℕ) → IsController c → HasShape c s r → i < length r.rows
    → Means (All Holds (flow_claims (in_run r) free c s i)) (FlowsHold free c s r i)
unfolding flow_claims
flows_mean free c s r i is shaped inside = by_row (nat_lt i (opening_row c s)) refl (i == opening_row c s) refl
  where
    by_opening : (free : Bool) → i ≡ opening_row c s
        → Means (All Holds (if free then [] else opening_row_claims (in_run r) c s i)) (FlowsHold free c s r i)
    by_opening true here = (
      λ h. record { opened = λ asked. absurd (cc); stepped = λ controlled. absurd (let after = controlled.after_opening in omega arith) },
      λ h. All-nil Holds,
    )
    by_opening false here = (
      λ h. record {
        opened = λ asked at. (opening_row_means c s r).0 (subst (λ n. All Holds (opening_row_claims (in_run r) c s n)) at h);
        stepped = λ controlled. absurd (let after = controlled.after_opening in omega arith);
      },
      λ h. subst (λ n. All Holds (opening_row_claims (in_run r) c s n)) (sym here) ((opening_row_means c s r).1 (h.opened refl here)),
    )

    by_controlled : opening_row c s < i → Means (All Holds (controlled_row_claims (in_run r) c s i)) (FlowsHold free c s r i)
    by_controlled after =
        let rows = shaped.row_count in
        let controlled : IsControlled c s i = record { after_opening = after; within = omega arith } in
        let law = controlled_row_means c s r i is (readable c s r i is shaped controlled) in (
          λ h. record { opened = λ asked at. absurd (omega arith); stepped = λ _. law.0 h },
          λ h. law.1 (h.stepped controlled),
        )

    by_row : (t : Bool) → nat_lt i (opening_row c s) ≡ t → (u : Bool) → (i == opening_row c s) ≡ u
        → Means (All Holds (if t then [] else if u then if free then [] else opening_row_claims (in_run r) c s i else controlled_row_claims (in_run r) c s i))
        (FlowsHold free c s r i)
    by_row true before u at = (
      λ h. record {
        opened = λ asked here. absurd (grind (arith, nat_tests, before, here));
        stepped = λ controlled. absurd (let after = controlled.after_opening in grind (arith, nat_tests, before, after));
      },
      λ h. All-nil Holds,
    )
    by_row false before true at = by_opening free (grind (arith, nat_tests, at))
    by_row false before false at = by_controlled (grind (arith, nat_tests, before, at))
