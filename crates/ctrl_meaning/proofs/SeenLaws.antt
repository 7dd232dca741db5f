-- What a controller claims of a run depends on the controller only as it is seen.
use Rattle.claims.specs.Subjects.{in_run}
use Rattle.std.proofs.Common.{◌≡◌, ℕ, ◌-◌, true, false, Bool, None, [], Result, length, get_or, refl, sym, ◌∙◌, ap}
use Rattle.std.proofs.Math.ListN.{get_or-map, length-map}
use Rattle.std.proofs.Math.Path.{fun_ext}
use Rattle.whole.specs.declared.answers.Stuck.{Stuck}
use Rattle.weighing.specs.Queries.{asked}
use Rattle.weighing.specs.Claim.{outcome}
use Rattle.run_rows.specs.declared.rows.Run.{Run}
use Rattle.path_server.specs.declared.settings.Setting.{Setting}
use Rattle.ctrl_types.specs.Limits.{no_rule, rule_of}
use Rattle.ctrl_types.specs.Resolving.{SeenController, SeenRule, controller_seen, rule_seen}
use Rattle.ctrl_types.specs.declared.controllers.Controller.{Controller}
use Rattle.ctrl_meaning.specs.Guards.{test_claim}
use Rattle.ctrl_meaning.specs.Opening.{opening}
use Rattle.ctrl_meaning.specs.Steps.{differing, fired, firing, guard_outcome, sending, sent, set_claim, set_outcome, step, stepping}
use Rattle.ctrl_meaning.specs.declared.readings.ReadPoint.{ReadPoint}

-- a controller without rules that is otherwise seen as this one
abbrev pub unruled : SeenController → Controller
unruled x = record { states = x.states; rules = []; window = x.window; rate = x.rate; delay_max = x.delay_max; den = x.den }

-- rule k as it is seen
abbrev rule_in : SeenController → ℕ → SeenRule
rule_in x k = get_or x.rules k (rule_seen no_rule)

rule_in_is : (c : Controller) (k : ℕ) → rule_in (controller_seen c) k ≡ rule_seen (rule_of c k)
rule_in_is c k = get_or-map rule_seen c.rules k no_rule

rule_count : (c : Controller) → length (controller_seen c).rules ≡ length c.rules
rule_count c = length-map c.rules rule_seen

abbrev rules_of : Controller → ℕ → SeenRule
rules_of c k = rule_seen (rule_of c k)

module _ (c d : Controller) (same : controller_seen c ≡ controller_seen d) where
  rules_same : rules_of c ≡ rules_of d
  rules_same = fun_ext (λ k. sym (rule_in_is c k) ∙ ap (λ (x : SeenController). rule_in x k) same ∙ rule_in_is d k)

  count_same : length c.rules ≡ length d.rules
  count_same = sym (rule_count c) ∙ ap (λ (x : SeenController). length x.rules) same ∙ rule_count d

  guards_same : (r : Run) (at : ReadPoint) → guard_outcome c r at ≡ guard_outcome d r at
  guards_same r at = ap (λ (rules : ℕ → SeenRule). λ k. outcome at.row (test_claim (in_run r) at (rules k).guard)) rules_same

  sets_same : (r : Run) (at : ReadPoint) (k : ℕ) → set_outcome c r at k ≡ set_outcome d r at k
  sets_same r at k = ap (λ (rules : ℕ → SeenRule). λ j. outcome at.row (set_claim (in_run r) at j (get_or (rules k).sets j None))) rules_same

  fired_same : (r : Run) (at : ReadPoint) → fired c r at ≡ fired d r at
  unfolding fired
  fired_same r at =
      ap (λ (n : ℕ). firing (n - 1) (asked true (guard_outcome c r at) n)) count_same
      ∙ ap (λ (weighed : ℕ → Result Bool Stuck). firing (length d.rules - 1) (asked true weighed (length d.rules))) (guards_same r at)

  differing_same : (r : Run) (at : ReadPoint) (k : ℕ) → differing c r at k ≡ differing d r at k
  unfolding differing
  differing_same r at k =
      ap (λ (x : SeenController). asked false (set_outcome c r at k) (length x.states)) same
      ∙ ap (λ (weighed : ℕ → Result Bool Stuck). asked false weighed (length d.states)) (sets_same r at k)

  pub opening_same : (s : Setting) (r : Run) (flow : ℕ) → opening c s r flow ≡ opening d s r flow
  unfolding opening
  opening_same s r flow = ap (λ (x : SeenController). opening (unruled x) s r flow) same

  pub sent_same : (r : Run) (at : ReadPoint) → sent c r at ≡ sent d r at
  unfolding sent
  sent_same r at = ap (λ (x : SeenController). sent (unruled x) r at) same

  pub step_same : (s : Setting) (r : Run) (row flow : ℕ) → step c s r row flow ≡ step d s r row flow
  unfolding step
  step_same s r row flow =
      let at = stepping s row flow in
      let fires = fired_same r at in
      let differs : differing c r at ≡ differing d r at = fun_ext (differing_same r at) in
      let sends = sent_same r (sending s row flow) in
      rw (fires, differs, sends) refl
