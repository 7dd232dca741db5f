-- What comes of replaying a run, of a controller and a question as they are seen.
use Rattle.std.proofs.Common.{◌≡◌, ℕ, ◌-◌, Bool, true, false, None, List, Result, length, get_or, refl, sym, ◌∙◌, ap}
use Rattle.std.proofs.Math.ListN.{get_or-map, length-map}
use Rattle.std.proofs.Math.Path.{fun_ext}
use Rattle.whole.specs.declared.answers.Stuck.{Stuck}
use Rattle.condition_tree.specs.Trees.{all_of, opposite}
use Rattle.weighing.specs.Queries.{asked}
use Rattle.weighing.specs.Claim.{outcome}
use Rattle.weighing.specs.First.{first}
use Rattle.claims.specs.Subjects.{in_run}
use Rattle.run_rows.specs.Runs.{flow_count}
use Rattle.run_rows.specs.declared.rows.Run.{Run}
use Rattle.path_server.specs.declared.settings.Setting.{Setting}
use Rattle.ctrl_types.specs.Limits.{no_rule, rule_of}
use Rattle.ctrl_types.specs.Resolving.{SeenController, SeenRule, controller_seen, rule_seen}
use Rattle.ctrl_types.specs.declared.controllers.Controller.{Controller}
use Rattle.ctrl_meaning.specs.Guards.{test_claim}
use Rattle.ctrl_meaning.specs.Opening.{opening}
use Rattle.ctrl_meaning.specs.Steps.{after_guards, differing, fired, firing, sending, sent, set_claim, step, stepping}
use Rattle.ctrl_meaning.specs.declared.readings.ReadPoint.{ReadPoint}
use Rattle.ctrl_meaning.specs.declared.step.StepHolds.{StepHolds}
use Rattle.ctrl_meaning.proofs.SeenLaws.{unruled}
use Rattle.question_text.specs.Conditions.{conjunction}
use Rattle.question_text.specs.Expressions.{condition_claim}
use Rattle.question_text.specs.StatementRules.{SeenQuestion, question_seen}
use Rattle.question_text.specs.Violation.{rows_of, violation}
use Rattle.question_text.specs.declared.questions.Question.{Question}
use Rattle.question_text.proofs.SeenLaws.{unasked}
use Rattle.trace_replay.specs.Replaying.{ReplayPlace, fits, obeys, opens, steps, sends, answer, are_stepped, broken_at, found, places, places_of_row}
use Rattle.trace_replay.specs.Replaying.{places_of_rows, replaying, stop_at, weighed_at}
use Rattle.trace_replay.specs.declared.replaying.Replayed.{Replayed}

-- ---- a step, by rules that are seen

abbrev rule_in : SeenController → ℕ → SeenRule
rule_in x k = get_or x.rules k (rule_seen no_rule)

abbrev rules_of : Controller → ℕ → SeenRule
rules_of c k = rule_seen (rule_of c k)

rules_seen : (c : Controller) → rules_of c ≡ rule_in (controller_seen c)
rules_seen c = fun_ext (λ k. sym (get_or-map rule_seen c.rules k no_rule))

rule_count : (c : Controller) → length (controller_seen c).rules ≡ length c.rules
rule_count c = length-map c.rules rule_seen

abbrev guards_by : (ℕ → SeenRule) → Run → ReadPoint → ℕ → Result Bool Stuck
guards_by rules r at k = outcome at.row (test_claim (in_run r) at (rules k).guard)

abbrev sets_by : (ℕ → SeenRule) → Run → ReadPoint → ℕ → ℕ → Result Bool Stuck
sets_by rules r at k j = outcome at.row (set_claim (in_run r) at j (get_or (rules k).sets j None))

abbrev step_by : SeenController → Setting → Run → ℕ → ℕ → StepHolds
step_by x s r row flow =
    after_guards (firing (length x.rules - 1) (asked true (guards_by (rule_in x) r (stepping s row flow)) (length x.rules)))
    (λ k. asked false (sets_by (rule_in x) r (stepping s row flow) k) (length x.states)) (sent (unruled x) r (sending s row flow))

module _ (c : Controller) (r : Run) where
  fired_seen : (at : ReadPoint) → fired c r at
      ≡ firing (length (controller_seen c).rules - 1) (asked true (guards_by (rule_in (controller_seen c)) r at) (length (controller_seen c).rules))
  unfolding fired
  fired_seen at =
      ap (λ (rules : ℕ → SeenRule). firing (length c.rules - 1) (asked true (guards_by rules r at) (length c.rules))) (rules_seen c)
      ∙ ap (λ (n : ℕ). firing (n - 1) (asked true (guards_by (rule_in (controller_seen c)) r at) n)) (sym (rule_count c))

  differing_seen : (at : ReadPoint) (k : ℕ) → differing c r at k ≡ asked false (sets_by (rule_in (controller_seen c)) r at k) (length c.states)
  unfolding differing
  differing_seen at k = ap (λ (rules : ℕ → SeenRule). asked false (sets_by rules r at k) (length c.states)) (rules_seen c)

  sent_seen : (at : ReadPoint) → sent c r at ≡ sent (unruled (controller_seen c)) r at
  unfolding sent
  sent_seen at = refl

  step_seen : (s : Setting) (row flow : ℕ) → step c s r row flow ≡ step_by (controller_seen c) s r row flow
  unfolding step
  step_seen s row flow =
      let at = stepping s row flow in
      let fires = fired_seen at in
      let differs : differing c r at ≡ (λ k. asked false (sets_by (rule_in (controller_seen c)) r at k) (length c.states)) = fun_ext (differing_seen at) in
      let sends = sent_seen (sending s row flow) in
      rw (fires, differs, sends) refl

-- ---- what is found first

abbrev weighed_by : SeenController → SeenQuestion → Run → ReplayPlace → Result Bool Stuck
weighed_by x y r fits = weighed_at (unruled x) (unasked y) r fits
weighed_by x y r (obeys p) = weighed_at (unruled x) (unasked y) r (obeys p)
weighed_by x y r (opens f) = weighed_at (unruled x) (unasked y) r (opens f)
weighed_by x y r (steps i f) = are_stepped (step_by x y.setting r i f)
weighed_by x y r (sends i f) = weighed_at (unruled x) (unasked y) r (sends i f)

abbrev found_by : SeenController → SeenQuestion → Run → ReplayPlace → Result (Unit {0}) Replayed
found_by x y r place = stop_at (broken_at (unruled x) (unasked y) place) (weighed_by x y r place)

-- what comes of weighing the question
abbrev violation_by : SeenQuestion → Run → Result Bool Stuck
violation_by x r =
    outcome (rows_of (unasked x) r).last
    (all_of (condition_claim (in_run r) (flow_count r 0) (rows_of (unasked x) r) (conjunction x.assumes))
    (opposite (condition_claim (in_run r) (flow_count r 0) (rows_of (unasked x) r) x.require)))

abbrev pub replaying_seen : SeenController → SeenQuestion → Run → Replayed
replaying_seen x y r = answer (first (found_by x y r) (places (unruled x) (unasked y) r)) (violation_by y r)

module _ (c : Controller) (q : Question) (r : Run) where
  places_seen : places c q r ≡ places (unruled (controller_seen c)) (unasked (question_seen q)) r
  unfolding places_of_rows places_of_row
  places_seen = refl

  named_seen : (place : ReplayPlace) → broken_at c q place ≡ broken_at (unruled (controller_seen c)) (unasked (question_seen q)) place
  named_seen fits = refl
  named_seen (obeys p) = refl
  named_seen (opens f) = refl
  named_seen (steps i f) = refl
  named_seen (sends i f) = refl

  weighed_seen : (place : ReplayPlace) → weighed_at c q r place ≡ weighed_by (controller_seen c) (question_seen q) r place
  unfolding weighed_at opening
  weighed_seen fits = refl
  weighed_seen (obeys p) = refl
  weighed_seen (opens f) = refl
  weighed_seen (steps i f) = ap are_stepped (step_seen c r q.setting i f)
  weighed_seen (sends i f) = sent_seen c r (sending q.setting i f)

  found_seen : (place : ReplayPlace) → found c q r place ≡ found_by (controller_seen c) (question_seen q) r place
  unfolding found
  found_seen place =
      ap (λ (broken : Replayed). stop_at broken (weighed_at c q r place)) (named_seen place)
      ∙ ap (stop_at (broken_at (unruled (controller_seen c)) (unasked (question_seen q)) place)) (weighed_seen place)

  violation_seen : violation q r ≡ violation_by (question_seen q) r
  unfolding violation
  violation_seen = refl

  pub replaying_is_seen : replaying c q r ≡ replaying_seen (controller_seen c) (question_seen q) r
  unfolding replaying
  replaying_is_seen =
      ap (λ (xs : List ReplayPlace). answer (first (found c q r) xs) (violation q r)) places_seen
      ∙ ap (λ (test : ReplayPlace → Result (Unit {0}) Replayed). answer (first test (places (unruled (controller_seen c)) (unasked (question_seen q)) r)) (violation q r))
      (fun_ext found_seen)
      ∙ ap (answer (first (found_by (controller_seen c) (question_seen q) r) (places (unruled (controller_seen c)) (unasked (question_seen q)) r)))
      violation_seen
