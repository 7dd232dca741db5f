-- What the parts of a replay find, where the code asks for several at once.
use Rattle.std.proofs.Common.{◌≡◌, ℕ, ◌+◌, Bool, true, false, Result, Ok, Err, List, [], ◌∷◌, ◌++◌, map, length, refl, sym, ◌∙◌, ap, subst}
use Rattle.std.specs.Result.{result_and}
use Rattle.whole.specs.declared.answers.Stuck.{Stuck}
use Rattle.weighing.specs.First.{and_then, below, first}
use Rattle.weighing.specs.Claim.{outcome}
use Rattle.weighing.proofs.Events.{first-append, first-map, first_one_more}
use Rattle.run_rows.specs.declared.rows.Run.{Run}
use Rattle.run_rows.specs.Fitting.{has_shape}
use Rattle.path_server.specs.Claims.{claim_of}
use Rattle.path_server.specs.Places.{RulePlace, examined, number, stop_at as rule_stops}
use Rattle.path_server.specs.Shapes.{shape_of}
use Rattle.path_server.specs.declared.admission.Admit.{Admit}
use Rattle.path_server.specs.declared.admission.Admit.TheVariants.{Yes as Admitted, Broken as RuleBroken, Wide as RuleWide}
use Rattle.ctrl_types.specs.declared.controllers.Controller.{Controller}
use Rattle.ctrl_meaning.specs.Steps.{differing, fired, sending, sent, step, stepping}
use Rattle.ctrl_meaning.specs.declared.step.StepHolds.TheVariants.{Yes, State, Arrival, StepWide, SendWide}
use Rattle.ctrl_meaning.proofs.StepLaws.{arrival_parts, send_wide_parts, yes_parts}
use Rattle.question_text.specs.Violation.{violation}
use Rattle.question_text.specs.declared.questions.Question.{Question}
use Rattle.trace_replay.specs.Replaying.{ReplayPlace, obeys, steps, sends, answer, are_stepped, each_flow, found, places_of_rows, replaying, stop_at, weighed_at}
use Rattle.trace_replay.specs.declared.replaying.RunRule.TheVariants.{P, Send, Shape, Step}
use Rattle.trace_replay.specs.declared.replaying.Replayed.{Replayed}
use Rattle.trace_replay.specs.declared.replaying.Replayed.TheVariants.{Broken, Wide}

-- ---- one list of places after another

pub stops_before : {A E : Type 0} (test : A → Result (Unit {0}) E) (xs ys : List A) (e : E) → first test xs ≡ Err e → first test (xs ++ ys) ≡ Err e
stops_before test xs ys e is = first-append test xs ys ∙ ap (λ t. and_then t (first test ys)) is

pub passes_before : {A E : Type 0} (test : A → Result (Unit {0}) E) (xs ys : List A) → first test xs ≡ Ok tt → first test (xs ++ ys) ≡ first test ys
passes_before test xs ys is = first-append test xs ys ∙ ap (λ t. and_then t (first test ys)) is

pub and_is_then : {E : Type 0} (t u : Result (Unit {0}) E) → result_and t u ≡ and_then t u
and_is_then (Ok _) u = refl
and_is_then (Err e) u = refl

-- ---- the flows of a row

pub each_is : (c : Controller) (q : Question) (r : Run) (place : ℕ → ReplayPlace) (n : ℕ)
    → first (found c q r) (each_flow place n) ≡ first (λ k. found c q r (place (k + 1))) (below n)
each_is c q r place n = first-map (found c q r) (λ k. place (k + 1)) (below n)

-- an arrival that is amiss is kept where none was before
pub one_more_sent : {E : Type 0} (test : ℕ → Result (Unit {0}) E) (n : ℕ) (sent here next : Result (Unit {0}) E)
    → next ≡ result_and sent here → sent ≡ first test (below n) → here ≡ test n → next ≡ first test (below (n + 1))
one_more_sent test n sent here next joined before now =
    joined ∙ and_is_then sent here ∙ ap (λ t. and_then t here) before ∙ ap (and_then (first test (below n))) now ∙ sym (first_one_more test n)

-- where all flows have stepped, what they send is found
pub all_stepped : (c : Controller) (q : Question) (r : Run) (i m n : ℕ) (found_sent : Result (Unit {0}) Replayed) → m ≡ n
    → first (λ k. found c q r (steps i (k + 1))) (below m) ≡ Ok tt
    → found_sent ≡ first (λ k. found c q r (sends i (k + 1))) (below m)
    → found_sent ≡ first (found c q r) (each_flow (steps i) n ++ each_flow (sends i) n)
all_stepped c q r i m n found_sent all stepped sent =
    sent ∙ ap (λ k. first (λ j. found c q r (sends i (j + 1))) (below k)) all ∙ sym (each_is c q r (sends i) n)
    ∙ sym (passes_before (found c q r) (each_flow (steps i) n) (each_flow (sends i) n)
    (each_is c q r (steps i) n ∙ subst (λ k. first (λ j. found c q r (steps i (j + 1))) (below k) ≡ Ok tt) all stepped))

-- ---- the rules of the path

-- what their finding comes to
abbrev pub of_rules : Result (Unit {0}) Admit → Result (Unit {0}) Replayed
of_rules (Ok _) = Ok tt
of_rules (Err Admitted) = Ok tt
of_rules (Err (RuleBroken rule i f)) = Err (Broken (P rule) i f)
of_rules (Err (RuleWide stuck)) = Err (Wide stuck)

pub rules_found : (c : Controller) (q : Question) (r : Run) (ps : List RulePlace)
    → first (found c q r) (map obeys ps) ≡ of_rules (first (examined q.setting.path r) ps)
unfolding found weighed_at examined
rules_found c q r [] = refl
rules_found c q r (p ∷ ps) =
    by p (outcome p.row (claim_of q.setting.path r p.rule p.row p.flow)) (first (found c q r) (map obeys ps)) (first (examined q.setting.path r) ps)
    (rules_found c q r ps)
  where
    by : (p : RulePlace) (o : Result Bool Stuck) (t : Result (Unit {0}) Replayed) (u : Result (Unit {0}) Admit) → t ≡ of_rules u
        → and_then (stop_at (Broken (P (number p.rule)) p.row p.flow) o) t ≡ of_rules (and_then (rule_stops p o) u)
    by p (Ok true) t u same = same
    by p (Ok false) t u same = refl
    by p (Err stuck) t u same = refl

pub rules_passed : (c : Controller) (q : Question) (r : Run) (ps : List RulePlace)
    → first (found c q r) (map obeys ps) ≡ Ok tt → first (examined q.setting.path r) ps ≡ Ok tt
unfolding found weighed_at examined
rules_passed c q r [] none = refl
rules_passed c q r (p ∷ ps) none =
    by p (outcome p.row (claim_of q.setting.path r p.rule p.row p.flow)) (first (found c q r) (map obeys ps)) (first (examined q.setting.path r) ps)
    (rules_passed c q r ps) none
  where
    by : (p : RulePlace) (o : Result Bool Stuck) (t : Result (Unit {0}) Replayed) (u : Result (Unit {0}) Admit) → (t ≡ Ok tt → u ≡ Ok tt)
        → and_then (stop_at (Broken (P (number p.rule)) p.row p.flow) o) t ≡ Ok tt → and_then (rule_stops p o) u ≡ Ok tt
    by p (Ok true) t u rest none = rest none
    by p (Ok false) t u rest none = absurd (cc)
    by p (Err stuck) t u rest none = absurd (cc)

-- ---- a flow's step, whose answer tells of the states and of the arrival

-- the states are passed, and this is found of the arrival
pub record IsPassed (c : Controller) (q : Question) (r : Run) (i f : ℕ) (arrival : Result (Unit {0}) Replayed) : Type 0 where
  pub states : found c q r (steps i f) ≡ Ok tt
  pub arrives : arrival ≡ found c q r (sends i f)

pub yes_found : (c : Controller) (q : Question) (r : Run) (i f rule : ℕ) → step c q.setting r i f ≡ Yes rule → IsPassed c q r i f (Ok tt)
unfolding found weighed_at step
yes_found c q r i f rule is =
    let parts = yes_parts (fired c r (stepping q.setting i f)) (differing c r (stepping q.setting i f)) (sent c r (sending q.setting i f)) rule is in
    record {
      states = ap (λ a. stop_at (Broken Step i f) (are_stepped a)) is;
      arrives = sym (ap (stop_at (Broken Send i f)) parts.2);
    }

pub arrival_found : (c : Controller) (q : Question) (r : Run) (i f : ℕ) → step c q.setting r i f ≡ Arrival
    → IsPassed c q r i f (Err (Broken Send i f))
unfolding found weighed_at step
arrival_found c q r i f is =
    let parts = arrival_parts (fired c r (stepping q.setting i f)) (differing c r (stepping q.setting i f)) (sent c r (sending q.setting i f)) is in
    record {
      states = ap (λ a. stop_at (Broken Step i f) (are_stepped a)) is;
      arrives = sym (ap (stop_at (Broken Send i f)) parts.1);
    }

pub send_wide_found : (c : Controller) (q : Question) (r : Run) (i f : ℕ) (stuck : Stuck) → step c q.setting r i f ≡ SendWide stuck
    → IsPassed c q r i f (Err (Wide stuck))
unfolding found weighed_at step
send_wide_found c q r i f stuck is =
    let parts = send_wide_parts (fired c r (stepping q.setting i f)) (differing c r (stepping q.setting i f)) (sent c r (sending q.setting i f)) stuck is in
    record {
      states = ap (λ a. stop_at (Broken Step i f) (are_stepped a)) is;
      arrives = sym (ap (stop_at (Broken Send i f)) parts.1);
    }

pub state_found : (c : Controller) (q : Question) (r : Run) (i f j : ℕ) → step c q.setting r i f ≡ State j
    → found c q r (steps i f) ≡ Err (Broken Step i f)
unfolding found weighed_at
state_found c q r i f j is = ap (λ a. stop_at (Broken Step i f) (are_stepped a)) is

pub step_wide_found : (c : Controller) (q : Question) (r : Run) (i f : ℕ) (stuck : Stuck) → step c q.setting r i f ≡ StepWide stuck
    → found c q r (steps i f) ≡ Err (Wide stuck)
unfolding found weighed_at
step_wide_found c q r i f stuck is = ap (λ a. stop_at (Broken Step i f) (are_stepped a)) is

-- ---- the shape

pub unshaped : (c : Controller) (q : Question) (r : Run) → has_shape (shape_of q.setting (length c.states) c.delay_max) r ≡ false
    → replaying c q r ≡ Broken Shape 0 0
unfolding replaying found weighed_at
unshaped c q r is =
    let shape : Result Bool Stuck → Result (Unit {0}) Replayed = stop_at (Broken Shape 0 0) in
    ap (λ b. answer (and_then (shape (Ok b)) (first (found c q r) (places_of_rows c q r))) (violation q r)) is

pub shaped : (c : Controller) (q : Question) (r : Run) → has_shape (shape_of q.setting (length c.states) c.delay_max) r ≡ true
    → replaying c q r ≡ answer (first (found c q r) (places_of_rows c q r)) (violation q r)
unfolding replaying found weighed_at
shaped c q r is =
    let shape : Result Bool Stuck → Result (Unit {0}) Replayed = stop_at (Broken Shape 0 0) in
    ap (λ b. answer (and_then (shape (Ok b)) (first (found c q r) (places_of_rows c q r))) (violation q r)) is
