-- What comes of replaying a run depends on the controller and on the question only as they are seen.
use Rattle.std.proofs.Common.{◌≡◌, List, Result, refl, sym, ◌∙◌, ap}
use Rattle.std.proofs.Math.Path.{fun_ext}
use Rattle.weighing.specs.First.{first}
use Rattle.run_rows.specs.declared.rows.Run.{Run}
use Rattle.ctrl_types.specs.Resolving.{SeenController, controller_seen}
use Rattle.ctrl_types.specs.declared.controllers.Controller.{Controller}
use Rattle.ctrl_meaning.specs.Steps.{sending}
use Rattle.ctrl_meaning.proofs.SeenLaws.{opening_same, sent_same, step_same, unruled}
use Rattle.question_text.specs.StatementRules.{SeenQuestion, question_seen}
use Rattle.question_text.specs.Violation.{violation}
use Rattle.question_text.specs.declared.questions.Question.{Question}
use Rattle.question_text.proofs.SeenLaws.{unasked, violation_same}
use Rattle.trace_replay.specs.Replaying.{ReplayPlace, fits, obeys, opens, steps, sends, answer, are_stepped, are_within, broken_at, found, places, places_of_row, places_of_rows, replaying, stop_at, weighed_at}
use Rattle.trace_replay.specs.declared.replaying.Replayed.{Replayed}

-- what is found first, before the question's conditions are weighed
abbrev first_found : Controller → Question → Run → Result (Unit {0}) Replayed
first_found c q r = first (found c q r) (places c q r)

-- ---- of the question only the setting counts there

module _ (c : Controller) (q : Question) (r : Run) where
  places_unasked : places c q r ≡ places c (unasked (question_seen q)) r
  unfolding places_of_rows places_of_row
  places_unasked = refl

  found_unasked : (place : ReplayPlace) → found c q r place ≡ found c (unasked (question_seen q)) r place
  unfolding found weighed_at
  found_unasked fits = refl
  found_unasked (obeys p) = refl
  found_unasked (opens f) = refl
  found_unasked (steps i f) = refl
  found_unasked (sends i f) = refl

first_unasked : (c : Controller) (q : Question) (r : Run) → first_found c q r ≡ first_found c (unasked (question_seen q)) r
first_unasked c q r =
    ap (λ (xs : List ReplayPlace). first (found c q r) xs) (places_unasked c q r)
    ∙ ap (λ (test : ReplayPlace → Result (Unit {0}) Replayed). first test (places c (unasked (question_seen q)) r)) (fun_ext (found_unasked c q r))

first_same : (c : Controller) (q p : Question) (r : Run) → question_seen q ≡ question_seen p → first_found c q r ≡ first_found c p r
first_same c q p r same =
    first_unasked c q r ∙ ap (λ (x : SeenQuestion). first_found c (unasked x) r) same ∙ sym (first_unasked c p r)

questions_same : (c : Controller) (q p : Question) (r : Run) → question_seen q ≡ question_seen p → replaying c q r ≡ replaying c p r
unfolding replaying
questions_same c q p r same =
    ap (λ (passed : Result (Unit {0}) Replayed). answer passed (violation q r)) (first_same c q p r same)
    ∙ ap (answer (first_found c p r)) (violation_same q p same r)

-- ---- of the controller only what is seen of it counts

module _ (c d : Controller) (q : Question) (r : Run) (same : controller_seen c ≡ controller_seen d) where
  places_same : places c q r ≡ places d q r
  unfolding places_of_rows places_of_row
  places_same = ap (λ (x : SeenController). places (unruled x) q r) same

  named_same : (place : ReplayPlace) → broken_at c q place ≡ broken_at d q place
  named_same fits = refl
  named_same (obeys p) = refl
  named_same (opens f) = ap (λ (x : SeenController). broken_at (unruled x) q (opens f)) same
  named_same (steps i f) = refl
  named_same (sends i f) = refl

  weighed_same : (place : ReplayPlace) → weighed_at c q r place ≡ weighed_at d q r place
  unfolding weighed_at
  weighed_same fits = ap (λ (x : SeenController). weighed_at (unruled x) q r fits) same
  weighed_same (obeys p) = refl
  weighed_same (opens f) = ap are_within (opening_same c d same q.setting r f)
  weighed_same (steps i f) = ap are_stepped (step_same c d same q.setting r i f)
  weighed_same (sends i f) = sent_same c d same r (sending q.setting i f)

  found_same : (place : ReplayPlace) → found c q r place ≡ found d q r place
  unfolding found
  found_same place =
      ap (λ (broken : Replayed). stop_at broken (weighed_at c q r place)) (named_same place)
      ∙ ap (stop_at (broken_at d q place)) (weighed_same place)

  controllers_same : replaying c q r ≡ replaying d q r
  unfolding replaying
  controllers_same =
      ap (λ (xs : List ReplayPlace). answer (first (found c q r) xs) (violation q r)) places_same
      ∙ ap (λ (test : ReplayPlace → Result (Unit {0}) Replayed). answer (first test (places d q r)) (violation q r)) (fun_ext found_same)

pub replaying_same : (c d : Controller) (q p : Question) (r : Run) → controller_seen c ≡ controller_seen d → question_seen q ≡ question_seen p
    → replaying c q r ≡ replaying d p r
replaying_same c d q p r controllers questions = controllers_same c d q r controllers ∙ questions_same d q p r questions
