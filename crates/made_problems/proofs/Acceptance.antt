-- The texts that are drawn are accepted.
use Rattle.std.proofs.Common.{◌≡◌, ℕ, ◌-◌, ◌^◌, ◌<◌, ◌≤◌, List, length, unsigned_abs, refl, sym, subst, arith}
use Rattle.std.proofs.lemmas.Int.{ints}
use Rattle.ctrl_types.specs.Denominators.{IsScale}
use Rattle.whole.specs.declared.answers.Refusal.{Refusal}
use Rattle.ctrl_types.specs.Limits.{IsController}
use Rattle.ctrl_types.specs.declared.controllers.Controller.{Controller}
use Rattle.ctrl_types.proofs.FirstLaws.{never_both}
use Rattle.question_text.proofs.TellingLaws as questions
use Rattle.asked.specs.Asked.{AskFails}
use Rattle.asked.specs.declared.asking.AskFault.{AskFault}
use Rattle.asked.specs.declared.asking.AskFault.TheVariants as fault
use Rattle.asked.proofs.ControllerTexts.{broken_here}
use Rattle.ctrl_gen.specs.Problems.{problem_of, controller_of, controller_text, question_text}
use Rattle.made_problems.specs.Accepted.{IsControllerAccepted, IsQuestionAccepted}
use Rattle.made_problems.proofs.Drawn.{controller_drawn}
use Rattle.made_problems.proofs.DrawnTexts.{drawn_printed}
use Rattle.made_problems.proofs.Unbroken.{drawn_unbroken}
use Rattle.made_problems.proofs.Bounds.{problem_bounded}
use Rattle.made_problems.proofs.QuestionTexts.{question_printed}
use Rattle.made_problems.proofs.Lengths.{controller_short, question_short}
use Rattle.made_problems.proofs.QuestionMeant.{same_unbroken, same_resolved}

pub controller_accepted : (seed : ℕ) → IsControllerAccepted (controller_text seed)
unfolding controller_text
controller_accepted seed =
    let text = drawn_printed (controller_of (problem_of seed)) (controller_drawn seed) in
    record { sections = text.read; spelled = text.spelled; unbroken = drawn_unbroken text.read text.shaped }

controller_scale : (c : Controller) → IsController c → IsScale (unsigned_abs c.den)
controller_scale c is =
    let from = is.den_from in
    let to = is.den_to in
    record { from = omega (arith, ints); to = omega (arith, ints) }

pub question_accepted : (seed size : ℕ) → 1 ≤ size → size ≤ 32 → (c : Controller) → IsController c → IsQuestionAccepted c (question_text seed size)
unfolding question_text
question_accepted seed size from to c is =
    let bounded = problem_bounded seed in
    let text = question_printed (problem_of seed) size bounded from to in
    let scale = controller_scale c is in
    let meant = same_resolved c scale (problem_of seed) size bounded text.read text.same in
    record {
      question = meant.0;
      text = record { sections = text.read; spelled = text.spelled; unbroken = same_unbroken c scale (problem_of seed) size bounded text.read text.same; resolved = meant.1 };
    }

pub never_refused : (seed size : ℕ) → 1 ≤ size → size ≤ 32 → (f : AskFault) → AskFails (controller_text seed) (question_text seed size) f → f ≡ fault.NoMemory
never_refused seed size from to (fault.Controller r) refused =
    let text = controller_accepted seed in
    absurd (never_both text.sections r (broken_here (controller_text seed) text.sections text.spelled r refused) text.unbroken)
never_refused seed size from to (fault.Question r) refused =
    let text = question_accepted seed size from to refused.asked refused.controller_is.limits in
    absurd (questions.not_both refused.asked (question_text seed size) r text.question refused.refused text.text)
never_refused seed size from to fault.NoMemory fails = refl

pub controller_is_short : (seed : ℕ) → length (controller_text seed) < 2 ^ 32 - 1
unfolding controller_text
controller_is_short seed = controller_short (controller_of (problem_of seed)) (controller_drawn seed)

pub question_is_short : (seed size : ℕ) → size ≤ 32 → length (question_text seed size) < 2 ^ 32 - 1
unfolding question_text
question_is_short seed size to = question_short (problem_of seed) size (problem_bounded seed) to

-- ---- of bytes that are drawn texts

pub short_as_controller : (bytes : List ℕ) (seed : ℕ) → bytes ≡ controller_text seed → length bytes < 2 ^ 32 - 1
short_as_controller bytes seed same = subst (λ (x : List ℕ). length x < 2 ^ 32 - 1) (sym same) (controller_is_short seed)

pub short_as_question : (bytes : List ℕ) (seed size : ℕ) → size ≤ 32 → bytes ≡ question_text seed size → length bytes < 2 ^ 32 - 1
short_as_question bytes seed size to same = subst (λ (x : List ℕ). length x < 2 ^ 32 - 1) (sym same) (question_is_short seed size to)

module _ (seed size : ℕ) (from : 1 ≤ size) (to : size ≤ 32) (x y : List ℕ) (x_is : x ≡ controller_text seed) (y_is : y ≡ question_text seed size) where
  only_memory : (f : AskFault) → AskFails x y f → f ≡ fault.NoMemory
  only_memory f fails =
      never_refused seed size from to f
      (subst (λ (t : List ℕ). AskFails (controller_text seed) t f) y_is (subst (λ (t : List ℕ). AskFails t y f) x_is fails))

  pub no_controller : (f : AskFault) (r : Refusal) → f ≡ fault.Controller r → AskFails x y f → ⊥
  no_controller f r is fails = let none = only_memory f fails in absurd (cc)

  pub no_question : (f : AskFault) (r : Refusal) → f ≡ fault.Question r → AskFails x y f → ⊥
  no_question f r is fails = let none = only_memory f fails in absurd (cc)
