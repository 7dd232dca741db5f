-- Two texts have one refusal at most, and where they have it no verdict.
use Rattle.std.proofs.Common.{◌≡◌, ◌∙◌, ℕ, List, Result, Ok, Err, refl, sym, ap}
use Rattle.std.specs.Prelude.{IsOkUnless}
use Rattle.whole.specs.declared.answers.Refusal.{Refusal}
use Rattle.ctrl_types.specs.Resolving.{controller_seen}
use Rattle.ctrl_types.specs.declared.controllers.Controller.{Controller}
use Rattle.question_text.specs.StatementRules.{question_seen}
use Rattle.question_text.specs.declared.questions.Question.{Question}
use Rattle.clause_form.specs.Building.{limit_of}
use Rattle.clause_form.specs.declared.clauses.Clauses.{Clauses}
use Rattle.clause_form.specs.declared.clauses.What.{What}
use Rattle.asked.specs.Asked.{AreAsked, IsQuestionRefused}
use Rattle.asked.proofs.AskingLaws.{one_asked, one_seen, refused_alone, refused_once}
use Rattle.asked.proofs.ControllerTexts.{not_both, one_refusal}
use Rattle.verdict.specs.Judging.{FaultUnless, Judges, Refuses}
use Rattle.verdict.specs.Problems.{problem_of}
use Rattle.verdict.specs.declared.judging.JudgeFault.{JudgeFault}
use Rattle.verdict.specs.declared.judging.JudgeFault.TheVariants as fault
use Rattle.verdict.specs.declared.judging.Verdict.{Verdict}
use Rattle.verdict.proofs.SameProblem.{problem_same}

large_or_not : (p : Result Clauses What) (what : What) (x : Clauses) → p ≡ Err what → p ≡ Ok x → ⊥
large_or_not p what x large small = cc

one_what : (p : Result Clauses What) (v w : What) → p ≡ Err v → p ≡ Err w → v ≡ w
one_what p v w one two = cc

same_large : (v w : What) (l m : ℕ) → v ≡ w → l ≡ limit_of v → m ≡ limit_of w → fault.Large v l ≡ fault.Large w m
same_large v w l m same l_is m_is = ap (λ n. fault.Large v n) (l_is ∙ ap limit_of same ∙ sym m_is) ∙ ap (λ x. fault.Large x m) same

module _ (controller question : List ℕ) where
  -- the problem of two texts is one
  problem_once : (c d : Controller) (q p : Question) → AreAsked controller question c q → AreAsked controller question d p → problem_of c q ≡ problem_of d p
  problem_once c d q p one two =
      let same : controller_seen c ≡ controller_seen d = one_seen controller one.syntax two.syntax c d one.controller_is two.controller_is in
      let about : question_seen q ≡ question_seen p = one_asked c d same question q p one.question_is two.question_is in
      problem_same c d q p same about

  -- a refused question of a controller, where another text is a question about it
  question_alone : (r : Refusal) (c : Controller) (q : Question) → IsQuestionRefused controller question r → AreAsked controller question c q → ⊥
  question_alone r c q refused are =
      refused_alone refused.asked c (one_seen controller refused.syntax are.syntax refused.asked c refused.controller_is are.controller_is)
      question r q refused.refused are.question_is

  question_once : (r s : Refusal) → IsQuestionRefused controller question r → IsQuestionRefused controller question s → r ≡ s
  question_once r s one two =
      refused_once one.asked two.asked (one_seen controller one.syntax two.syntax one.asked two.asked one.controller_is two.controller_is)
      question r s one.refused two.refused

  -- what is asked and within the limits isn't refused
  accepted : (c : Controller) (q : Question) (clauses : Clauses) → AreAsked controller question c q → problem_of c q ≡ Ok clauses
      → (f : JudgeFault) → Refuses controller question f → ⊥
  accepted c q clauses are made (fault.Controller r) refused = not_both controller are.syntax c r are.controller_is refused
  accepted c q clauses are made (fault.Question r) refused = question_alone r c q refused are
  accepted c q clauses are made (fault.Large what limit) refused =
      large_or_not (problem_of c q) what clauses (problem_once c refused.0 q refused.1 are refused.2 ∙ refused.3.0) made
  accepted c q clauses are made fault.NoMemory refused = refused

  once : (f g : JudgeFault) → Refuses controller question f → Refuses controller question g → f ≡ g
  once (fault.Controller r) (fault.Controller s) one two = ap fault.Controller (one_refusal controller r s one two)
  once (fault.Controller r) (fault.Question s) one two = absurd (not_both controller two.syntax two.asked r two.controller_is one)
  once (fault.Controller r) (fault.Large w m) one two = absurd (not_both controller two.2.syntax two.0 r two.2.controller_is one)
  once (fault.Controller r) fault.NoMemory one two = absurd two
  once (fault.Question r) (fault.Controller s) one two = absurd (not_both controller one.syntax one.asked s one.controller_is two)
  once (fault.Question r) (fault.Question s) one two = ap fault.Question (question_once r s one two)
  once (fault.Question r) (fault.Large w m) one two = absurd (question_alone r two.0 two.1 one two.2)
  once (fault.Question r) fault.NoMemory one two = absurd two
  once (fault.Large v l) (fault.Controller s) one two = absurd (not_both controller one.2.syntax one.0 s one.2.controller_is two)
  once (fault.Large v l) (fault.Question s) one two = absurd (question_alone s one.0 one.1 two one.2)
  once (fault.Large v l) (fault.Large w m) one two =
      same_large v w l m (one_what (problem_of one.0 one.1) v w one.3.0 (problem_once one.0 two.0 one.1 two.1 one.2 two.2 ∙ two.3.0)) one.3.1 two.3.1
  once (fault.Large v l) fault.NoMemory one two = absurd two
  once fault.NoMemory g one two = absurd one

  pub refused_law : (result : Result Verdict JudgeFault) → Judges controller question result → (f : JudgeFault) → Refuses controller question f
      → FaultUnless f result
  refused_law (Ok v) is f refused = accepted is.0 is.1 is.3.0.clauses is.2 is.3.1.made f refused
  refused_law (Err (fault.Controller r)) is f refused = once (fault.Controller r) f is refused
  refused_law (Err (fault.Question r)) is f refused = once (fault.Question r) f is refused
  refused_law (Err (fault.Large what limit)) is f refused = once (fault.Large what limit) f is refused
  refused_law (Err fault.NoMemory) is f refused = tt

  pub accepted_law : (result : Result Verdict JudgeFault) → Judges controller question result → (c : Controller) (q : Question) (clauses : Clauses)
      → AreAsked controller question c q → problem_of c q ≡ Ok clauses → IsOkUnless result fault.NoMemory
  accepted_law (Ok v) is c q clauses are made = tt
  accepted_law (Err (fault.Controller r)) is c q clauses are made = absurd (accepted c q clauses are made (fault.Controller r) is)
  accepted_law (Err (fault.Question r)) is c q clauses are made = absurd (accepted c q clauses are made (fault.Question r) is)
  accepted_law (Err (fault.Large what limit)) is c q clauses are made = absurd (accepted c q clauses are made (fault.Large what limit) is)
  accepted_law (Err fault.NoMemory) is c q clauses are made = refl
