-- A question that can be decided is decided, unless memory runs out.
use Rattle.std.proofs.Common.{◌≡◌, ◌∙◌, ℕ, ◌≤◌, ◌⊎◌, inl, inr, List, Option, Some, Ok, Err, Result, refl, sym, subst, arith}
use Rattle.ctrl_types.specs.declared.controllers.Controller.{Controller}
use Rattle.question_text.specs.declared.questions.Question.{Question}
use Rattle.clause_form.specs.declared.clauses.Clauses.{Clauses}
use Rattle.clause_form.specs.declared.clauses.What.{What}
use Rattle.asked.specs.Asked.{AreAsked}
use Rattle.asked.proofs.AskingLaws.{one_asked, one_seen}
use Rattle.verdict.specs.Problems.{problem_of}
use Rattle.verdict.specs.declared.judging.Verdict.{Verdict}
use Rattle.verdict.specs.declared.judging.Verdict.TheVariants.{Budget, Verified, Violated, Wide}
use Rattle.ccac_ports.specs.Ports.{Got, HasRisen, Told}
use Rattle.ccac_cli.specs.AskAnswers as asking
use Rattle.ccac_cli.specs.Checks.{CheckAnswers, VerdictAnswers, judged, large, unknown_report, verdict_report, verified_report, violated_report}
use Rattle.ccac_cli.specs.Commands.{Order, check}
use Rattle.file_reports.specs.Ended.{Ends, cut_short, no_memory, no_memory_left, whole}
use Rattle.ccac_cli.specs.Ended.{Answers, CanCheck, OrderAnswers}
use Rattle.file_reports.specs.Reports.{Answer}
use Rattle.file_reports.specs.declared.sources.Source.TheVariants.{Controller as ControllerFile, Question as QuestionFile}
use Rattle.file_reports.proofs.HadLaws.{told_decides}
use Rattle.ccac_cli.proofs.OneReplay.{refused_or_asked}
use Rattle.verdict.proofs.SameProblem.{problem_same}

verdict_low : (v : Verdict) → (verdict_report v).status ≤ 2
unfolding violated_report verified_report unknown_report
verdict_low (Violated shape run) = omega arith
verdict_low (Verified cert) = omega arith
verdict_low (Budget spent) = omega arith
verdict_low (Wide stuck spent) = omega arith

large_or_not : (p : Result Clauses What) (w : What) (x : Clauses) → p ≡ Err w → p ≡ Ok x → ⊥
large_or_not p w x one two = cc

concluded_low : (c d : Controller) (q p : Question) (problem : Clauses) → problem_of c q ≡ problem_of d p → problem_of d p ≡ Ok problem → (a : Answer)
    → VerdictAnswers c q a → a.status ≤ 2
concluded_low c d q p problem same is _ (large what limited) = absurd (large_or_not (problem_of d p) what problem (sym same ∙ limited) is)
concluded_low c d q p problem same is _ (judged made v of says) = verdict_low v

checked_low : (controller question : List ℕ) (d : Controller) (p : Question) (problem : Clauses) → AreAsked controller question d p
    → problem_of d p ≡ Ok problem → (a : Answer) → CheckAnswers controller question a → a.status ≤ 2
checked_low controller question d p problem are is a (asking.ask_refused refused) = absurd (refused_or_asked controller question a d p refused are)
checked_low controller question d p problem are is a (asking.asked c q too answers) =
    let same = one_seen controller too.syntax are.syntax c d too.controller_is are.controller_is in
    concluded_low c d q p problem (problem_same c d q p same (one_asked c d same question q p too.question_is are.question_is)) is a answers

order_low : (old new : Told) (c q : List ℕ) → (can : CanCheck old new c q) → (a : Answer) → OrderAnswers old new (check c q) a → a.status ≤ 2
order_low old new c q can a answers =
    checked_low can.controller can.question can.asked can.about can.problem can.are_asked can.is_posed a
    (told_decides old new QuestionFile q can.question (CheckAnswers can.controller) a can.question_told
    (told_decides old new ControllerFile c can.controller _ a can.controller_told answers))

ends_decided : (old new : Told) (c q : List ℕ) (before after : Got) (status : ℕ) → Ends (OrderAnswers old new (check c q)) before after status
    → CanCheck old new c q → (HasRisen before.faults after.faults → ⊥) → (status ≤ 2) ⊎ (status ≡ 7)
ends_decided old new c q before after _ (whole a allowed put) can calm = inl (order_low old new c q can a allowed)
ends_decided old new c q before after _ (cut_short rose part) can calm = absurd (calm rose)
ends_decided old new c q before after _ (no_memory put) can calm = inr refl
ends_decided old new c q before after _ (no_memory_left part) can calm = inr refl

pub check_decided : (old new : Told) (words : Option Order) (before after : Got) (status : ℕ) → Ends (Answers old new words) before after status
    → (c q : List ℕ) → words ≡ Some (check c q) → CanCheck old new c q → (HasRisen before.faults after.faults → ⊥) → (status ≤ 2) ⊎ (status ≡ 7)
check_decided old new words before after status ends c q is can calm =
    ends_decided old new c q before after status (subst (λ w. Ends (Answers old new w) before after status) is ends) can calm
