use Rattle.std.proofs.Common.{◌≡◌, sym, subst, ℕ, List, Result, Ok, Err}
use Rattle.std.specs.Prelude.{IfOk}
use Rattle.whole.specs.declared.answers.NoMemory.{NoMemory}
use Rattle.ctrl_types.specs.declared.controllers.Controller.{Controller}
use Rattle.question_text.specs.declared.questions.Question.{Question}
use Rattle.asked.specs.Asked.{AreAsked, AskFails}
use Rattle.asked.specs.declared.asking.AskFault.{AskFault}
use Rattle.asked.specs.declared.asking.AskFault.TheVariants as fault
use Rattle.problem_smt.specs.Problems.{Answers, answer_of, controller_refused, posed, problem_of, question_refused}
use Rattle.problem_smt.specs.AskRefusals.{SaysOfFault}
use Rattle.problem_smt.specs.Reports.{Answer}
use Rattle.problem_smt.specs.Shown.{shown}
use Rattle.problem_smt.specs.declared.reports.Report.{Report}
use Rattle.problem_smt.specs.declared.requests.Kind.{Kind}
use Rattle.problem_smt.proofs.answering.answer.Goals as goal

module _ (kind : Kind) (controller question : List ℕ) where
  of_asked : (c : Controller) (q : Question) (result : Result Report NoMemory) → AreAsked controller question c q
      → IfOk result (λ report. shown report ≡ answer_of kind (problem_of c q)) → IfOk result (λ report. Answers kind controller question (shown report))
  of_asked c q (Ok report) are is = subst (Answers kind controller question) (sym is) (posed c q are)
  of_asked c q (Err none) are is = tt

  says : (why : AskFault) (a : Answer) → AskFails controller question why → SaysOfFault why a → Answers kind controller question a
  says (fault.Controller r) a fails is = subst (Answers kind controller question) (sym is) (controller_refused r fails)
  says (fault.Question r) a fails is = subst (Answers kind controller question) (sym is) (question_refused r fails)
  says fault.NoMemory a fails is = absurd is

  of_fault : (why : AskFault) (result : Result Report NoMemory) → AskFails controller question why
      → IfOk result (λ report. SaysOfFault why (shown report)) → IfOk result (λ report. Answers kind controller question (shown report))
  of_fault why (Ok report) fails is = says why (shown report) fails is
  of_fault why (Err none) fails is = tt

pub returns-in-Ok : goal.returns-in-Ok
returns-in-Ok c = of_asked _ _ _ _ _ _ c.in-Ok.ensures.found c.written.ensures

pub returns-in-Err : goal.returns-in-Err
returns-in-Err c = of_fault _ _ _ _ _ c.in-Err.ensures.refused c.unasked.ensures
