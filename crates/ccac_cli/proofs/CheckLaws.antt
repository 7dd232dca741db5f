-- What comes of judging two texts is an answer to them.
use Rattle.std.proofs.Common.{◌≡◌, ◌∙◌, ℕ, List, Ok, Err, sym, ap, subst}
use Rattle.whole.specs.declared.answers.Refusal.{Refusal}
use Rattle.ctrl_types.specs.declared.controllers.Controller.{Controller}
use Rattle.question_text.specs.declared.questions.Question.{Question}
use Rattle.clause_form.specs.declared.clauses.What.{What}
use Rattle.unroll.specs.declared.problems.Problem.{Problem}
use Rattle.verdict.specs.Judging.{Judges, Says}
use Rattle.verdict.specs.declared.judging.JudgeFault.{JudgeFault}
use Rattle.verdict.specs.declared.judging.JudgeFault.TheVariants as judging
use Rattle.verdict.specs.declared.judging.Verdict.{Verdict}
use Rattle.verdict.specs.declared.judging.Verdict.TheVariants.{Budget, Verified, Violated, Wide}
use Rattle.ccac_cli.specs.AskAnswers.{ask_refused, asked, controller_refused, question_refused}
use Rattle.ccac_cli.specs.Checks.{CheckAnswers, IsPrintable, judged, large, verdict_report}
use Rattle.file_reports.specs.Halted.{HaltsBy}
use Rattle.file_reports.specs.Reports.{Answer, refused}
use Rattle.ccac_cli.specs.Reports.{too_large}
use Rattle.file_reports.specs.declared.sources.Source.TheVariants.{Controller as ControllerFile, Question as QuestionFile}
use Rattle.file_reports.specs.declared.early_end.EarlyEnd.{EarlyEnd}
use Rattle.file_reports.proofs.HaltLaws.{halts_so}

says_printable : (c : Controller) (q : Question) (p : Problem) (v : Verdict) → Says c q p v → IsPrintable v
says_printable c q p (Violated shape run) says = (says.within, says.fits)
says_printable c q p (Verified cert) says = tt
says_printable c q p (Budget spent) says = tt
says_printable c q p (Wide stuck spent) says = tt

module _ (controller question : List ℕ) where
  pub printable : (v : Verdict) → Judges controller question (Ok v) → IsPrintable v
  printable v is = says_printable is.0 is.1 is.3.0 v is.3.2

  pub verdict_answers : (v : Verdict) (a : Answer) → Judges controller question (Ok v) → a ≡ verdict_report v → CheckAnswers controller question a
  verdict_answers v a is shows = subst (CheckAnswers controller question) (sym shows) (asked is.0 is.1 is.2 (judged is.3.0 v is.3.1 is.3.2))

  pub controller_answers : (fault : JudgeFault) (r : Refusal) (halt : EarlyEnd) → fault ≡ judging.Controller r → Judges controller question (Err fault)
      → HaltsBy (λ a. a ≡ refused ControllerFile r) halt → HaltsBy (CheckAnswers controller question) halt
  controller_answers fault r halt same is ends =
      let broken = subst (λ (f : JudgeFault). Judges controller question (Err f)) same is in
      halts_so (λ a. a ≡ refused ControllerFile r) (CheckAnswers controller question) halt
      (λ a shows. subst (CheckAnswers controller question) (sym shows) (ask_refused (controller_refused r broken))) ends

  pub question_answers : (fault : JudgeFault) (r : Refusal) (halt : EarlyEnd) → fault ≡ judging.Question r → Judges controller question (Err fault)
      → HaltsBy (λ a. a ≡ refused QuestionFile r) halt → HaltsBy (CheckAnswers controller question) halt
  question_answers fault r halt same is ends =
      let broken = subst (λ (f : JudgeFault). Judges controller question (Err f)) same is in
      halts_so (λ a. a ≡ refused QuestionFile r) (CheckAnswers controller question) halt
      (λ a shows. subst (CheckAnswers controller question) (sym shows)
      (ask_refused (question_refused broken.syntax broken.asked r broken.controller_is broken.refused))) ends

  pub size_answers : (fault : JudgeFault) (what : What) (limit : ℕ) (a : Answer) → fault ≡ judging.Large what limit → Judges controller question (Err fault)
      → a ≡ too_large what limit → CheckAnswers controller question a
  size_answers fault what limit a same is shows =
      let overflows = subst (λ (f : JudgeFault). Judges controller question (Err f)) same is in
      subst (CheckAnswers controller question) (sym (shows ∙ ap (too_large what) overflows.3.1)) (asked overflows.0 overflows.1 overflows.2 (large what overflows.3.0))
