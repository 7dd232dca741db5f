-- What `check` is answered with is what the headline says.
use Rattle.std.proofs.Common.{◌≡◌, ℕ, List, Option, Some, refl, subst, arith}
use Rattle.text_lines.specs.Pieces.{text}
use Rattle.ctrl_types.specs.declared.controllers.Controller.{Controller}
use Rattle.question_text.specs.declared.questions.Question.{Question}
use Rattle.trace_text.specs.Spelling.{trace_lines}
use Rattle.cert_text.specs.Journals.{journal_lines}
use Rattle.cert_text.specs.Spelling.{cert_lines, certificate}
use Rattle.unroll.specs.declared.problems.Problem.{Problem}
use Rattle.asked.specs.Asked.{AreAsked}
use Rattle.verdict.specs.Judging.{Says}
use Rattle.verdict.specs.Problems.{IsProblemOf}
use Rattle.verdict.specs.declared.judging.Verdict.{Verdict}
use Rattle.verdict.specs.declared.judging.Verdict.TheVariants.{Budget, Verified, Violated, Wide}
use Rattle.ccac_ports.specs.Ports.{Got, Told}
use Rattle.ccac_cli.specs.AskAnswers.{AskRefused}
use Rattle.ccac_cli.specs.AskAnswers as asking
use Rattle.ccac_cli.specs.Checks.{CheckAnswers, VerdictAnswers, unknown_report, verdict_report, verified_report, violated_report}
use Rattle.ccac_cli.specs.Checks as checking
use Rattle.ccac_cli.specs.Commands.{Order, check}
use Rattle.file_reports.specs.Ended.{Ends}
use Rattle.file_reports.proofs.EndLaws.{ends_so}
use Rattle.file_reports.proofs.HadLaws.{ends_high}
use Rattle.ccac_cli.specs.Ended.{Answers, OrderAnswers}
use Rattle.file_reports.specs.Fetched.{IsFetched, goes_on, stops}
use Rattle.ccac_cli.specs.Headline.{Headline, a_certificate, a_trace, controller_rule, no_controller, no_question, question_rule, size_limit}
use Rattle.ccac_cli.specs.Headline.{unknown_by_budget, unknown_by_number}
use Rattle.ccac_cli.specs.Named.{NamesQuestion}
use Rattle.file_reports.specs.Reports.{Answer, refused}
use Rattle.ccac_cli.specs.Reports.{too_large}
use Rattle.file_reports.specs.declared.sources.Source.TheVariants.{Controller as ControllerFile, Question as QuestionFile}

-- a controller and a question that were read
abbrev pub names_asked : (folder : Told) (c q controller question : List ℕ) (d : Controller) (p : Question) → IsFetched folder ControllerFile c controller
    → IsFetched folder QuestionFile q question → AreAsked controller question d p → NamesQuestion folder c q
names_asked folder c q controller question d p first second are = record {
  asked = record { bytes = controller; fetched = first; syntax = are.syntax; controller = d; is = are.controller_is };
  bytes = question;
  fetched = second;
  question = p;
  is = are.question_is;
}

module _ (old new : Told) (c q : List ℕ) where
  -- ---- a verdict

  verdict_headline : (files : NamesQuestion old c q) (p : Problem) (v : Verdict) → IsProblemOf files.asked.controller files.question p
      → Says files.asked.controller files.question p v → Headline old new c q (verdict_report v)
  unfolding violated_report verified_report unknown_report
  verdict_headline files p (Violated shape run) of says =
      a_trace files (text (trace_lines shape run))
      (record {
        shape = shape;
        run = run;
        text_is = record { within = says.within; fits = says.fits; text_is = refl };
        is_run = says.run_of;
        violates = says.violates;
      })
  verdict_headline files p (Verified cert) of says =
      a_certificate files (text (cert_lines (certificate cert)))
      (record {
        problem = p.clauses;
        posed = of.made;
        cert = cert;
        text_is = record { within = says.certificate.within; text_is = refl };
        proves = says.certificate.proves;
        none = says.none;
      })
  verdict_headline files p (Budget spent) of says =
      unknown_by_budget files (text (journal_lines spent.journal.moves))
      (record { problem = p.clauses; posed = of.made; spent = spent; text_is = refl; all_spent = says })
  verdict_headline files p (Wide stuck spent) of says =
      unknown_by_number files stuck (text (journal_lines spent.journal.moves))
      (record { problem = p; posed = of; spent = spent; text_is = refl; overflows = says })

  conclusion_headline : (files : NamesQuestion old c q) (a : Answer) → VerdictAnswers files.asked.controller files.question a → Headline old new c q a
  conclusion_headline files _ (checking.large what is) = size_limit files what is
  conclusion_headline files _ (checking.judged p v of says) = verdict_headline files p v of says

  -- ---- the two files

  refusal_headline : (controller question : List ℕ) (a : Answer) → IsFetched old ControllerFile c controller → IsFetched old QuestionFile q question
      → AskRefused controller question a → Headline old new c q a
  refusal_headline controller question _ first second (asking.controller_refused r is) = controller_rule controller question r first second is
  refusal_headline controller question _ first second (asking.question_refused syntax d r spelled is) =
      question_rule (record { bytes = controller; fetched = first; syntax = syntax; controller = d; is = spelled }) question r second is

  pub checked_headline : (controller question : List ℕ) (a : Answer) → IsFetched old ControllerFile c controller → IsFetched old QuestionFile q question
      → CheckAnswers controller question a → Headline old new c q a
  checked_headline controller question a first second (asking.ask_refused is) = refusal_headline controller question a first second is
  checked_headline controller question a first second (asking.asked d p are answers) =
      conclusion_headline (names_asked old c q controller question d p first second are) a answers

  pub order_headline : (a : Answer) → OrderAnswers old new (check c q) a → Headline old new c q a
  order_headline a (stops ends) = no_controller a ends
  order_headline a (goes_on controller first (stops ends)) = no_question controller a first ends
  order_headline a (goes_on controller first (goes_on question second answers)) = checked_headline controller question a first second answers

  -- ---- none has the status of usage

  pub headline_is_no_usage : (a : Answer) → Headline old new c q a → a.status ≡ 4 → ⊥
  unfolding refused too_large
  headline_is_no_usage _ (a_trace files bytes is) four = omega arith
  headline_is_no_usage _ (a_certificate files bytes is) four = omega arith
  headline_is_no_usage _ (unknown_by_budget files bytes is) four = omega arith
  headline_is_no_usage _ (unknown_by_number files stuck bytes is) four = omega arith
  headline_is_no_usage _ (controller_rule controller question r first second is) four = omega arith
  headline_is_no_usage _ (question_rule named question r second is) four = omega arith
  headline_is_no_usage _ (size_limit files what is) four = omega arith
  headline_is_no_usage _ (no_controller a ends) four = (ends_high old new ControllerFile c a ends).1 four
  headline_is_no_usage _ (no_question controller a first ends) four = (ends_high old new QuestionFile q a ends).1 four

-- ---- the call

pub headline_ends : (old new : Told) (words : Option Order) (before after : Got) (status : ℕ) → Ends (Answers old new words) before after status
    → (c q : List ℕ) → words ≡ Some (check c q) → Ends (Headline old new c q) before after status
headline_ends old new words before after status ends c q is =
    ends_so (OrderAnswers old new (check c q)) (Headline old new c q) before after status (order_headline old new c q)
    (subst (λ w. Ends (Answers old new w) before after status) is ends)
