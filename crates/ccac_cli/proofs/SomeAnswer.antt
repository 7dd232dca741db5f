-- Any bytes have an answer, as what they mean is seen, and each answer that is given is it.
use Rattle.std.proofs.Common.{◌≡◌, ◌∙◌, ℕ, unsigned_abs, ◌⊎◌, ⊎_elim, inl, inr, List, Result, Ok, Err, ap, sym, subst, refl}
use Rattle.run_rows.specs.declared.rows.Run.{Run}
use Rattle.run_rows.specs.declared.shapes.Shape.{Shape}
use Rattle.whole.specs.declared.answers.Refusal.{Refusal}
use Rattle.path_server.specs.declared.settings.Setting.{Setting}
use Rattle.path_server.specs.Places.{admission}
use Rattle.ctrl_syntax.specs.Grammar.{IsText as IsControllerSpelled}
use Rattle.ctrl_syntax.specs.Printed.{printed}
use Rattle.ctrl_syntax.specs.Sections.{Sections as ControllerSections, sections_of}
use Rattle.ctrl_syntax.specs.declared.syntax.Syntax.{Syntax}
use Rattle.ctrl_syntax.proofs.Exactness as controllers
use Rattle.ctrl_types.specs.Resolving.{SeenController, controller_seen}
use Rattle.ctrl_types.specs.Denominators.{IsScale}
use Rattle.ctrl_types.specs.Resolved.{SeenResolves}
use Rattle.ctrl_types.specs.Statements.{IsUnbroken}
use Rattle.ctrl_types.specs.declared.controllers.Controller.{Controller as Controller'}
use Rattle.ctrl_types.proofs.FirstLaws.{never_both}
use Rattle.ctrl_types.proofs.ResolveLaws.{either_statements, some_scaled}
use Rattle.ctrl_types.proofs.SameController.{same_seen}
use Rattle.question_syntax.specs.Grammar.{IsText}
use Rattle.question_syntax.specs.Refused.{IsRefused}
use Rattle.question_syntax.specs.Sections.{Sections}
use Rattle.question_syntax.proofs.Exactness as questions
use Rattle.question_syntax.proofs.SettingLimits.{text_within}
use Rattle.question_syntax.specs.Printed.{printed as question_printed}
use Rattle.question_text.specs.StatementRules.{SeenQuestion, question_seen}
use Rattle.question_text.specs.Texts as texts
use Rattle.question_text.specs.Texts.{IsTextOf, sections_written}
use Rattle.question_text.specs.declared.questions.Question.{Question as Question'}
use Rattle.question_text.proofs.SeenLaws.{judged_unruled, refused_by, text_by}
use Rattle.question_text.proofs.TellingLaws as asked
use Rattle.trace_replay.specs.Replaying.{replaying}
use Rattle.trace_text.specs.Script as trace
use Rattle.trace_text.specs.Spelling.{IsTraceText}
use Rattle.trace_text.proofs.Exactness as traces
use Rattle.clause_form.specs.Building.{limit_of}
use Rattle.clause_form.specs.declared.clauses.Clauses.{Clauses}
use Rattle.clause_form.specs.declared.clauses.What.{What}
use Rattle.cert_text.specs.Spelling.{Certificate, certificate}
use Rattle.cert_text.proofs.Exactness as certs
use Rattle.asked.specs.Asked.{IsAsked}
use Rattle.asked.specs.Texts.{IsControllerRefused, IsControllerText, MeansController, unread, unresolved}
use Rattle.asked.proofs.ControllerTexts.{broken_here, either_controller, one_refusal}
use Rattle.verdict.specs.Problems.{problem_of}
use Rattle.ccac_cli.specs.Admitting.{AdmitAnswers, TraceAnswers, trace_refused, examined, question_refused, question_read}
use Rattle.ccac_cli.specs.AskAnswers as asking
use Rattle.ccac_cli.specs.AskAnswers.{Asks}
use Rattle.ccac_cli.specs.Audits as audits
use Rattle.ccac_cli.specs.Audits.{AuditAnswers, CertAnswers, ProblemAnswers}
use Rattle.ccac_cli.specs.Checks as checks
use Rattle.ccac_cli.specs.Checks.{CheckAnswers, VerdictAnswers}
use Rattle.ccac_cli.specs.Formats.{FormatAnswers, QuestionFormat, controller_refused, controller_put, formatted, question_text}
use Rattle.ccac_cli.specs.Replays as replays
use Rattle.ccac_cli.specs.Replays.{ReplayAnswers, RunAnswers}
use Rattle.file_reports.specs.Reports.{Answer, refused}
use Rattle.ccac_cli.specs.Reports.{check_report, replay_verdict, too_large, verdict}
use Rattle.ccac_cli.specs.Saved.{behind_verdict}
use Rattle.ccac_cli.specs.ViewAnswers as seen
use Rattle.ccac_cli.specs.ViewAnswers.{ChecksTo, ComesTo, IsQuestionPut, Pose, SeenAsks, SeenAudit, SeenCert, SeenFormat, SeenPosed, SeenProblem}
use Rattle.ccac_cli.specs.ViewAnswers.{SeenQuestionFormat, SeenRefusal, SeenReplay, SeenRun, SeenSize, both_mean, first_refused, seen_put, seen_refused}
use Rattle.ccac_cli.specs.ViewAnswers.{then_refused, unruled}
use Rattle.file_reports.specs.declared.sources.Source.TheVariants.{Controller, Question, Trace, Cert}
use Rattle.ccac_cli.proofs.OneAudit.{verdict_by, verdict_is}
use Rattle.verdict.proofs.SameProblem.{problem_is_seen, problem_seen}
use Rattle.ccac_cli.proofs.SeenReplays.{replaying_is_seen, replaying_seen}

-- ---- a question and a trace

some_verdict : (s : Setting) (bytes : List ℕ) → (a : Answer) × TraceAnswers s bytes a
some_verdict s bytes = ⊎_elim told refused_so (traces.trace_or_refusal (behind_verdict bytes))
  where
    told : ((t : Shape × Run) × IsTraceText (behind_verdict bytes) t.0 t.1) → (a : Answer) × TraceAnswers s bytes a
    told x = (verdict (admission s.path x.0.1), examined x.0.0 x.0.1 x.1)

    refused_so : ((r : Refusal) × trace.IsRefused (behind_verdict bytes) r) → (a : Answer) × TraceAnswers s bytes a
    refused_so x = (refused Trace x.0, trace_refused x.0 x.1)

pub some_admission : (question bytes : List ℕ) → (a : Answer) × AdmitAnswers question bytes a
some_admission question bytes = ⊎_elim told refused_so (questions.either_text question)
  where
    told : ((s : Sections) × IsText question s) → (a : Answer) × AdmitAnswers question bytes a
    told x =
        let a = some_verdict x.0.setting bytes in
        (a.0, question_read x.0.setting a.0 (record { sections = x.0; spelled = x.1; setting_is = refl; limits = text_within question x.0 x.1 }) a.1)

    refused_so : ((r : Refusal) × IsRefused question r) → (a : Answer) × AdmitAnswers question bytes a
    refused_so x = (refused Question x.0, question_refused x.0 x.1)

-- ---- a controller

pub some_format : (controller : List ℕ) → (a : Answer) × SeenFormat controller a
some_format controller = ⊎_elim told refused_so (either_controller controller)
  where
    told : ((c : SeenController) × MeansController controller c) → (a : Answer) × SeenFormat controller a
    told x = (formatted (printed x.1.sections), seen_put x.0 x.1)

    refused_so : ((r : Refusal) × IsControllerRefused controller r) → (a : Answer) × SeenFormat controller a
    refused_so x = (refused Controller x.0, seen_refused x.0 x.1)

-- an answer that is given is one that is seen
pub format_seen : (controller : List ℕ) (a : Answer) → FormatAnswers controller a → SeenFormat controller a
format_seen controller _ (controller_refused r broken) = seen_refused r broken
format_seen controller _ (controller_put syntax c is) =
    seen_put (controller_seen c) (record { sections = sections_of syntax; spelled = is.spelled; unbroken = is.unbroken; resolved = is.resolved })

not_refused : (controller : List ℕ) (c : SeenController) (r : Refusal) → MeansController controller c → IsControllerRefused controller r → ⊥
not_refused controller c r means broken = never_both means.sections r (broken_here controller means.sections means.spelled r broken) means.unbroken

pub one_format : (controller : List ℕ) (a b : Answer) → SeenFormat controller a → SeenFormat controller b → a ≡ b
one_format controller _ _ (seen_refused r one) (seen_refused t two) = ap (refused Controller) (one_refusal controller r t one two)
one_format controller _ _ (seen_refused r one) (seen_put c two) = absurd (not_refused controller c r two one)
one_format controller _ _ (seen_put c one) (seen_refused r two) = absurd (not_refused controller c r one two)
one_format controller _ _ (seen_put c one) (seen_put d two) =
    ap (λ (s : ControllerSections). formatted (printed s)) (controllers.one_text controller one.sections two.sections one.spelled two.spelled)

-- ---- a controller and a question

-- what reading the two comes to
data BothRead (controller question : List ℕ) : Type 0 where
  controller_stops : (r : Refusal) → IsControllerRefused controller r → BothRead controller question
  question_stops : (x : SeenController) (r : Refusal) → MeansController controller x → texts.IsRefused (unruled x) question r → BothRead controller question
  both_are_read : (x : SeenController) (y : SeenQuestion) → MeansController controller x → IsTextOf (unruled x) question y → BothRead controller question

read_second : (controller question : List ℕ) (x : SeenController) → IsScale (unsigned_abs x.den) → MeansController controller x → BothRead controller question
read_second controller question x scale means =
    ⊎_elim (λ y. both_are_read x y.0 means y.1) (λ r. question_stops x r.0 means r.1) (asked.either_scaled (unruled x) question scale)

read_both : (controller question : List ℕ) → BothRead controller question
read_both controller question = ⊎_elim (λ s. spelled s.0 s.1) (λ r. controller_stops r.0 (unread r.1)) (controllers.either_text controller)
  where
    spelled : (s : ControllerSections) → IsControllerSpelled controller s → BothRead controller question
    spelled s is = ⊎_elim whole (λ r. controller_stops r.0 (unresolved s is r.1)) (either_statements s)
      where
        whole : IsUnbroken s → BothRead controller question
        whole unbroken =
            let x = some_scaled controller s is unbroken in
            read_second controller question x.0 x.1.1 (record { sections = s; spelled = is; unbroken = unbroken; resolved = x.1.0 })

-- where something is answered to all that the two can mean, something is answered to them
some_asks : (controller question : List ℕ) (Then : SeenController → SeenQuestion → Answer → Type 0)
    → ((x : SeenController) (y : SeenQuestion) → (a : Answer) × Then x y a) → (a : Answer) × SeenAsks controller question Then a
some_asks controller question Then some = by (read_both controller question)
  where
    by : BothRead controller question → (a : Answer) × SeenAsks controller question Then a
    by (controller_stops r is) = (refused Controller r, first_refused r is)
    by (question_stops x r means is) = (refused Question r, then_refused x r means is)
    by (both_are_read x y means is) = ((some x y).0, both_mean x y (some x y).0 means is (some x y).1)

-- what a controller's text means, as it is seen
seen_meant : (controller : List ℕ) (syntax : Syntax) (c : Controller') → IsControllerText controller syntax c → MeansController controller (controller_seen c)
seen_meant controller syntax c is = record { sections = sections_of syntax; spelled = is.spelled; unbroken = is.unbroken; resolved = is.resolved }

one_meant : (controller : List ℕ) (x y : SeenController) → MeansController controller x → MeansController controller y → x ≡ y
one_meant controller x y one two =
    let same : two.sections ≡ one.sections = controllers.one_text controller two.sections one.sections two.spelled one.spelled in
    same_seen one.sections x y one.resolved (subst (λ (s : ControllerSections). SeenResolves s y) same two.resolved)

-- a question's text, and its refusal, ask for no more of a controller than what is seen of it
text_seen : (c : Controller') (question : List ℕ) (q : Question') → IsAsked c question q → IsTextOf (unruled (controller_seen c)) question (question_seen q)
text_seen c question q is = text_by c (unruled (controller_seen c)) refl (judged_unruled c) question (question_seen q) is.spelled

refusal_seen : (c : Controller') (question : List ℕ) (r : Refusal) → texts.IsRefused c question r → texts.IsRefused (unruled (controller_seen c)) question r
refusal_seen c question r is = refused_by c (unruled (controller_seen c)) refl (judged_unruled c) question r is

-- an answer to some controller and question that are seen so
abbrev GivenAs : (Controller' → Question' → Answer → Type 0) → SeenController → SeenQuestion → Answer → Type 0
GivenAs Then x y d = (c : Controller') × (q : Question') × (controller_seen c ≡ x) × (question_seen q ≡ y) × Then c q d

module _ (controller question : List ℕ) where
  -- an answer that is given is one that is seen
  asks_seen : (Then : Controller' → Question' → Answer → Type 0) (Seen : SeenController → SeenQuestion → Answer → Type 0)
      → ((c : Controller') (q : Question') (a : Answer) → Then c q a → Seen (controller_seen c) (question_seen q) a) → (a : Answer)
      → Asks controller question Then a → SeenAsks controller question Seen a
  asks_seen Then Seen so _ (asking.ask_refused (asking.controller_refused r is)) = first_refused r is
  asks_seen Then Seen so _ (asking.ask_refused (asking.question_refused syntax c r is breaks)) =
      then_refused (controller_seen c) r (seen_meant controller syntax c is) (refusal_seen c question r breaks)
  asks_seen Then Seen so a (asking.asked c q are then) =
      both_mean (controller_seen c) (question_seen q) a (seen_meant controller are.syntax c are.controller_is)
      (text_seen c question q are.question_is) (so c q a then)

  same_refusal : (x y : SeenController) (r s : Refusal) → MeansController controller x → MeansController controller y
      → texts.IsRefused (unruled x) question r → texts.IsRefused (unruled y) question s → r ≡ s
  same_refusal x y r s one two first second =
      asked.one_refusal (unruled y) question r s
      (subst (λ (z : SeenController). texts.IsRefused (unruled z) question r) (one_meant controller x y one two) first) second

  refused_or_read : (x y : SeenController) (r : Refusal) (q : SeenQuestion) → MeansController controller x → MeansController controller y
      → texts.IsRefused (unruled x) question r → IsTextOf (unruled y) question q → ⊥
  refused_or_read x y r q one two first second =
      asked.not_both (unruled y) question r q
      (subst (λ (z : SeenController). texts.IsRefused (unruled z) question r) (one_meant controller x y one two) first) second

  same_question : (x y : SeenController) (p q : SeenQuestion) → MeansController controller x → MeansController controller y → IsTextOf (unruled x) question p
      → IsTextOf (unruled y) question q → p ≡ q
  same_question x y p q one two first second =
      asked.one_question (unruled y) question p q
      (subst (λ (z : SeenController). IsTextOf (unruled z) question p) (one_meant controller x y one two) first) second

  -- two answers that are seen are one, where what is answered to the same is the same
  seen_once : (Seen Other : SeenController → SeenQuestion → Answer → Type 0)
      → ((x : SeenController) (y : SeenQuestion) (a b : Answer) → Seen x y a → Other x y b → a ≡ b) → (a b : Answer) → SeenAsks controller question Seen a
      → SeenAsks controller question Other b → a ≡ b
  seen_once Seen Other once _ _ (first_refused r one) (first_refused s two) = ap (refused Controller) (one_refusal controller r s one two)
  seen_once Seen Other once _ _ (first_refused r one) (then_refused x s two is) = absurd (not_refused controller x r two one)
  seen_once Seen Other once _ _ (first_refused r one) (both_mean x y a two is then) = absurd (not_refused controller x r two one)
  seen_once Seen Other once _ _ (then_refused x r one is) (first_refused s two) = absurd (not_refused controller x s one two)
  seen_once Seen Other once _ _ (then_refused x r one is) (then_refused y s two is') = ap (refused Question) (same_refusal x y r s one two is is')
  seen_once Seen Other once _ _ (then_refused x r one is) (both_mean y q a two is' then) = absurd (refused_or_read x y r q one two is is')
  seen_once Seen Other once _ _ (both_mean x p a one is then) (first_refused s two) = absurd (not_refused controller x s one two)
  seen_once Seen Other once _ _ (both_mean x p a one is then) (then_refused y s two is') = absurd (refused_or_read y x s p two one is' is)
  seen_once Seen Other once _ _ (both_mean x p a one is then) (both_mean y q b two is' then') =
      once y q a b
      (subst (λ (z : SeenQuestion). Seen y z a) (same_question x y p q one two is is')
      (subst (λ (z : SeenController). Seen z p a) (one_meant controller x y one two) then))
      then'

  -- the answer that is seen is each that is given
  seen_so : (Then : Controller' → Question' → Answer → Type 0) (Seen : SeenController → SeenQuestion → Answer → Type 0)
      → ((c : Controller') (q : Question') (a b : Answer) → Seen (controller_seen c) (question_seen q) a → Then c q b → a ≡ b) → (a b : Answer)
      → SeenAsks controller question Seen a → Asks controller question Then b → a ≡ b
  seen_so Then Seen once a b is given =
      seen_once Seen (GivenAs Then) compare a b is (asks_seen Then (GivenAs Then) (λ c q d then. (c, q, refl, refl, then)) b given)
    where
      compare : (x : SeenController) (y : SeenQuestion) (d e : Answer) → Seen x y d → GivenAs Then x y e → d ≡ e
      compare x y d e here (c, q, controllers, questions, then) =
          once c q d e
          (subst (λ (z : SeenController). Seen z (question_seen q) d) (sym controllers) (subst (λ (z : SeenQuestion). Seen x z d) (sym questions) here)) then

-- ---- canonical questions

pub some_question_format : (controller question : List ℕ) → (a : Answer) × SeenQuestionFormat controller question a
some_question_format controller question =
    some_asks controller question IsQuestionPut (λ x y. (formatted (question_printed (sections_written x.states y)), refl))

pub one_question_format : (controller question : List ℕ) (a b : Answer) → SeenQuestionFormat controller question a
    → SeenQuestionFormat controller question b → a ≡ b
one_question_format controller question = seen_once controller question IsQuestionPut IsQuestionPut (λ x y a b one two. one ∙ sym two)

pub question_format_seen : (controller question : List ℕ) (a : Answer) → QuestionFormat controller question a → SeenQuestionFormat controller question a
question_format_seen controller question = asks_seen controller question (λ c q a. a ≡ formatted (question_text c q)) IsQuestionPut (λ c q a is. is)

-- ---- a trace

comes_seen : (x : SeenController) (y : SeenQuestion) (r : Run) → ComesTo x y r (replaying_seen x y r)
comes_seen x y r c q controllers questions =
    replaying_is_seen c q r ∙ ap (λ (z : SeenController). replaying_seen z (question_seen q) r) controllers
    ∙ ap (λ (z : SeenQuestion). replaying_seen x z r) questions

some_run : (bytes : List ℕ) (x : SeenController) (y : SeenQuestion) → (a : Answer) × SeenRun bytes x y a
some_run bytes x y =
    ⊎_elim
    (λ t. (replay_verdict (replaying_seen x y t.0.1), seen.replayed t.0.0 t.0.1 (replaying_seen x y t.0.1) t.1 (comes_seen x y t.0.1)))
    (λ r. (refused Trace r.0, seen.trace_refused r.0 r.1)) (traces.trace_or_refusal (behind_verdict bytes))

pub some_replay : (controller question bytes : List ℕ) → (a : Answer) × SeenReplay controller question bytes a
some_replay controller question bytes = some_asks controller question (SeenRun bytes) (some_run bytes)

run_so : (bytes : List ℕ) (c : Controller') (q : Question') (a b : Answer) → SeenRun bytes (controller_seen c) (question_seen q) a
    → RunAnswers bytes c q b → a ≡ b
run_so bytes c q _ _ (seen.trace_refused r one) (replays.trace_refused s two) = ap (refused Trace) (traces.one_refusal (behind_verdict bytes) r s one two)
run_so bytes c q _ _ (seen.trace_refused r one) (replays.replayed shape run two) = absurd (traces.not_both (behind_verdict bytes) r shape run one two)
run_so bytes c q _ _ (seen.replayed shape run found one comes) (replays.trace_refused r two) =
    absurd (traces.not_both (behind_verdict bytes) r shape run two one)
run_so bytes c q _ _ (seen.replayed shape run found one comes) (replays.replayed other another two) =
    ap replay_verdict (sym (comes c q refl refl))
    ∙ ap (λ (r : Run). replay_verdict (replaying c q r)) (traces.one_trace (behind_verdict bytes) shape run other another one two).1

pub replay_seen_so : (controller question bytes : List ℕ) (a b : Answer) → SeenReplay controller question bytes a
    → ReplayAnswers controller question bytes b → a ≡ b
replay_seen_so controller question bytes = seen_so controller question (RunAnswers bytes) (SeenRun bytes) (run_so bytes)

-- ---- a certificate

checks_seen : (problem : Clauses) (z : Certificate) → ChecksTo problem z (verdict_by problem z)
checks_seen problem z cert is = verdict_is problem cert ∙ ap (verdict_by problem) is

some_cert : (problem : Clauses) (file : List ℕ) → (a : Answer) × SeenCert problem file a
some_cert problem file =
    ⊎_elim (λ z. (check_report (verdict_by problem z.0), seen.checked z.0 (verdict_by problem z.0) z.1 (checks_seen problem z.0)))
    (λ r. (refused Cert r.0, seen.cert_refused r.0 r.1)) (certs.certificate_or_refusal (behind_verdict file))

poses_seen : (x : SeenController) (y : SeenQuestion) (posed : Result Clauses What) → problem_seen x y ≡ posed → Pose x y posed
poses_seen x y posed is c q controllers questions =
    problem_is_seen c q ∙ ap (λ (z : SeenController). problem_seen z (question_seen q)) controllers ∙ ap (problem_seen x) questions ∙ is

some_problem : (file : List ℕ) (x : SeenController) (y : SeenQuestion) → (a : Answer) × SeenProblem file x y a
some_problem file x y = by (problem_seen x y) refl
  where
    by : (posed : Result Clauses What) → problem_seen x y ≡ posed → (a : Answer) × SeenProblem file x y a
    by (Ok problem) is =
        let a = some_cert problem file in (a.0, seen.unrolled problem a.0 (poses_seen x y (Ok problem) is) a.1)
    by (Err what) is = (too_large what (limit_of what), seen.large what (poses_seen x y (Err what) is))

pub some_audit : (controller question file : List ℕ) → (a : Answer) × SeenAudit controller question file a
some_audit controller question file = some_asks controller question (SeenProblem file) (some_problem file)

cert_so : (problem : Clauses) (file : List ℕ) (a b : Answer) → SeenCert problem file a → CertAnswers problem file b → a ≡ b
cert_so problem file _ _ (seen.cert_refused r one) (audits.cert_refused s two) = ap (refused Cert) (certs.one_refusal (behind_verdict file) r s one two)
cert_so problem file _ _ (seen.cert_refused r one) (audits.checked cert two) = absurd (certs.not_both (behind_verdict file) r (certificate cert) one two)
cert_so problem file _ _ (seen.checked z found one comes) (audits.cert_refused r two) = absurd (certs.not_both (behind_verdict file) r z two one)
cert_so problem file _ _ (seen.checked z found one comes) (audits.checked cert two) =
    ap check_report (sym (comes cert (certs.one_certificate (behind_verdict file) (certificate cert) z two one)))

one_posed : (p : Result Clauses What) (v w : Result Clauses What) → p ≡ v → p ≡ w → v ≡ w
one_posed p v w one two = sym one ∙ two

limits_agree : (v w : What) → ◌≡◌ {A = Result Clauses What} (Err v) (Err w) → v ≡ w
limits_agree v w same = cc

problems_agree : (x y : Clauses) → ◌≡◌ {A = Result Clauses What} (Ok x) (Ok y) → x ≡ y
problems_agree x y same = cc

limit_or_problem : (w : What) (x : Clauses) → ◌≡◌ {A = Result Clauses What} (Err w) (Ok x) → ⊥
limit_or_problem w x same = cc

problem_so : (file : List ℕ) (c : Controller') (q : Question') (a b : Answer) → SeenProblem file (controller_seen c) (question_seen q) a
    → ProblemAnswers file c q b → a ≡ b
problem_so file c q _ _ (seen.large v posed) (audits.large w is) =
    ap (λ what. too_large what (limit_of what)) (limits_agree v w (one_posed (problem_of c q) (Err v) (Err w) (posed c q refl refl) is))
problem_so file c q _ _ (seen.large v posed) (audits.unrolled y b is answers) =
    absurd (limit_or_problem v y (one_posed (problem_of c q) (Err v) (Ok y) (posed c q refl refl) is))
problem_so file c q _ _ (seen.unrolled x a posed answers) (audits.large w is) =
    absurd (limit_or_problem w x (one_posed (problem_of c q) (Err w) (Ok x) is (posed c q refl refl)))
problem_so file c q _ _ (seen.unrolled x a posed first) (audits.unrolled y b is second) =
    let same : y ≡ x = problems_agree y x (one_posed (problem_of c q) (Ok y) (Ok x) is (posed c q refl refl)) in
    cert_so x file a b first (subst (λ (z : Clauses). CertAnswers z file b) same second)

pub audit_seen_so : (controller question file : List ℕ) (a b : Answer) → SeenAudit controller question file a → AuditAnswers controller question file b → a ≡ b
audit_seen_so controller question file = seen_so controller question (ProblemAnswers file) (SeenProblem file) (problem_so file)

-- ---- a question that is to be decided

pub some_check : (controller question : List ℕ) → ((a : Answer) × SeenRefusal controller question a) ⊎ SeenPosed controller question
some_check controller question = by (read_both controller question)
  where
    sized : (x : SeenController) (y : SeenQuestion) → MeansController controller x → IsTextOf (unruled x) question y → (posed : Result Clauses What)
        → problem_seen x y ≡ posed → ((a : Answer) × SeenRefusal controller question a) ⊎ SeenPosed controller question
    sized x y means is (Ok problem) made =
        inr (record { x = x; y = y; controller_means = means; question_is = is; problem = problem; posed = poses_seen x y (Ok problem) made })
    sized x y means is (Err what) made =
        inl (too_large what (limit_of what), both_mean x y (too_large what (limit_of what)) means is (seen.limited what (poses_seen x y (Err what) made)))

    by : BothRead controller question → ((a : Answer) × SeenRefusal controller question a) ⊎ SeenPosed controller question
    by (controller_stops r is) = inl (refused Controller r, first_refused r is)
    by (question_stops x r means is) = inl (refused Question r, then_refused x r means is)
    by (both_are_read x y means is) = sized x y means is (problem_seen x y) refl

size_so : (c : Controller') (q : Question') (a b : Answer) → SeenSize (controller_seen c) (question_seen q) a → VerdictAnswers c q b → a ≡ b
size_so c q _ _ (seen.limited v posed) (checks.large w is) =
    ap (λ what. too_large what (limit_of what)) (limits_agree v w (one_posed (problem_of c q) (Err v) (Err w) (posed c q refl refl) is))
size_so c q _ _ (seen.limited v posed) (checks.judged p verdict of says) =
    absurd (limit_or_problem v p.clauses (one_posed (problem_of c q) (Err v) (Ok p.clauses) (posed c q refl refl) of.made))

pub check_seen_so : (controller question : List ℕ) (a b : Answer) → SeenRefusal controller question a → CheckAnswers controller question b → a ≡ b
check_seen_so controller question = seen_so controller question VerdictAnswers SeenSize size_so
