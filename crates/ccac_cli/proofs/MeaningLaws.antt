-- What is answered with the statuses 0, 1 and 2 means what these say.
use Rattle.std.proofs.Common.{◌≡◌, ap, subst, sym, refl, ℕ, ◌≤◌, ◌⊎◌, inl, inr, List, [], ◌∷◌, Option, None, Some, arith}
use Rattle.whole.specs.declared.answers.Refusal.{Refusal}
use Rattle.path_server.specs.Places.{admission}
use Rattle.path_server.specs.declared.admission.Admit.{Admit as Admission}
use Rattle.path_server.specs.declared.admission.Admit.TheVariants.{Yes, Broken as BrokenRule, Wide as WideRule}
use Rattle.path_server.proofs.AdmissionLaws as path
use Rattle.trace_replay.specs.Replaying.{replaying}
use Rattle.trace_replay.specs.declared.replaying.Replayed.{Replayed}
use Rattle.trace_replay.specs.declared.replaying.Replayed.TheVariants.{Violating, Keeps, Broken, Wide}
use Rattle.trace_replay.proofs.ReplayLaws.{broken_law, keeps_law, violating_law, wide_law}
use Rattle.clause_form.specs.Building.{limit_of}
use Rattle.clause_form.specs.declared.clauses.What.{What}
use Rattle.cert_check.specs.Verdicts.{Verdict as Checked}
use Rattle.cert_check.specs.Verdicts as checks
use Rattle.cert_check.proofs.VerdictLaws.{each_has_a_verdict}
use Rattle.ccac_ports.specs.Ports.{Appends, Got, Told}
use Rattle.file_reports.proofs.HadLaws.{all_answered, ends_high}
use Rattle.file_reports.proofs.TextLaws.{one_or_two_files, three_files, two_files}
use Rattle.ccac_cli.specs.Admitting.{AdmitAnswers, TraceAnswers}
use Rattle.ccac_cli.specs.Admitting as admitting
use Rattle.ccac_cli.specs.Commands.{Order, answers_of, entry_of}
use Rattle.ccac_cli.specs.declared.commands.Command.{Command}
use Rattle.ccac_cli.specs.declared.commands.Command.TheVariants.{Admit, Audit, Check, Format, Replay}
use Rattle.file_reports.specs.Ended.{Ends, cut_short, no_memory, no_memory_left, whole}
use Rattle.ccac_cli.specs.Ended.{Answers, OrderAnswers}
use Rattle.file_reports.specs.Fetched.{AreFetched, FetchEnds, IsFetched}
use Rattle.ccac_cli.specs.Audits.{AuditAnswers, CertAnswers, ProblemAnswers}
use Rattle.ccac_cli.specs.Audits as audits
use Rattle.ccac_cli.specs.Checks.{CheckAnswers}
use Rattle.ccac_cli.specs.AskAnswers.{AskRefused}
use Rattle.ccac_cli.specs.AskAnswers as asking
use Rattle.ccac_cli.specs.Formats.{FormatAnswers, QuestionFormat, formatted, question_text}
use Rattle.ccac_cli.specs.Formats as formats
use Rattle.ccac_cli.specs.Headline.{Headline}
use Rattle.ccac_cli.specs.Meaning.{IsMeant, Means, admit_wide, admitted, audit_wide, breaks, checked, controller_put, fails, keeps, not_admitted, proved}
use Rattle.ccac_cli.specs.Meaning.{question_put, replay_wide, violating}
use Rattle.ccac_cli.specs.Named.{NamesCert, NamesQuestion, NamesSetting, NamesTrace, Poses}
use Rattle.ccac_cli.specs.Replays.{ReplayAnswers, RunAnswers}
use Rattle.ccac_cli.specs.Replays as replays
use Rattle.file_reports.specs.Reports.{Answer, refused, usage}
use Rattle.ccac_cli.specs.Reports.{broken, check_report, replay_verdict, too_large, unproved, verdict, wide}
use Rattle.ccac_cli.specs.Reports.{wide_sum}
use Rattle.file_reports.specs.declared.sources.Source.{Source}
use Rattle.file_reports.specs.declared.sources.Source.TheVariants.{Controller as ControllerFile, Question as QuestionFile, Trace, Cert as CertFile}
use Rattle.verdict.proofs.ProblemLaws.{none_violates}
use Rattle.ccac_cli.proofs.HeadlineLaws.{checked_headline, headline_is_no_usage, names_asked}

-- what is meant by an answer to a command with these names, if its status is one of the three or that of usage
abbrev IsReport : Told → Command → List (List ℕ) → Answer → Type 0
IsReport folder command names a = (a.status ≤ 2) ⊎ (a.status ≡ 4) → Means folder command names a.status a.text

-- ---- a refusal has another status

refusal_reports : (folder : Told) (command : Command) (names : List (List ℕ)) (source : Source) (r : Refusal)
    → IsReport folder command names (refused source r)
unfolding refused
refusal_reports folder command names source r (inl low) = absurd (omega arith)
refusal_reports folder command names source r (inr four) = absurd (omega arith)

-- ---- a run on a path

verdict_reports : (folder : Told) (q t : List ℕ) (setting : NamesSetting folder q) (trace : NamesTrace folder t) (found : Admission)
    → admission setting.setting.path trace.run ≡ found → IsReport folder Admit (q ∷ t ∷ []) (verdict found)
unfolding verdict broken wide
verdict_reports folder q t setting trace Yes is low =
    admitted q t setting trace (path.admitted_law setting.setting.path trace.run setting.is.limits.path is)
verdict_reports folder q t setting trace (BrokenRule rule row flow) is low =
    not_admitted q t setting trace rule row flow (path.broken_law setting.setting.path trace.run rule row flow setting.is.limits.path is)
verdict_reports folder q t setting trace (WideRule stuck) is low =
    admit_wide q t setting trace stuck (path.wide_law setting.setting.path trace.run stuck setting.is.limits.path is)

trace_reports : (folder : Told) (q t bytes : List ℕ) (setting : NamesSetting folder q) (a : Answer) → IsFetched folder Trace t bytes
    → TraceAnswers setting.setting bytes a → IsReport folder Admit (q ∷ t ∷ []) a
trace_reports folder q t bytes setting _ fetched (admitting.trace_refused r is) low = refusal_reports folder Admit (q ∷ t ∷ []) Trace r low
trace_reports folder q t bytes setting _ fetched (admitting.examined shape r text) low =
    verdict_reports folder q t setting (record { bytes = bytes; fetched = fetched; shape = shape; run = r; is = text })
    (admission setting.setting.path r) refl low

admit_reports : (folder : Told) (q t question trace : List ℕ) (a : Answer) → IsFetched folder QuestionFile q question
    → IsFetched folder Trace t trace → AdmitAnswers question trace a → IsReport folder Admit (q ∷ t ∷ []) a
admit_reports folder q t question trace _ first second (admitting.question_refused r is) low = refusal_reports folder Admit (q ∷ t ∷ []) QuestionFile r low
admit_reports folder q t question trace _ first second (admitting.question_read s a is answers) low =
    trace_reports folder q t trace (record { bytes = question; fetched = first; setting = s; is = is }) a second answers low

-- ---- a run of a controller's flows

replay_reports : (folder : Told) (c q t : List ℕ) (asked : NamesQuestion folder c q) (trace : NamesTrace folder t) (found : Replayed)
    → replaying asked.asked.controller asked.question trace.run ≡ found → IsReport folder Replay (c ∷ q ∷ t ∷ []) (replay_verdict found)
unfolding replay_verdict broken wide
replay_reports folder c q t asked trace Violating is low =
    let law = violating_law asked.asked.controller asked.question trace.run asked.asked.is.limits asked.is.limits.setting_in is in
    violating c q t asked trace law.0 law.1
replay_reports folder c q t asked trace Keeps is low =
    let law = keeps_law asked.asked.controller asked.question trace.run asked.asked.is.limits asked.is.limits.setting_in is in
    keeps c q t asked trace law.0 law.1
replay_reports folder c q t asked trace (Broken rule row flow) is low =
    breaks c q t asked trace rule row flow
    (broken_law asked.asked.controller asked.question trace.run asked.asked.is.limits asked.is.limits.setting_in rule row flow is)
replay_reports folder c q t asked trace (Wide stuck) is low =
    replay_wide c q t asked trace stuck
    (wide_law asked.asked.controller asked.question trace.run asked.asked.is.limits asked.is.limits.setting_in stuck is)

run_reports : (folder : Told) (c q t bytes : List ℕ) (asked : NamesQuestion folder c q) (a : Answer) → IsFetched folder Trace t bytes
    → RunAnswers bytes asked.asked.controller asked.question a → IsReport folder Replay (c ∷ q ∷ t ∷ []) a
run_reports folder c q t bytes asked _ fetched (replays.trace_refused r is) low = refusal_reports folder Replay (c ∷ q ∷ t ∷ []) Trace r low
run_reports folder c q t bytes asked _ fetched (replays.replayed shape r text) low =
    replay_reports folder c q t asked (record { bytes = bytes; fetched = fetched; shape = shape; run = r; is = text })
    (replaying asked.asked.controller asked.question r) refl low

ask_refusal_reports : (folder : Told) (command : Command) (names : List (List ℕ)) (controller question : List ℕ) (a : Answer)
    → AskRefused controller question a → IsReport folder command names a
ask_refusal_reports folder command names controller question _ (asking.controller_refused r is) low =
    refusal_reports folder command names ControllerFile r low
ask_refusal_reports folder command names controller question _ (asking.question_refused syntax d r spelled is) low =
    refusal_reports folder command names QuestionFile r low

replayed_reports : (folder : Told) (c q t controller question trace : List ℕ) (a : Answer) → IsFetched folder ControllerFile c controller
    → IsFetched folder QuestionFile q question → IsFetched folder Trace t trace → ReplayAnswers controller question trace a
    → IsReport folder Replay (c ∷ q ∷ t ∷ []) a
replayed_reports folder c q t controller question trace a first second third (asking.ask_refused is) low =
    ask_refusal_reports folder Replay (c ∷ q ∷ t ∷ []) controller question a is low
replayed_reports folder c q t controller question trace a first second third (asking.asked d p are answers) low =
    run_reports folder c q t trace (names_asked folder c q controller question d p first second are) a third answers low

-- ---- a certificate

check_reports : (folder : Told) (c q k : List ℕ) (posed : Poses folder c q) (cert : NamesCert folder k) (found : Checked)
    → checks.verdict posed.problem cert.cert ≡ found → IsReport folder Audit (c ∷ q ∷ k ∷ []) (check_report found)
unfolding check_report unproved wide_sum
check_reports folder c q k posed cert checks.proved is low =
    let law = each_has_a_verdict posed.problem cert.cert in
    proved c q k posed cert (law.proves.0 is).0
    (none_violates posed.asked.asked.controller posed.asked.question posed.problem posed.asked.asked.is.limits posed.asked.is.limits posed.is cert.cert is)
check_reports folder c q k posed cert (checks.fails lemma node cause) is low =
    let law = each_has_a_verdict posed.problem cert.cert in fails c q k posed cert lemma node cause ((law.failed lemma node cause).0 is)
check_reports folder c q k posed cert (checks.wide lemma node column) is low =
    let law = each_has_a_verdict posed.problem cert.cert in audit_wide c q k posed cert lemma node column ((law.overflowed lemma node column).0 is)

limit_reports : (folder : Told) (command : Command) (names : List (List ℕ)) (what : What) (limit : ℕ)
    → IsReport folder command names (too_large what limit)
unfolding too_large
limit_reports folder command names what limit (inl low) = absurd (omega arith)
limit_reports folder command names what limit (inr four) = absurd (omega arith)

cert_reports : (folder : Told) (c q k bytes : List ℕ) (posed : Poses folder c q) (a : Answer) → IsFetched folder CertFile k bytes
    → CertAnswers posed.problem bytes a → IsReport folder Audit (c ∷ q ∷ k ∷ []) a
cert_reports folder c q k bytes posed _ fetched (audits.cert_refused r is) low = refusal_reports folder Audit (c ∷ q ∷ k ∷ []) CertFile r low
cert_reports folder c q k bytes posed _ fetched (audits.checked cert text) low =
    check_reports folder c q k posed (record { bytes = bytes; fetched = fetched; cert = cert; is = text }) (checks.verdict posed.problem cert) refl low

problem_reports : (folder : Told) (c q k bytes : List ℕ) (asked : NamesQuestion folder c q) (a : Answer) → IsFetched folder CertFile k bytes
    → ProblemAnswers bytes asked.asked.controller asked.question a → IsReport folder Audit (c ∷ q ∷ k ∷ []) a
problem_reports folder c q k bytes asked _ fetched (audits.large what is) low = limit_reports folder Audit (c ∷ q ∷ k ∷ []) what (limit_of what) low
problem_reports folder c q k bytes asked _ fetched (audits.unrolled problem a is answers) low =
    cert_reports folder c q k bytes (record { asked = asked; problem = problem; is = is }) a fetched answers low

audited_reports : (folder : Told) (c q k controller question cert : List ℕ) (a : Answer) → IsFetched folder ControllerFile c controller
    → IsFetched folder QuestionFile q question → IsFetched folder CertFile k cert → AuditAnswers controller question cert a
    → IsReport folder Audit (c ∷ q ∷ k ∷ []) a
audited_reports folder c q k controller question cert a first second third (asking.ask_refused is) low =
    ask_refusal_reports folder Audit (c ∷ q ∷ k ∷ []) controller question a is low
audited_reports folder c q k controller question cert a first second third (asking.asked d p are answers) low =
    problem_reports folder c q k cert (names_asked folder c q controller question d p first second are) a third answers low

-- ---- a question that is decided

headline_reports : (old new : Told) (c q : List ℕ) (a : Answer) → Headline old new c q a → IsReport old Check (c ∷ q ∷ []) a
headline_reports old new c q a is (inl low) = checked c q new a low is
headline_reports old new c q a is (inr four) = absurd (headline_is_no_usage old new c q a is four)

-- ---- canonical texts

format_reports : (folder : Told) (c controller : List ℕ) (a : Answer) → IsFetched folder ControllerFile c controller → FormatAnswers controller a
    → IsReport folder Format (c ∷ []) a
format_reports folder c controller _ fetched (formats.controller_refused r is) low = refusal_reports folder Format (c ∷ []) ControllerFile r low
format_reports folder c controller _ fetched (formats.controller_put syntax d is) low =
    controller_put c (record { bytes = controller; fetched = fetched; syntax = syntax; controller = d; is = is })

put_reports : (folder : Told) (c q : List ℕ) (named : NamesQuestion folder c q) (a : Answer)
    → a ≡ formatted (question_text named.asked.controller named.question) → IsReport folder Format (c ∷ q ∷ []) a
put_reports folder c q named a is low =
    subst (λ (b : Answer). Means folder Format (c ∷ q ∷ []) b.status b.text) (sym is) (question_put c q named)

question_reports : (folder : Told) (c q controller question : List ℕ) (a : Answer) → IsFetched folder ControllerFile c controller
    → IsFetched folder QuestionFile q question → QuestionFormat controller question a → IsReport folder Format (c ∷ q ∷ []) a
question_reports folder c q controller question a first second (asking.ask_refused is) low =
    ask_refusal_reports folder Format (c ∷ q ∷ []) controller question a is low
question_reports folder c q controller question a first second (asking.asked d p are is) low =
    put_reports folder c q (names_asked folder c q controller question d p first second are) a is low

-- ---- commands, orders, and the words

-- what is answered to the bytes of a command's files
command_reports : (old new : Told) (command : Command) (names texts : List (List ℕ)) (a : Answer) → AreFetched old (entry_of command).files names texts
    → answers_of command texts a → IsReport old command names a
command_reports old new Check names texts a =
    two_files old a (λ ns. IsReport old Check ns a) ControllerFile QuestionFile names texts CheckAnswers
    (λ c q controller question first second is. headline_reports old new c q a (checked_headline old new c q controller question a first second is))
command_reports old new Audit names texts a =
    three_files old a (λ ns. IsReport old Audit ns a) ControllerFile QuestionFile names texts CertFile AuditAnswers
    (λ c q k controller question cert first second third is. audited_reports old c q k controller question cert a first second third is)
command_reports old new Replay names texts a =
    three_files old a (λ ns. IsReport old Replay ns a) ControllerFile QuestionFile names texts Trace ReplayAnswers
    (λ c q t controller question trace first second third is. replayed_reports old c q t controller question trace a first second third is)
command_reports old new Admit names texts a =
    two_files old a (λ ns. IsReport old Admit ns a) QuestionFile Trace names texts AdmitAnswers
    (λ q t question trace first second is. admit_reports old q t question trace a first second is)
command_reports old new Format names texts a =
    one_or_two_files old a (λ ns. IsReport old Format ns a) ControllerFile QuestionFile names texts FormatAnswers QuestionFormat
    (λ c controller first is. format_reports old c controller a first is)
    (λ c q controller question first second is. question_reports old c q controller question a first second is)

-- an answer with such a status is none with which a fetch ends a command
no_fetch_ends : (old new : Told) (a : Answer) → (a.status ≤ 2) ⊎ (a.status ≡ 4) → (source : Source) (name : List ℕ)
    → FetchEnds old new source name a → ⊥
no_fetch_ends old new a (inl low) source name ends = let high = (ends_high old new source name a ends).0 in omega arith
no_fetch_ends old new a (inr four) source name ends = (ends_high old new source name a ends).1 four

order_reports : (old new : Told) (order : Order) (a : Answer) → OrderAnswers old new order a → IsReport old order.command order.names a
order_reports old new order a answers low =
    let are = all_answered old new (entry_of order.command).files order.names (answers_of order.command) a (no_fetch_ends old new a low) answers in
    command_reports old new order.command order.names are.texts a are.fetched are.answers low

-- what has a meaning has one of the three statuses
low_status : (folder : Told) (command : Command) (names : List (List ℕ)) (status : ℕ) (text : List ℕ) → Means folder command names status text
    → status ≤ 2
low_status folder _ _ _ _ (admitted q t setting trace is) = omega arith
low_status folder _ _ _ _ (not_admitted q t setting trace rule row flow is) = omega arith
low_status folder _ _ _ _ (admit_wide q t setting trace stuck is) = omega arith
low_status folder _ _ _ _ (violating c q t asked trace is violates) = omega arith
low_status folder _ _ _ _ (keeps c q t asked trace is violates_not) = omega arith
low_status folder _ _ _ _ (breaks c q t asked trace rule row flow is) = omega arith
low_status folder _ _ _ _ (replay_wide c q t asked trace stuck is) = omega arith
low_status folder _ _ _ _ (proved c q k posed cert proves none) = omega arith
low_status folder _ _ _ _ (fails c q k posed cert lemma node cause is) = omega arith
low_status folder _ _ _ _ (audit_wide c q k posed cert lemma node column is) = omega arith
low_status folder _ _ _ _ (checked c q later a low is) = low
low_status folder _ _ _ _ (controller_put c named) = omega arith
low_status folder _ _ _ _ (question_put c q named) = omega arith

-- no order is answered with the status of usage
pub four_is_usage : (old new : Told) (order : Order) (a : Answer) → OrderAnswers old new order a → a.status ≡ 4 → ⊥
four_is_usage old new order a answers four =
    let low = low_status old order.command order.names a.status a.text (order_reports old new order a answers (inr four)) in omega arith

answer_meant : (old new : Told) (words : Option Order) (before after : Got) (a : Answer) → Answers old new words a
    → Appends before.text after.text a.text → a.status ≤ 2 → IsMeant old words before after a.status
unfolding usage
answer_meant old new None before after a is put low = let four : a.status ≡ 4 = ap (λ (b : Answer). b.status) is in absurd (omega arith)
answer_meant old new (Some order) before after a is put low = record {
  order = order;
  ordered = refl;
  text = a.text;
  put = put;
  means = order_reports old new order a is (inl low);
}

pub status_meant : (old new : Told) (words : Option Order) (before after : Got) (status : ℕ) → Ends (Answers old new words) before after status
    → status ≤ 2 → IsMeant old words before after status
status_meant old new words before after _ (whole a allowed put) low = answer_meant old new words before after a allowed put low
status_meant old new words before after _ (cut_short rose part) low = absurd (omega arith)
status_meant old new words before after _ (no_memory put) low = absurd (omega arith)
status_meant old new words before after _ (no_memory_left part) low = absurd (omega arith)
