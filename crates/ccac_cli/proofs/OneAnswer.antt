-- The bytes of the files have one answer.
use Rattle.std.proofs.Common.{◌≡◌, ℕ, List, sym, ap, subst, ◌∙◌}
use Rattle.ccac_ports.specs.Ports.{Told}
use Rattle.run_rows.specs.declared.rows.Run.{Run}
use Rattle.path_server.specs.Places.{admission}
use Rattle.path_server.specs.declared.settings.Setting.{Setting}
use Rattle.ctrl_syntax.specs.Printed.{printed}
use Rattle.ctrl_syntax.specs.Sections.{Sections, sections_of}
use Rattle.ctrl_syntax.proofs.Exactness as controllers
use Rattle.question_syntax.proofs.Exactness as questions
use Rattle.trace_text.proofs.Exactness as traces
use Rattle.ccac_cli.specs.Admitting.{AdmitAnswers, TraceAnswers, trace_refused, examined, question_refused, question_read}
use Rattle.file_reports.specs.Had.{of_one_or_two, of_three, of_two}
use Rattle.file_reports.proofs.HadLaws.{told_fetched, told_once}
use Rattle.file_reports.proofs.TextLaws.{at_one_or_two, at_three, at_two}
use Rattle.ccac_cli.specs.Audits.{AuditAnswers}
use Rattle.ccac_cli.specs.Checks.{CheckAnswers, CheckRefusals}
use Rattle.ccac_cli.specs.Commands.{Order, answers_of, entry_of, one_answer_of}
use Rattle.ccac_cli.specs.Replays.{ReplayAnswers}
use Rattle.ccac_cli.specs.declared.commands.Command.{Command}
use Rattle.ccac_cli.specs.declared.commands.Command.TheVariants.{Admit, Audit, Check, Format, Replay}
use Rattle.ccac_cli.specs.Ended.{OrderAnswers, ToldAnswers}
use Rattle.ccac_cli.specs.Formats.{FormatAnswers, QuestionFormat, controller_refused, controller_put, formatted}
use Rattle.file_reports.specs.Reports.{Answer, refused}
use Rattle.ccac_cli.specs.Reports.{verdict}
use Rattle.ccac_cli.specs.Saved.{behind_verdict}
use Rattle.ccac_cli.specs.Texts.{IsSettingText}
use Rattle.file_reports.specs.declared.sources.Source.TheVariants.{Controller, Question, Trace}
use Rattle.asked.proofs.ControllerTexts.{one_refusal, not_both}
use Rattle.ccac_cli.proofs.OneAudit.{audited_once}
use Rattle.ccac_cli.proofs.OneCheck.{check_refused_so, checked_once}
use Rattle.ccac_cli.proofs.OneReplay.{question_formatted_once, replayed_once}

-- ---- a question and a trace

one_verdict : (s : Setting) (trace : List ℕ) (a b : Answer) → TraceAnswers s trace a → TraceAnswers s trace b → a ≡ b
one_verdict s trace _ _ (trace_refused r one) (trace_refused t two) = ap (refused Trace) (traces.one_refusal (behind_verdict trace) r t one two)
one_verdict s trace _ _ (trace_refused r one) (examined shape run two) = absurd (traces.not_both (behind_verdict trace) r shape run one two)
one_verdict s trace _ _ (examined shape run one) (trace_refused r two) = absurd (traces.not_both (behind_verdict trace) r shape run two one)
one_verdict s trace _ _ (examined shape run one) (examined other another two) =
    ap (λ (r : Run). verdict (admission s.path r)) (traces.one_trace (behind_verdict trace) shape run other another one two).1

one_setting : (bytes : List ℕ) (s t : Setting) → IsSettingText bytes s → IsSettingText bytes t → s ≡ t
one_setting bytes s t one two =
    sym one.setting_is ∙ ap (λ x. x.setting) (questions.one_text bytes one.sections two.sections one.spelled two.spelled) ∙ two.setting_is

pub admitted_once : (question trace : List ℕ) (a b : Answer) → AdmitAnswers question trace a → AdmitAnswers question trace b → a ≡ b
admitted_once question trace _ _ (question_refused r one) (question_refused t two) = ap (refused Question) (questions.one_refusal question r t one two)
admitted_once question trace _ _ (question_refused r one) (question_read s a two answers) = absurd (questions.not_both question r two.sections one two.spelled)
admitted_once question trace _ _ (question_read s a one answers) (question_refused r two) = absurd (questions.not_both question r one.sections two one.spelled)
admitted_once question trace _ _ (question_read s a one first) (question_read t b two second) =
    one_verdict t trace a b (subst (λ (x : Setting). TraceAnswers x trace a) (one_setting question s t one two) first) second

-- ---- a controller

pub formatted_once : (controller : List ℕ) (a b : Answer) → FormatAnswers controller a → FormatAnswers controller b → a ≡ b
formatted_once controller _ _ (controller_refused r one) (controller_refused t two) = ap (refused Controller) (one_refusal controller r t one two)
formatted_once controller _ _ (controller_refused r one) (controller_put syntax c two) = absurd (not_both controller syntax c r two one)
formatted_once controller _ _ (controller_put syntax c one) (controller_refused r two) = absurd (not_both controller syntax c r one two)
formatted_once controller _ _ (controller_put syntax c one) (controller_put other d two) =
    ap (λ (s : Sections). formatted (printed s)) (controllers.one_text controller (sections_of syntax) (sections_of other) one.spelled two.spelled)

-- ---- the texts of a command, and the files of an order

command_once : (command : Command) (texts : List (List ℕ)) (a b : Answer) → answers_of command texts a → one_answer_of command texts b → a ≡ b
command_once Check texts a b one =
    at_two CheckAnswers a (λ ts. of_two CheckRefusals ts b → a ≡ b)
    (λ controller question is other. checked_once controller question a b is other) texts one
command_once Audit texts a b one =
    at_three AuditAnswers a (λ ts. of_three AuditAnswers ts b → a ≡ b)
    (λ controller question cert is other. audited_once controller question cert a b is other) texts one
command_once Replay texts a b one =
    at_three ReplayAnswers a (λ ts. of_three ReplayAnswers ts b → a ≡ b)
    (λ controller question trace is other. replayed_once controller question trace a b is other) texts one
command_once Admit texts a b one =
    at_two AdmitAnswers a (λ ts. of_two AdmitAnswers ts b → a ≡ b) (λ question trace is other. admitted_once question trace a b is other) texts one
command_once Format texts a b one =
    at_one_or_two FormatAnswers QuestionFormat a (λ ts. of_one_or_two FormatAnswers QuestionFormat ts b → a ≡ b)
    (λ controller is other. formatted_once controller a b is other)
    (λ controller question is other. question_formatted_once controller question a b is other) texts one

-- the one answer is an answer
one_is_answer : (command : Command) (texts : List (List ℕ)) (a : Answer) → one_answer_of command texts a → answers_of command texts a
one_is_answer Check texts a is =
    at_two CheckRefusals a (λ ts. of_two CheckAnswers ts a) (λ controller question refuses. check_refused_so controller question a refuses) texts is
one_is_answer Audit texts a is = is
one_is_answer Replay texts a is = is
one_is_answer Admit texts a is = is
one_is_answer Format texts a is = is

pub order_once : (old new : Told) (order : Order) (a b : Answer) → OrderAnswers old new order a → ToldAnswers old new order b → a ≡ b
order_once old new order a b one two =
    told_once old new (entry_of order.command).files order.names (answers_of order.command) (one_answer_of order.command) a b
    (λ texts. command_once order.command texts a b) one two

pub answered_once : (old new : Told) (order : Order) (a b : Answer) → ToldAnswers old new order a → ToldAnswers old new order b → a ≡ b
answered_once old new order a b one two =
    order_once old new order a b
    (told_fetched old new (entry_of order.command).files order.names (one_answer_of order.command) (answers_of order.command) a
    (λ texts. one_is_answer order.command texts a) one)
    two
