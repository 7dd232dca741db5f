use Rattle.std.proofs.Common.{◌≡◌, ap, ℕ, List, Err}
use Rattle.path_server.specs.Limits.{IsSetting}
use Rattle.path_server.specs.declared.settings.Setting.{Setting}
use Rattle.question_syntax.specs.Grammar.{IsText}
use Rattle.question_syntax.specs.Sections.{Sections}
use Rattle.ccac_cli.specs.Admitting.{AdmitAnswers, TraceAnswers, question_read, question_refused}
use Rattle.file_reports.specs.Reports.{Answer}
use Rattle.file_reports.specs.declared.sources.Source.TheVariants.{Question}
use Rattle.file_reports.proofs.HaltLaws.{refusal_halts, replies_so}
use Rattle.ccac_cli.proofs.admitting.admit.Goals as goal

on_setting : (bytes trace : List ℕ) (s : Setting) (answer : Answer) → (sections : Sections) × (IsText bytes sections × (sections.setting ≡ s))
    → IsSetting s → TraceAnswers s trace answer → AdmitAnswers bytes trace answer
on_setting bytes trace s answer (sections, (spelled, is)) limits answers =
    question_read s answer (record { sections = sections; spelled = spelled; setting_is = is; limits = limits }) answers

pub returns-in-Ok : goal.returns-in-Ok
returns-in-Ok c =
    replies_so (TraceAnswers c.in-Ok.setting c.args.trace.now) (AdmitAnswers c.args.question.now c.args.trace.now) c.admit_trace.result
    (λ answer answers. on_setting c.args.question.now c.args.trace.now c.in-Ok.setting answer c.in-Ok.ensures.found c.in-Ok.ensures.limits answers)
    c.admit_trace.ensures

pub returns-in-Err : goal.returns-in-Err
returns-in-Err c =
    refusal_halts (AdmitAnswers c.args.question.now c.args.trace.now) Question c.in-Err.fault c.halted.result c.halted.ensures
    (λ r is. question_refused r (c.in-Err.ensures.refused r (ap Err is)))
