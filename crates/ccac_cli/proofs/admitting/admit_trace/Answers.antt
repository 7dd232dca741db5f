use Rattle.std.proofs.Common.{◌≡◌, ◌∙◌, sym, subst, ap, ℕ, List, Err}
use Rattle.run_rows.specs.declared.shapes.Shape.{Shape}
use Rattle.run_rows.specs.declared.rows.Run.{Run}
use Rattle.path_server.specs.Places.{admission}
use Rattle.path_server.specs.declared.admission.Admit.{Admit}
use Rattle.path_server.specs.declared.settings.Setting.{Setting}
use Rattle.trace_text.specs.Script.{IsRefused}
use Rattle.trace_text.specs.Spelling.{IsTraceText}
use Rattle.ccac_cli.specs.Admitting.{TraceAnswers, examined, trace_refused}
use Rattle.file_reports.specs.Reports.{Answer}
use Rattle.ccac_cli.specs.Reports.{verdict}
use Rattle.ccac_cli.specs.Saved.{behind_verdict}
use Rattle.file_reports.specs.declared.sources.Source.TheVariants.{Trace}
use Rattle.file_reports.proofs.HaltLaws.{refusal_halts}
use Rattle.ccac_cli.proofs.admitting.admit_trace.Goals as goal

shows_verdict : (s : Setting) (trace : List ℕ) (shape : Shape) (r : Run) (found : Admit) (answer : Answer) → IsTraceText (behind_verdict trace) shape r
    → answer ≡ verdict found → found ≡ admission s.path r → TraceAnswers s trace answer
shows_verdict s trace shape r found answer spelled shows is =
    subst (TraceAnswers s trace) (sym (shows ∙ ap verdict is)) (examined shape r spelled)

pub returns-in_ok-admit_report-in-Ok : goal.returns-in_ok-admit_report-in-Ok
returns-in_ok-admit_report-in-Ok c =
    shows_verdict c.args.setting.now c.args.trace.now c.in-Ok._shape c.in-Ok.run' _ _
    (subst (λ bytes. IsTraceText bytes c.in-Ok._shape c.in-Ok.run') c.behind_verdict.ensures.exact c.in-Ok.ensures.found)
    c.in_ok-admit_report-in-Ok.ensures c.admits.ensures.exact

pub returns-in-Err : goal.returns-in-Err
returns-in-Err c =
    refusal_halts (TraceAnswers c.args.setting.now c.args.trace.now) Trace c.in-Err.fault c.halted.result c.halted.ensures
    (λ r is. trace_refused r (subst (λ bytes. IsRefused bytes r) c.behind_verdict.ensures.exact (c.in-Err.ensures.refused r (ap Err is))))
