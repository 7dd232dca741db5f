use Rattle.std.proofs.Common.{◌≡◌, ap, subst, ℕ, List, Result, Ok, Err}
use Rattle.std.specs.Prelude.{IfOk}
use Rattle.whole.specs.declared.answers.NoMemory.{NoMemory}
use Rattle.run_rows.specs.declared.rows.Run.{Run}
use Rattle.run_rows.specs.declared.shapes.Shape.{Shape}
use Rattle.path_server.specs.declared.settings.Setting.{Setting}
use Rattle.trace_text.specs.Script.{IsRefused}
use Rattle.trace_text.specs.Spelling.{IsTraceText}
use Rattle.draw_trace.specs.Drawing.{RunAnswers, TraceAnswers, read, trace_refused}
use Rattle.draw_trace.specs.Saved.{behind_verdict}
use Rattle.draw_trace.specs.Shown.{shown}
use Rattle.draw_trace.specs.declared.reports.Report.{Report}
use Rattle.draw_trace.proofs.answering.on_setting.Goals as goal

of_run : (s : Setting) (bytes text : List ℕ) (shape : Shape) (r : Run) (result : Result Report NoMemory) → text ≡ behind_verdict bytes
    → IsTraceText text shape r → IfOk result (λ report. RunAnswers s shape r (shown report)) → IfOk result (λ report. TraceAnswers s bytes (shown report))
of_run s bytes text shape r (Ok report) same spelled answers = read shape r (subst (λ b. IsTraceText b shape r) same spelled) answers
of_run s bytes text shape r (Err fault) same spelled answers = tt

pub returns-in-Ok : goal.returns-in-Ok
returns-in-Ok c =
    of_run c.args.setting.now c.args.trace.now c.behind_verdict.result.now c.in-Ok.shape c.in-Ok.run' c.drawn.result c.behind_verdict.ensures.exact
    c.in-Ok.ensures.found c.drawn.ensures

pub returns-in_ok-refused-in-Err-Refused : goal.returns-in_ok-refused-in-Err-Refused
returns-in_ok-refused-in-Err-Refused c =
    let r = c.in-Err-Refused.refusal in
    trace_refused r (subst (λ bytes. IsRefused bytes r) c.behind_verdict.ensures.exact (c.in-Err-Refused.ensures.refused r (ap Err c.in-Err-Refused.field-0-is)))
    c.in_ok-refused-in-Err-Refused.ensures
