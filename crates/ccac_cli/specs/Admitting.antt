-- What is answered to a question and a trace: the question's refusal, then the trace's, then the path's verdict on the run.
use Rattle.std.specs.Prelude.{ℕ, List}
use Rattle.whole.specs.declared.answers.Refusal.{Refusal}
use Rattle.run_rows.specs.declared.shapes.Shape.{Shape}
use Rattle.run_rows.specs.declared.rows.Run.{Run}
use Rattle.path_server.specs.Places.{admission}
use Rattle.path_server.specs.declared.settings.Setting.{Setting}
use Rattle.trace_text.specs.Script.{IsRefused}
use Rattle.trace_text.specs.Spelling.{IsTraceText}
use Rattle.question_syntax.specs.Refused as question
use Rattle.file_reports.specs.Reports.{Answer, refused}
use Rattle.ccac_cli.specs.Reports.{verdict}
use Rattle.ccac_cli.specs.Saved.{behind_verdict}
use Rattle.ccac_cli.specs.Texts.{IsSettingText}
use Rattle.file_reports.specs.declared.sources.Source.TheVariants.{Question, Trace}

-- the one answer to a trace, on the path of a setting
pub data TraceAnswers (s : Setting) (trace : List ℕ) : Answer → Type 0 where
  trace_refused : (r : Refusal) → IsRefused (behind_verdict trace) r → TraceAnswers s trace (refused Trace r)
  examined : (shape : Shape) (r : Run) → IsTraceText (behind_verdict trace) shape r → TraceAnswers s trace (verdict (admission s.path r))

-- the one answer to these bytes: the question is read first
pub data AdmitAnswers (bytes trace : List ℕ) : Answer → Type 0 where
  question_refused : (r : Refusal) → question.IsRefused bytes r → AdmitAnswers bytes trace (refused Question r)
  question_read : (s : Setting) (a : Answer) → IsSettingText bytes s → TraceAnswers s trace a → AdmitAnswers bytes trace a
