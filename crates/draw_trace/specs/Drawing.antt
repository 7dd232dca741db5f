-- What is answered to the texts of a question and a trace: the first of them that is refused; or the picture of the run on the
-- question's path, or that its numbers are too wide to be drawn.
use Rattle.std.specs.Prelude.{◌≡◌, ℕ, List}
use Rattle.whole.specs.declared.answers.Refusal.{Refusal}
use Rattle.run_rows.specs.declared.shapes.Shape.{Shape}
use Rattle.run_rows.specs.declared.rows.Run.{Run}
use Rattle.path_server.specs.declared.settings.Setting.{Setting}
use Rattle.question_syntax.specs.Grammar.{IsText}
use Rattle.question_syntax.specs.Refused as question
use Rattle.question_syntax.specs.Sections.{Sections}
use Rattle.trace_text.specs.Script as trace
use Rattle.trace_text.specs.Spelling.{IsTraceText}
use Rattle.trace_picture.specs.Panels.{IsPicture}
use Rattle.trace_picture.specs.declared.panels.Picture.{Picture}
use Rattle.picture_svg.specs.Documents.{document_text}
use Rattle.draw_trace.specs.Reports.{Answer, refused, too_wide}
use Rattle.draw_trace.specs.Saved.{behind_verdict}
use Rattle.draw_trace.specs.declared.reports.Source.TheVariants.{Question, Trace}

-- the answer to a run: its picture, or that its numbers are too wide
pub data RunAnswers (s : Setting) (shape : Shape) (r : Run) (a : Answer) : Type 0 where
  drawn : (picture : Picture) → IsPicture s.path shape r picture → a ≡ record { status = 0; text = document_text picture } → RunAnswers s shape r a
  wide : a ≡ too_wide → RunAnswers s shape r a

-- the answer to a trace, on the path of a setting
pub data TraceAnswers (s : Setting) (bytes : List ℕ) (a : Answer) : Type 0 where
  trace_refused : (r : Refusal) → trace.IsRefused (behind_verdict bytes) r → a ≡ refused Trace r → TraceAnswers s bytes a
  read : (shape : Shape) (r : Run) → IsTraceText (behind_verdict bytes) shape r → RunAnswers s shape r a → TraceAnswers s bytes a

-- the answer to these bytes: the question is read first
pub data Answers (bytes run : List ℕ) (a : Answer) : Type 0 where
  question_refused : (r : Refusal) → question.IsRefused bytes r → a ≡ refused Question r → Answers bytes run a
  question_read : (s : Sections) → IsText bytes s → TraceAnswers s.setting run a → Answers bytes run a
