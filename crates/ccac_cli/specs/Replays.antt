-- What is answered to a controller, a question and a trace: the first that is refused, in this order; then what comes of
-- replaying the run.
use Rattle.std.specs.Prelude.{ℕ, List}
use Rattle.whole.specs.declared.answers.Refusal.{Refusal}
use Rattle.run_rows.specs.declared.shapes.Shape.{Shape}
use Rattle.run_rows.specs.declared.rows.Run.{Run}
use Rattle.ctrl_types.specs.declared.controllers.Controller.{Controller}
use Rattle.question_text.specs.declared.questions.Question.{Question}
use Rattle.trace_text.specs.Script.{IsRefused}
use Rattle.trace_text.specs.Spelling.{IsTraceText}
use Rattle.trace_replay.specs.Replaying.{replaying}
use Rattle.ccac_cli.specs.AskAnswers.{Asks}
use Rattle.file_reports.specs.Reports.{Answer, refused}
use Rattle.ccac_cli.specs.Reports.{replay_verdict}
use Rattle.ccac_cli.specs.Saved.{behind_verdict}
use Rattle.file_reports.specs.declared.sources.Source.TheVariants.{Trace}

-- the one answer to a trace, where a controller is asked a question
pub data RunAnswers (trace : List ℕ) (c : Controller) (q : Question) : Answer → Type 0 where
  trace_refused : (r : Refusal) → IsRefused (behind_verdict trace) r → RunAnswers trace c q (refused Trace r)
  replayed : (shape : Shape) (r : Run) → IsTraceText (behind_verdict trace) shape r → RunAnswers trace c q (replay_verdict (replaying c q r))

-- the one answer to these bytes
abbrev pub ReplayAnswers : List ℕ → List ℕ → List ℕ → Answer → Type 0
ReplayAnswers controller question trace = Asks controller question (RunAnswers trace)
