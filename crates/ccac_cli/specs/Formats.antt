-- What is answered to a controller, or a controller and a question, that are to be put canonically.
use Rattle.std.specs.Prelude.{◌≡◌, ℕ, List}
use Rattle.whole.specs.declared.answers.Refusal.{Refusal}
use Rattle.ctrl_syntax.specs.Printed as controllers
use Rattle.ctrl_syntax.specs.Sections.{sections_of}
use Rattle.ctrl_syntax.specs.declared.syntax.Syntax.{Syntax}
use Rattle.ctrl_types.specs.declared.controllers.Controller.{Controller}
use Rattle.question_syntax.specs.Printed as questions
use Rattle.question_text.specs.StatementRules.{question_seen}
use Rattle.question_text.specs.Texts.{sections_written}
use Rattle.question_text.specs.declared.questions.Question.{Question}
use Rattle.ccac_cli.specs.AskAnswers.{Asks}
use Rattle.file_reports.specs.Reports.{Answer, refused}
use Rattle.asked.specs.Texts.{IsControllerRefused, IsControllerText}
use Rattle.file_reports.specs.declared.sources.Source.TheVariants.{Controller as ControllerFile}

-- a text that is put whole
abbrev pub formatted : List ℕ → Answer
formatted text = record { status = 0; text = text }

abbrev pub controller_text : Syntax → List ℕ
controller_text syntax = controllers.printed (sections_of syntax)

abbrev pub question_text : Controller → Question → List ℕ
question_text c q = questions.printed (sections_written c.states (question_seen q))

-- the one answer to a controller
pub data FormatAnswers (controller : List ℕ) : Answer → Type 0 where
  controller_refused : (r : Refusal) → IsControllerRefused controller r → FormatAnswers controller (refused ControllerFile r)
  controller_put : (syntax : Syntax) (c : Controller) → IsControllerText controller syntax c → FormatAnswers controller (formatted (controller_text syntax))

-- the one answer to a controller and a question
abbrev pub QuestionFormat : List ℕ → List ℕ → Answer → Type 0
QuestionFormat controller question = Asks controller question (λ c q a. a ≡ formatted (question_text c q))
