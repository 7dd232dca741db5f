-- What is answered to a controller and a question about it: commands read them in this order, and the first that is refused ends
-- the command.
use Rattle.std.specs.Prelude.{ℕ, List}
use Rattle.whole.specs.declared.answers.Refusal.{Refusal}
use Rattle.ctrl_syntax.specs.declared.syntax.Syntax.{Syntax}
use Rattle.ctrl_types.specs.declared.controllers.Controller.{Controller}
use Rattle.question_text.specs.Texts.{IsRefused}
use Rattle.question_text.specs.declared.questions.Question.{Question}
use Rattle.asked.specs.Asked.{AreAsked}
use Rattle.asked.specs.Texts.{IsControllerRefused, IsControllerText}
use Rattle.file_reports.specs.Reports.{Answer, refused}
use Rattle.file_reports.specs.declared.sources.Source.TheVariants.{Controller as ControllerFile, Question as QuestionFile}

-- the refusal of the two texts that comes first
pub data AskRefused (controller question : List ℕ) : Answer → Type 0 where
  controller_refused : (r : Refusal) → IsControllerRefused controller r → AskRefused controller question (refused ControllerFile r)
  question_refused : (syntax : Syntax) (c : Controller) (r : Refusal) → IsControllerText controller syntax c → IsRefused c question r
      → AskRefused controller question (refused QuestionFile r)

-- what is answered to the two texts: the first refusal, or what is then answered to what they mean
pub data Asks (controller question : List ℕ) (Then : Controller → Question → Answer → Type 0) (a : Answer) : Type 0 where
  ask_refused : AskRefused controller question a → Asks controller question Then a
  asked : (c : Controller) (q : Question) → AreAsked controller question c q → Then c q a → Asks controller question Then a
