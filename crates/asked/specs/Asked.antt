-- A controller and a question about it, as their two texts mean them, and why there may be none.
use Rattle.std.specs.Prelude.{◌≡◌, ℕ, List, length, Result, Ok, Err}
use Rattle.whole.specs.declared.answers.ReadFault.{ReadFault}
use Rattle.whole.specs.declared.answers.ReadFault.TheVariants as reading
use Rattle.whole.specs.declared.answers.Refusal.{Refusal}
use Rattle.ctrl_syntax.specs.declared.syntax.Syntax.{Syntax}
use Rattle.ctrl_types.specs.declared.controllers.Controller.{Controller}
use Rattle.question_text.specs.Limits.{IsQuestion}
use Rattle.question_text.specs.StatementRules.{question_seen}
use Rattle.question_text.specs.Texts.{IsRefused, IsTextOf}
use Rattle.question_text.specs.declared.questions.Question.{Question}
use Rattle.asked.specs.Texts.{IsControllerRefused, IsControllerText}
use Rattle.asked.specs.declared.asking.AskFault.{AskFault}
use Rattle.asked.specs.declared.asking.AskFault.TheVariants as fault

-- the bytes are the text of a question about this controller, which is within the limits
pub record IsAsked (c : Controller) (bytes : List ℕ) (q : Question) : Type 0 where
  pub spelled : IsTextOf c bytes (question_seen q)
  pub limits : IsQuestion (length c.states) q

-- the texts are of this controller and this question
pub record AreAsked (controller question : List ℕ) (c : Controller) (q : Question) : Type 0 where
  pub syntax : Syntax
  pub controller_is : IsControllerText controller syntax c
  pub question_is : IsAsked c question q

-- the first text is of a controller, for which the second one breaks this rule first
pub record IsQuestionRefused (controller question : List ℕ) (r : Refusal) : Type 0 where
  pub syntax : Syntax
  pub asked : Controller
  pub controller_is : IsControllerText controller syntax asked
  pub refused : IsRefused asked question r

-- the refusal that comes first, of the two texts, or no memory
abbrev pub AskFails : List ℕ → List ℕ → AskFault → Type 0
AskFails controller question (fault.Controller r) = IsControllerRefused controller r
AskFails controller question (fault.Question r) = IsQuestionRefused controller question r
AskFails controller question fault.NoMemory = Unit {0}

-- why the controller, or the question, wasn't read
abbrev pub of_controller : ReadFault → AskFault
of_controller (reading.Refused r) = fault.Controller r
of_controller reading.NoMemory = fault.NoMemory

abbrev pub of_question : ReadFault → AskFault
of_question (reading.Refused r) = fault.Question r
of_question reading.NoMemory = fault.NoMemory

-- this fault, unless memory runs out
abbrev pub FaultUnless : {X : Type 0} → AskFault → Result X AskFault → Type 0
FaultUnless wanted (Ok x) = ⊥
FaultUnless wanted (Err (fault.Controller r)) = fault.Controller r ≡ wanted
FaultUnless wanted (Err (fault.Question r)) = fault.Question r ≡ wanted
FaultUnless wanted (Err fault.NoMemory) = Unit {0}
