-- What is asked of texts that readers accept.
use Rattle.std.specs.Prelude.{ℕ, List}
use Rattle.ctrl_syntax.specs.Grammar.{IsText}
use Rattle.ctrl_syntax.specs.Sections.{Sections}
use Rattle.ctrl_types.specs.Statements.{IsUnbroken}
use Rattle.ctrl_types.specs.declared.controllers.Controller.{Controller}
use Rattle.question_text.specs.StatementRules.{SeenQuestion}
use Rattle.question_text.specs.Texts.{IsTextOf}

-- the bytes spell a controller, none of whose statements breaks a rule
pub record IsControllerAccepted (bytes : List ℕ) : Type 0 where
  pub sections : Sections
  pub spelled : IsText bytes sections
  pub unbroken : IsUnbroken sections

-- the bytes are the text of a question about the controller
pub record IsQuestionAccepted (c : Controller) (bytes : List ℕ) : Type 0 where
  pub question : SeenQuestion
  pub text : IsTextOf c bytes question
