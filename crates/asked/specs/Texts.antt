-- The controllers that the bytes of files are the texts of, and why other bytes are refused.
use Rattle.std.specs.Prelude.{ℕ, List}
use Rattle.whole.specs.declared.answers.Refusal.{Refusal}
use Rattle.ctrl_syntax.specs.Grammar as controller_grammar
use Rattle.ctrl_syntax.specs.Refused as controller_refused
use Rattle.ctrl_syntax.specs.Sections.{Sections as ControllerSections, sections_of}
use Rattle.ctrl_syntax.specs.declared.syntax.Syntax.{Syntax}
use Rattle.ctrl_types.specs.Limits.{IsController}
use Rattle.ctrl_types.specs.Resolved.{Resolves, SeenResolves}
use Rattle.ctrl_types.specs.Resolving.{SeenController}
use Rattle.ctrl_types.specs.Statements.{IsFirstBroken, IsUnbroken}
use Rattle.ctrl_types.specs.declared.controllers.Controller.{Controller}

-- the bytes spell a controller's syntax whose statements break no rule and mean this controller
pub record IsControllerText (bytes : List ℕ) (syntax : Syntax) (c : Controller) : Type 0 where
  pub spelled : controller_grammar.IsText bytes (sections_of syntax)
  pub unbroken : IsUnbroken (sections_of syntax)
  pub resolved : Resolves (sections_of syntax) c
  pub limits : IsController c

-- the same of a controller whose guards are seen as trees
pub record MeansController (bytes : List ℕ) (c : SeenController) : Type 0 where
  pub sections : ControllerSections
  pub spelled : controller_grammar.IsText bytes sections
  pub unbroken : IsUnbroken sections
  pub resolved : SeenResolves sections c

-- the bytes spell no controller's syntax, by the first rule that they break; or a statement of what they spell breaks a rule
-- first
pub data IsControllerRefused (bytes : List ℕ) (r : Refusal) : Type 0 where
  unread : controller_refused.IsRefused bytes r → IsControllerRefused bytes r
  unresolved : (sections : ControllerSections) → controller_grammar.IsText bytes sections → IsFirstBroken sections r → IsControllerRefused bytes r
