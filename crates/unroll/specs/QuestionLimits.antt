-- What the builders of a question's formulas need of the shape and of what is named.
use Rattle.std.specs.Prelude.{◌≤◌, All, length}
use Rattle.run_rows.specs.declared.shapes.Shape.{Shape}
use Rattle.weighing.specs.Scaled.{IsNum}
use Rattle.question_text.specs.Conditions.{Condition, EachComparison}
use Rattle.question_text.specs.Expressions.{scale_of_two}
use Rattle.question_text.proofs.Columns.{HasOf}
use Rattle.question_text.specs.declared.names.Rows.{Rows}
use Rattle.question_text.specs.declared.conditions.QLin.{QLin}
use Rattle.question_text.specs.declared.conditions.QTerm.{QTerm}

pub record CanTake (s : Shape) (at : Rows) (t : QTerm) : Type 0 where
  pub coef_in : IsNum t.coef
  pub of_in : HasOf s at t.of

-- 16 terms, and one more where one is a constant
pub record CanAdd (s : Shape) (at : Rows) (lin : QLin) : Type 0 where
  pub terms_to : length lin.terms ≤ 17
  pub terms_in : All (CanTake s at) lin.terms

pub record CanCompare (s : Shape) (at : Rows) (left right : QLin) : Type 0 where
  pub left_in : CanAdd s at left
  pub right_in : CanAdd s at right
  pub scale_to : scale_of_two left right ≤ 1000000

abbrev pub CanBuild : Shape → Rows → Condition → Type 0
CanBuild s at c = EachComparison (CanCompare s at) c
