-- The formulas of what a question asks, as they are made part by part.
use Rattle.std.specs.Prelude.{ℕ}
use Rattle.condition_tree.specs.Trees.{Tree}
use Rattle.claims.specs.Subjects.{Subject, of_arrivals, of_losses, of_service, part}
use Rattle.run_rows.specs.declared.shapes.Shape.{Shape}
use Rattle.linear_form.specs.declared.relations.Comparison.{Comparison}
use Rattle.question_text.specs.Claims.{CanUnroll, assumed_claim}
use Rattle.question_text.specs.declared.names.Rows.{Rows}
use Rattle.question_text.specs.declared.conditions.QCond.{QCond}
use Rattle.question_text.specs.declared.questions.Question.{Question}
use Rattle.unroll.specs.ClaimFormulas.{claim_formula}
use Rattle.unroll.specs.Shapes.{IsShapeOf}
use Rattle.unroll.specs.declared.name_sums.Count.{Count}
use Rattle.unroll.specs.declared.name_sums.Count.TheVariants.{Arrived, Served, Lost}

abbrev pub condition_tree : Shape → Rows → QCond → Tree Comparison
condition_tree s at c = claim_formula s (assumed_claim part s.flows at c)

-- what a flow has on a row
abbrev pub counted : Count → ℕ → ℕ → Subject
counted Arrived i f = of_arrivals i f
counted Served i f = of_service i f
counted Lost i f = of_losses i f

-- the shape is one that the question's setting gives, with every state that the question names
pub record IsShapeFor (q : Question) (shape : Shape) : Type 0 where
  pub in_shape : IsShapeOf q.setting shape
  pub question_in : CanUnroll in_shape.states q
