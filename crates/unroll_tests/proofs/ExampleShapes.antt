-- The small controller and the small question by which the calls are tried, and the shapes of their runs.
use Rattle.std.proofs.Common.{◌≡◌, ◌∙◌, ap, refl, sym, subst, arith}
use Rattle.run_rows.specs.Columns.{rows_of}
use Rattle.run_rows.specs.declared.shapes.Shape.{Shape}
use Rattle.path_server.specs.declared.settings.Setting.{Setting}
use Rattle.ctrl_types.specs.declared.controllers.Controller.{Controller}
use Rattle.ctrl_meaning.specs.Example.{controller, setting}
use Rattle.question_text.specs.Example.{question}
use Rattle.question_text.specs.declared.questions.Question.{Question}
use Rattle.question_text.proofs.ExampleLimits.{question_in}
use Rattle.ctrl_meaning.specs.Flows.{shape_for}
use Rattle.unroll.specs.QuestionFormulas.{IsShapeFor}
use Rattle.unroll.proofs.QuestionReady.{question_can}

pub four_rows : (c : Controller) (s : Setting) → c ≡ controller → s ≡ setting → rows_of (shape_for c s) ≡ 4
four_rows c s one two = ap (λ d. rows_of (shape_for d s)) one ∙ ap (λ t. rows_of (shape_for controller t)) two

abbrev pub shape : Shape
shape = record { flows = 2; states = 1; h = 2; t = 1 }

pub is_shape : (q : Question) → q ≡ question → IsShapeFor q shape
is_shape q same =
    subst (λ e. IsShapeFor e shape) (sym same) (record {
      in_shape = record { states = 1; delay_max = 0; states_to = omega arith; delay_to = omega arith; is = refl };
      question_in = question_can 1 question question_in;
    })
