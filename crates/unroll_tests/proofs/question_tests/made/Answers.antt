use Rattle.unroll_tests.proofs.ExampleShapes.{is_shape}
use Rattle.unroll_tests.proofs.question_tests.made.Goals as goal

pub question_formulas-requires : goal.question_formulas-requires
question_formulas-requires c = is_shape c.in_ok-question.question c.in_ok-question.ensures
