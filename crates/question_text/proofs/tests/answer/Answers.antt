use Rattle.std.proofs.Common.{refl}
use Rattle.question_text.proofs.ExampleLimits.{can_ask}
use Rattle.question_text.proofs.tests.answer.Goals as goal

pub violates-requires : goal.violates-requires
violates-requires c = can_ask c.in_ok-question.question _ c.in_ok-question.ensures (c.if-not-fits.ensures.0 refl)
