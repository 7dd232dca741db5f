use Rattle.question_text.proofs.KindLaws.{And_mixes, Or_mixes}
use Rattle.question_text.proofs.kinds.+kinds.Goals as goal

pub mixes-returns-in-And : goal.mixes-returns-in-And
mixes-returns-in-And t c = And_mixes c.args.states.now c.args.condition.now c.in-And.parts c.one_mixes.result c.in-And.is c.one_mixes.ensures

pub mixes-returns-in-Or : goal.mixes-returns-in-Or
mixes-returns-in-Or t c = Or_mixes c.args.states.now c.args.condition.now c.in-Or.parts c.one_mixes-in-Or.result c.in-Or.is c.one_mixes-in-Or.ensures
