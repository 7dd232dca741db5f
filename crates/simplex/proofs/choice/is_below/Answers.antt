use Rattle.simplex.proofs.CompareLaws.{below-not_same, below-not_above}
use Rattle.simplex.proofs.choice.is_below.Goals as goal

pub returns-in-Equal : goal.returns-in-Equal
returns-in-Equal g c = below-not_same _ _ c.in-Equal.ensures

pub returns-in-Greater : goal.returns-in-Greater
returns-in-Greater g c = below-not_above _ _ c.in-Greater.ensures
