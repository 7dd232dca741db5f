use Rattle.ctrl_types.proofs.DenominatorLaws.{is_least_common}
use Rattle.ctrl_types.proofs.KindLaws.{mixed_bound_again, mixed_bound_are, mixed_sides_again, mixed_sides_are}
use Rattle.ctrl_types.proofs.laws.kinds_and_denominators.Goals as goal

pub returns-clause-comparison : goal.returns-clause-comparison
returns-clause-comparison c states left right = (mixed_sides_are states left right, mixed_sides_again states left right)

pub returns-clause-bound : goal.returns-clause-bound
returns-clause-bound c states terms = (mixed_bound_are states terms, mixed_bound_again states terms)

pub returns-clause-denominators : goal.returns-clause-denominators
returns-clause-denominators c = is_least_common
