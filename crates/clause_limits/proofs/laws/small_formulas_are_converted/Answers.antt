use Rattle.clause_limits.proofs.Converting.{few_are_converted}
use Rattle.clause_limits.proofs.laws.small_formulas_are_converted.Goals as goal

pub returns : goal.returns
returns c = few_are_converted
