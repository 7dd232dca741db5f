use Rattle.condition_syntax.proofs.Exactness.{one_condition, one_condition_fault, no_condition, either_condition}
use Rattle.condition_syntax.proofs.LongestConditions.{longest_condition}
use Rattle.condition_syntax.proofs.laws.conditions_are_told_apart.Goals as goal

pub returns-clause-one_condition : goal.returns-clause-one_condition
returns-clause-one_condition c = one_condition

pub returns-clause-one_fault : goal.returns-clause-one_fault
returns-clause-one_fault c = one_condition_fault

pub returns-clause-not_both : goal.returns-clause-not_both
returns-clause-not_both c = no_condition

pub returns-clause-either : goal.returns-clause-either
returns-clause-either c = either_condition

pub returns-clause-longest : goal.returns-clause-longest
returns-clause-longest c = longest_condition
