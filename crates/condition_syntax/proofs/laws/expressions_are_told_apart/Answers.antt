use Rattle.condition_syntax.proofs.Exactness.{one_expr, one_expr_fault, no_expr, either_expr}
use Rattle.condition_syntax.proofs.LongestExpressions.{longest_expr}
use Rattle.condition_syntax.proofs.laws.expressions_are_told_apart.Goals as goal

pub returns-clause-one_expr : goal.returns-clause-one_expr
returns-clause-one_expr c = one_expr

pub returns-clause-one_fault : goal.returns-clause-one_fault
returns-clause-one_fault c = one_expr_fault

pub returns-clause-not_both : goal.returns-clause-not_both
returns-clause-not_both c = no_expr

pub returns-clause-either : goal.returns-clause-either
returns-clause-either c = either_expr

pub returns-clause-longest : goal.returns-clause-longest
returns-clause-longest c = longest_expr
