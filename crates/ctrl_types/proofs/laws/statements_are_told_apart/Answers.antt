use Rattle.ctrl_types.proofs.FirstLaws.{first_broken_is_one, never_both}
use Rattle.ctrl_types.proofs.ResolveLaws.{either_statements, some_controller}
use Rattle.ctrl_types.proofs.SameController.{one_controller}
use Rattle.ctrl_types.proofs.laws.statements_are_told_apart.Goals as goal

pub returns-clause-one_refusal : goal.returns-clause-one_refusal
returns-clause-one_refusal c = first_broken_is_one

pub returns-clause-not_both : goal.returns-clause-not_both
returns-clause-not_both c = never_both

pub returns-clause-one_controller : goal.returns-clause-one_controller
returns-clause-one_controller c = one_controller

pub returns-clause-either : goal.returns-clause-either
returns-clause-either c = either_statements

pub returns-clause-some_controller : goal.returns-clause-some_controller
returns-clause-some_controller c = some_controller
