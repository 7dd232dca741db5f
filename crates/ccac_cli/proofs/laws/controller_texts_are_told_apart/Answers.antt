use Rattle.asked.proofs.ControllerTexts.{either_controller, one_refusal, not_both}
use Rattle.ccac_cli.proofs.laws.controller_texts_are_told_apart.Goals as goal

pub returns-clause-one_refusal : goal.returns-clause-one_refusal
returns-clause-one_refusal c = one_refusal

pub returns-clause-not_both : goal.returns-clause-not_both
returns-clause-not_both c = not_both

pub returns-clause-either : goal.returns-clause-either
returns-clause-either c = either_controller
