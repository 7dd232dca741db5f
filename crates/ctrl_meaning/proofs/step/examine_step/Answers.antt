use Rattle.std.proofs.Common.{◌∙◌, sym}
use Rattle.ctrl_meaning.specs.Steps.{stepping}
use Rattle.ctrl_meaning.proofs.Readiness.{can_send, can_step}
use Rattle.ctrl_meaning.proofs.Questions.{fired_within}
use Rattle.ctrl_meaning.proofs.step.examine_step.Goals as goal

pub fired-requires : goal.fired-requires
fired-requires c =
    can_step c.args.controller.now c.args.setting.now c.args.run.now c.args.row c.args.flow c.requires.controller_in c.requires.setting_in
    c.requires.run_in c.requires.row_in c.requires.flow_from c.requires.flow_to

pub differing-requires-clause-can : goal.differing-requires-clause-can
differing-requires-clause-can c =
    can_step c.args.controller.now c.args.setting.now c.args.run.now c.args.row c.args.flow c.requires.controller_in c.requires.setting_in
    c.requires.run_in c.requires.row_in c.requires.flow_from c.requires.flow_to

pub differing-requires-clause-rule_in : goal.differing-requires-clause-rule_in
differing-requires-clause-rule_in c =
    fired_within c.args.controller.now c.args.run.now (stepping c.args.setting.now c.args.row c.args.flow) c.in-Ok.rule
    c.requires.controller_in.rules_from (sym c.fired.ensures ∙ c.in-Ok.is)

pub sent-requires : goal.sent-requires
sent-requires c =
    can_send c.args.controller.now c.args.setting.now c.args.run.now c.args.row c.args.flow c.requires.controller_in c.requires.setting_in
    c.requires.run_in c.requires.row_in c.requires.flow_from c.requires.flow_to
