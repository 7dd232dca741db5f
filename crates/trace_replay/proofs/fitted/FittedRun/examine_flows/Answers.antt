use Rattle.std.proofs.Common.{◌∙◌, ap, sym, arith}
use Rattle.weighing.specs.First.{first}
use Rattle.trace_replay.specs.Replaying.{found}
use Rattle.trace_replay.proofs.PlaceLaws.{after_opening, before_opening, on_opening}
use Rattle.trace_replay.proofs.fitted.FittedRun.examine_flows.Goals as goal

pub returns-then-row-self : goal.returns-then-row-self
returns-then-row-self c =
    sym (ap (first (found c.args.self.controller.now c.args.self.question.now c.args.self.run.now))
    (before_opening c.args.self.opening c.args.self.question.now.setting.flows c.args.row
    c.if-row-self.true))

pub returns-then-row-self-2 : goal.returns-then-row-self-2
returns-then-row-self-2 c =
    c.examine_openings.ensures
    ∙ sym (ap (first (found c.args.self.controller.now c.args.self.question.now c.args.self.run.now))
    (on_opening c.args.self.opening c.args.self.question.now.setting.flows c.args.row
    c.if-row-self-2.true))

pub returns : goal.returns
returns c =
    c.examine_steps.ensures
    ∙ sym (ap (first (found c.args.self.controller.now c.args.self.question.now c.args.self.run.now))
    (after_opening c.args.self.opening c.args.self.question.now.setting.flows c.args.row
    (omega (arith, c.if-row-self.false, c.if-row-self-2.false))))
