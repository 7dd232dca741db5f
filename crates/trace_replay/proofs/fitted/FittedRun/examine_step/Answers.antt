use Rattle.std.proofs.Common.{◌∙◌, ap, sym, Err}
use Rattle.trace_replay.proofs.ReplayOrder.{arrival_found, send_wide_found, state_found, step_wide_found, yes_found}
use Rattle.trace_replay.proofs.fitted.FittedRun.examine_step.Goals as goal

pub returns-in-Yes : goal.returns-in-Yes
returns-in-Yes c =
    let one = yes_found c.args.self.controller.now c.args.self.question.now c.args.self.run.now c.args.row c.args.flow c.in-Yes.rule
    (sym c.step_holds.ensures.exact ∙ c.in-Yes.is) in
    (one.states, one.arrives)

pub returns-in-State : goal.returns-in-State
returns-in-State c =
    state_found c.args.self.controller.now c.args.self.question.now c.args.self.run.now c.args.row c.args.flow _ (sym c.step_holds.ensures.exact ∙ c.in-State.is)
    ∙ ap Err (sym c.broken.ensures)

pub returns-in-Arrival : goal.returns-in-Arrival
returns-in-Arrival c =
    let one = arrival_found c.args.self.controller.now c.args.self.question.now c.args.self.run.now c.args.row c.args.flow
    (sym c.step_holds.ensures.exact ∙ c.in-Arrival.is) in
    (one.states, ap Err c.broken-in-Arrival.ensures ∙ one.arrives)

pub returns-in-StepWide : goal.returns-in-StepWide
returns-in-StepWide c =
    step_wide_found c.args.self.controller.now c.args.self.question.now c.args.self.run.now c.args.row c.args.flow _ (sym c.step_holds.ensures.exact ∙ c.in-StepWide.is)

pub returns-in-SendWide : goal.returns-in-SendWide
returns-in-SendWide c =
    let one = send_wide_found c.args.self.controller.now c.args.self.question.now c.args.self.run.now c.args.row c.args.flow _
    (sym c.step_holds.ensures.exact ∙ c.in-SendWide.is) in
    (one.states, one.arrives)
