use Rattle.std.proofs.Common.{◌+◌, sym, arith}
use Rattle.std.proofs.lemmas.Result.{err_from_is_err_and}
use Rattle.weighing.proofs.Events.{first_more, first_stops}
use Rattle.trace_replay.specs.Replaying.{each_flow, found, sends, steps}
use Rattle.trace_replay.proofs.ReplayOrder.{all_stepped, each_is, one_more_sent, stops_before}
use Rattle.trace_replay.proofs.fitted.FittedRun.examine_steps.Goals as goal
use Rattle.std.proofs.Common.{◌∙◌}

pub returns-in_err-sends : goal.returns-in_err-sends
returns-in_err-sends c =
    let p = err_from_is_err_and c.from_residual.result c.from_residual.ensures.1 in
    rw (p.1, p.2) (sym (stops_before (found c.args.self.controller.now c.args.self.question.now c.args.self.run.now)
    (each_flow (steps c.args.row) c.args.self.question.now.setting.flows) (each_flow (sends c.args.row) c.args.self.question.now.setting.flows) _
    (each_is c.args.self.controller.now c.args.self.question.now c.args.self.run.now (steps c.args.row) c.args.self.question.now.setting.flows
    ∙ first_stops (λ k. found c.args.self.controller.now c.args.self.question.now c.args.self.run.now (steps c.args.row (k + 1))) _ c.loop-index.index
    c.args.self.question.now.setting.flows c.loop-index.invariant.0 c.in_err-sends.ensures (omega arith))))

pub loop-index-preserved : goal.loop-index-preserved
loop-index-preserved c = (
  first_more (λ k. found c.args.self.controller.now c.args.self.question.now c.args.self.run.now (steps c.args.row (k + 1))) c.loop-index.index
      c.loop-index.invariant.0 c.in_ok-sends.ensures.0,
  one_more_sent (λ k. found c.args.self.controller.now c.args.self.question.now c.args.self.run.now (sends c.args.row (k + 1))) c.loop-index.index
      _ _ _ c.and-sent.ensures c.loop-index.invariant.1 c.in_ok-sends.ensures.1,
)

pub returns : goal.returns
returns c =
    all_stepped c.args.self.controller.now c.args.self.question.now c.args.self.run.now c.args.row c.loop-index.index c.args.self.question.now.setting.flows _
    (omega arith) c.loop-index.invariant.0 c.loop-index.invariant.1
