use Rattle.std.proofs.Common.{◌+◌, sym, subst, arith}
use Rattle.unroll.specs.FlowLimits.{CanStep}
use Rattle.ctrl_meaning.specs.Steps.{stepping}
use Rattle.unroll.proofs.FlowReady.{can_step}
use Rattle.unroll.proofs.flow_rows.step_formulas.Goals as goal

pub plus_steps-requires : goal.plus_steps-requires
plus_steps-requires c =
    let inside = c.loop-index-test.true in
    subst (λ s. CanStep s (stepping c.args.setting.now c.args.row (c.loop-index.index + 1)) c.args.controller.now) (sym c.requires.shape_in)
    (can_step c.args.controller.now c.args.setting.now c.args.row (c.loop-index.index + 1) c.requires.controller_in c.requires.setting_in c.requires.row_in
    (omega arith) (omega arith))
