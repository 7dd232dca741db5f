use Rattle.std.proofs.Common.{◌+◌, sym, subst, arith}
use Rattle.unroll.specs.FlowLimits.{CanSend}
use Rattle.ctrl_meaning.specs.Steps.{sending}
use Rattle.unroll.proofs.FlowReady.{can_send}
use Rattle.unroll.proofs.flow_rows.plus_sends.Goals as goal

pub plus_send-requires : goal.plus_send-requires
plus_send-requires c =
    let inside = c.loop-index-test.true in
    subst (λ s. CanSend s (sending c.args.setting.now c.args.row (c.loop-index.index + 1)) c.args.controller.now) (sym c.requires.shape_in)
    (can_send c.args.controller.now c.args.setting.now c.args.row (c.loop-index.index + 1) c.requires.controller_in c.requires.setting_in c.requires.row_in
    (omega arith) (omega arith))
