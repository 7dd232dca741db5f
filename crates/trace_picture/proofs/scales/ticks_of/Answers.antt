use Rattle.std.proofs.Math.Nat.{zero-add}
use Rattle.trace_picture.specs.Places.{tick_of}
use Rattle.trace_picture.proofs.MadeLists.{made_goes_on}
use Rattle.trace_picture.proofs.scales.ticks_of.Goals as goal

pub loop-number-preserved : goal.loop-number-preserved
loop-number-preserved c =
    made_goes_on (tick_of c.args.scale.now) 0 c.loop-number.number c.loop-number.number _ _ _ (zero-add c.loop-number.number) c.loop-number.invariant c.in_ok-push.ensures.ok c.tick_of.ensures
