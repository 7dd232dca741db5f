use Rattle.std.proofs.Math.Nat.{zero-add}
use Rattle.trace_picture.specs.Places.{across_of}
use Rattle.trace_picture.proofs.MadeLists.{made_goes_on}
use Rattle.trace_picture.proofs.places.columns.Goals as goal

pub loop-row-preserved : goal.loop-row-preserved
loop-row-preserved c =
    made_goes_on (across_of c.args.last) 0 c.loop-row.row c.loop-row.row _ _ _ (zero-add c.loop-row.row) c.loop-row.invariant c.in_ok-push.ensures.ok c.across.ensures
