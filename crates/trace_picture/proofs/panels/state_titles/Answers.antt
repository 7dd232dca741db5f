use Rattle.std.proofs.Common.{refl}
use Rattle.std.proofs.Math.Nat.{zero-add}
use Rattle.trace_picture.specs.declared.lines.Title.TheVariants.{OfState}
use Rattle.trace_picture.proofs.MadeLists.{made_goes_on}
use Rattle.trace_picture.proofs.panels.state_titles.Goals as goal

pub loop-state-preserved : goal.loop-state-preserved
loop-state-preserved c =
    made_goes_on OfState 0 c.loop-state.state c.loop-state.state _ _ _ (zero-add c.loop-state.state) c.loop-state.invariant c.in_ok-push.ensures.ok refl
