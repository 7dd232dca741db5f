use Rattle.std.proofs.Common.{◌+◌, refl}
use Rattle.trace_picture.specs.Panels.{waiting_of_flow}
use Rattle.trace_picture.proofs.MadeLists.{made_goes_on}
use Rattle.trace_picture.proofs.panels.waiting.Goals as goal

pub loop-index-preserved : goal.loop-index-preserved
loop-index-preserved c =
    made_goes_on waiting_of_flow 1 c.loop-index.index (1 + c.loop-index.index) _ _ _ refl c.loop-index.invariant c.in_ok-push.ensures.ok refl
