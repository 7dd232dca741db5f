use Rattle.std.proofs.Common.{◌+◌, refl}
use Rattle.trace_picture.specs.declared.lines.Title.TheVariants.{OfFlow}
use Rattle.trace_picture.proofs.MadeLists.{made_goes_on}
use Rattle.trace_picture.proofs.panels.flow_titles.Goals as goal

pub loop-index-preserved : goal.loop-index-preserved
loop-index-preserved c =
    made_goes_on OfFlow 1 c.loop-index.index (1 + c.loop-index.index) _ _ _ refl c.loop-index.invariant c.in_ok-push.ensures.ok refl
