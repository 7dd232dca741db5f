use Rattle.std.proofs.Common.{string_bytes}
use Rattle.picture_svg.specs.Shapes.{listed}
use Rattle.picture_svg.specs.Panels.{tick_text}
use Rattle.picture_svg.proofs.WritingLaws.{listed_goes_on, listed_is_done}
use Rattle.picture_svg.proofs.panels.put_ticks.Goals as goal

pub loop-tick-preserved : goal.loop-tick-preserved
loop-tick-preserved c =
    listed_goes_on tick_text _ c.args.ticks.now c.loop-tick.tick-index (string_bytes c.args.out.now) (string_bytes c.loop-tick.out) (string_bytes c.put_tick.new.out)
    (listed tick_text c.args.ticks.now) c.loop-tick-test.true c.loop-tick.invariant c.in_ok-put_tick.ensures

pub returns : goal.returns
returns c =
    listed_is_done tick_text c.args.ticks.now c.loop-tick.tick-index (string_bytes c.args.out.now) (string_bytes c.loop-tick.out)
    (listed tick_text c.args.ticks.now) c.loop-tick-test.false c.loop-tick.invariant
