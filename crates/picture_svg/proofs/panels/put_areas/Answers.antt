use Rattle.std.proofs.Common.{string_bytes}
use Rattle.picture_svg.specs.Shapes.{listed}
use Rattle.picture_svg.specs.Panels.{area_of}
use Rattle.picture_svg.proofs.WritingLaws.{listed_item, listed_is_done}
use Rattle.picture_svg.proofs.panels.put_areas.Goals as goal

pub loop-line-preserved : goal.loop-line-preserved
loop-line-preserved c =
    listed_item area_of c.line-item.result c.args.lines.now c.loop-line.line-index (string_bytes c.args.out.now) (string_bytes c.loop-line.out) (string_bytes c.put_area_of.new.out)
    (listed area_of c.args.lines.now) c.loop-line-test.true c.line-item.is c.loop-line.invariant c.in_ok-put_area_of.ensures

pub returns : goal.returns
returns c =
    listed_is_done area_of c.args.lines.now c.loop-line.line-index (string_bytes c.args.out.now) (string_bytes c.loop-line.out)
    (listed area_of c.args.lines.now) c.loop-line-test.false c.loop-line.invariant
