use Rattle.std.proofs.Common.{string_bytes}
use Rattle.picture_svg.specs.Shapes.{listed, point_text}
use Rattle.picture_svg.proofs.WritingLaws.{listed_goes_on, listed_is_done}
use Rattle.picture_svg.proofs.shapes.put_points.Goals as goal

pub loop-point-preserved : goal.loop-point-preserved
loop-point-preserved c =
    listed_goes_on point_text _ c.args.points.now c.loop-point.point-index (string_bytes c.args.out.now) (string_bytes c.loop-point.out) (string_bytes c.put_point.new.out)
    (listed point_text c.args.points.now) c.loop-point-test.true c.loop-point.invariant c.in_ok-put_point.ensures

pub returns : goal.returns
returns c =
    listed_is_done point_text c.args.points.now c.loop-point.point-index (string_bytes c.args.out.now) (string_bytes c.loop-point.out)
    (listed point_text c.args.points.now) c.loop-point-test.false c.loop-point.invariant
