use Rattle.std.proofs.Common.{string_bytes, codes}
use Rattle.picture_svg.specs.Shapes.{polyline_text}
use Rattle.picture_svg.proofs.WritingLaws.{ends_3, pushed}
use Rattle.picture_svg.proofs.shapes.put_polyline.Goals as goal

pub returns : goal.returns
unfolding polyline_text
returns c =
    ends_3 c.push_str.result (string_bytes c.args.out.now) _ _ _ (string_bytes c.write.new.self) (string_bytes c.put_points.new.out) (string_bytes c.push_str.new.self)
    c.in_ok-write.ensures.bytes c.in_ok-put_points.ensures
    (pushed c.push_str.result (string_bytes c.put_points.new.out) (codes "'/>\n") (string_bytes c.push_str.new.self) c.push_str.ensures.bytes)
