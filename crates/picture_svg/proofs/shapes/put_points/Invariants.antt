use Rattle.std.proofs.Common.{◌≡◌, ◌++◌, drop, string_bytes}
use Rattle.picture_svg.specs.Shapes.{listed, point_text}
use Rattle.picture_svg.proofs.shapes.put_points.Given as goal

abbrev pub invariant-loop-point : goal.invariant-loop-point
invariant-loop-point l = string_bytes l.out ++ listed point_text (drop l.point-index l.points) ≡ string_bytes l.initial.out ++ listed point_text l.points
