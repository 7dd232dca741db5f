use Rattle.std.proofs.Common.{◌≡◌, ◌++◌, drop, string_bytes}
use Rattle.picture_svg.specs.Shapes.{listed}
use Rattle.picture_svg.specs.Panels.{area_of}
use Rattle.picture_svg.proofs.panels.put_areas.Given as goal

abbrev pub invariant-loop-line : goal.invariant-loop-line
invariant-loop-line l = string_bytes l.out ++ listed area_of (drop l.line-index l.lines) ≡ string_bytes l.initial.out ++ listed area_of l.lines
