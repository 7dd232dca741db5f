use Rattle.std.proofs.Common.{◌≡◌, ◌++◌, drop, string_bytes}
use Rattle.picture_svg.specs.Shapes.{listed}
use Rattle.picture_svg.specs.Panels.{line_text}
use Rattle.picture_svg.proofs.panels.put_lines.Given as goal

abbrev pub invariant-loop-line : goal.invariant-loop-line
invariant-loop-line l = string_bytes l.out ++ listed line_text (drop l.line-index l.lines) ≡ string_bytes l.initial.out ++ listed line_text l.lines
