use Rattle.std.proofs.Common.{◌≡◌, ◌++◌, drop, string_bytes}
use Rattle.text_lines.specs.Steps.{numbered}
use Rattle.picture_svg.specs.Shapes.{column_text}
use Rattle.picture_svg.proofs.panels.put_columns.Given as goal

abbrev pub invariant-loop-row : goal.invariant-loop-row
invariant-loop-row l = string_bytes l.out ++ numbered column_text l.row (drop l.row l.columns) ≡ string_bytes l.initial.out ++ numbered column_text 0 l.columns
