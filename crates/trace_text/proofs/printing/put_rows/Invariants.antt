use Rattle.std.proofs.Common.{◌≡◌, ◌++◌, drop, string_bytes}
use Rattle.text_lines.specs.Pieces.{text}
use Rattle.text_lines.specs.Steps.{numbered}
use Rattle.trace_text.specs.Spelling.{row_lines}
use Rattle.trace_text.proofs.printing.put_rows.Given as goal

abbrev pub invariant-loop-i : goal.invariant-loop-i
invariant-loop-i l = string_bytes l.out ++ text (numbered row_lines l.i (drop l.i l.rows)) ≡ string_bytes l.initial.out ++ text (numbered row_lines 0 l.rows)
