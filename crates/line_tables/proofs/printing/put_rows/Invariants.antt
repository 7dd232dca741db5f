use Rattle.std.proofs.Common.{◌≡◌, ◌++◌, drop, string_bytes}
use Rattle.text_lines.specs.Pieces.{text}
use Rattle.text_lines.specs.Steps.{numbered}
use Rattle.line_tables.specs.Tables.{row_texts, rules_of}
use Rattle.line_tables.proofs.printing.put_rows.Given as goal

abbrev pub invariant-loop-row : goal.invariant-loop-row
invariant-loop-row l =
    string_bytes l.out ++ text (numbered (row_texts (rules_of l.lines)) l.row-index (drop l.row-index l.rows)) ≡ string_bytes l.initial.out ++ text (numbered (row_texts (rules_of l.lines)) 0 l.rows)
