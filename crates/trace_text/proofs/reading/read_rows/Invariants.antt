use Rattle.text_machine.specs.Scripts.{lines_by, lines_from}
use Rattle.text_machine.proofs.ScriptLaws.{Along}
use Rattle.trace_text.specs.Script.{row_lines, row_table}
use Rattle.trace_text.specs.Reading.{SizedRow}
use Rattle.trace_text.proofs.reading.read_rows.Given as goal

abbrev pub invariant-loop-i : goal.invariant-loop-i
invariant-loop-i l = Along (row_lines l.shape) row_table (SizedRow l.shape) 0 l.i-end l.i l.rows l.lines (lines_by (lines_from (row_lines l.shape) l.i-end 0) l.initial.lines)
