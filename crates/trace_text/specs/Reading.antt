-- The parts of a trace, as the calls that read it take them one after another, and how many flows and rows there are.
use Rattle.std.specs.Prelude.{ℕ, ◌+◌, List, [], ◌∷◌, ◌++◌, Result, Ok, Err, if◌then◌else◌}
use Rattle.whole.specs.declared.answers.Refusal.{Refusal}
use Rattle.text_lines.specs.Lines.{Unread, is_finished}
use Rattle.text_lines.specs.Steps.{◌>>=◌}
use Rattle.text_machine.specs.Texts.{Table}
use Rattle.text_machine.specs.Scripts.{line_by, lines_by, EachOf}
use Rattle.run_rows.specs.declared.shapes.Shape.{Shape}
use Rattle.run_rows.specs.declared.rows.Row.{Row}
use Rattle.run_rows.specs.declared.rows.FlowRow.{FlowRow}
use Rattle.trace_text.specs.Script.{refusal, header_line, shape_line, run_lines, end_line, shape_of}

-- not a byte is left
abbrev pub finished_by : Unread → Result Table Refusal
finished_by rest = if is_finished rest then Ok [] else Err (refusal 6 rest.line)

-- the numbers of the lines, one part after another
abbrev pub end_by : Unread → Result Table Refusal
end_by rest = do
  last ← line_by end_line rest
  table ← finished_by last.1
  Ok (last.0 ∷ table)

abbrev pub run_by : Shape → Unread → Result Table Refusal
run_by shape rest = do
  run ← lines_by (run_lines shape) rest
  table ← end_by run.1
  Ok (run.0 ++ table)

abbrev pub shape_by : Unread → Result Table Refusal
shape_by rest = do
  shape ← line_by shape_line rest
  table ← run_by (shape_of shape.0) shape.1
  Ok (shape.0 ∷ table)

unfoldable pub trace_by : Unread → Result Table Refusal
trace_by rest = do
  header ← line_by header_line rest
  table ← shape_by header.1
  Ok (header.0 ∷ table)

-- ---- how many flows and rows there are

abbrev pub SizedFlows : ℕ → List FlowRow → Type 0
SizedFlows flows xs = EachOf (λ _ _. Unit {0}) flows 1 xs

abbrev pub SizedRow : Shape → ℕ → Row → Type 0
SizedRow shape i row = Unit {0} × SizedFlows shape.flows row.flows

abbrev pub SizedRows : Shape → List Row → Type 0
SizedRows shape rows = EachOf (SizedRow shape) (shape.h + shape.t + 1) 0 rows
