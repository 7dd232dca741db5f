-- The one text of a run with its shape, by lines.
use Rattle.std.specs.Prelude.{◌≡◌, ℕ, List, [], ◌∷◌, ◌++◌, map, codes}
use Rattle.std.specs.Fmt.{decimal, signed_decimal}
use Rattle.text_lines.specs.Pieces.{text}
use Rattle.text_lines.specs.Steps.{numbered}
use Rattle.run_rows.specs.declared.shapes.Shape.{Shape}
use Rattle.run_rows.specs.declared.rows.Run.{Run}
use Rattle.run_rows.specs.declared.rows.Row.{Row}
use Rattle.run_rows.specs.declared.rows.FlowRow.{FlowRow}
use Rattle.run_rows.specs.Limits.{IsWithin}
use Rattle.run_rows.specs.Runs.{Fits}

-- a line is the list of its items
abbrev pub Line : Type 0
Line = List (List ℕ)

abbrev pub header : Line
header = codes "ccac-trace" ∷ codes "1" ∷ []

abbrev pub shape_line : Shape → Line
shape_line s = codes "shape" ∷ decimal s.flows ∷ decimal s.states ∷ decimal s.h ∷ decimal s.t ∷ []

abbrev pub over_line : Run → Line
over_line r = codes "over" ∷ signed_decimal r.over ∷ []

abbrev pub credit_line : Run → Line
credit_line r = codes "credit" ∷ signed_decimal r.credit ∷ []

abbrev pub row_line : ℕ → Row → Line
row_line i row = codes "row" ∷ decimal i ∷ signed_decimal row.w ∷ []

-- flow f's line without its states
abbrev pub counts_of : ℕ → FlowRow → Line
counts_of f flow = codes "flow" ∷ decimal f ∷ signed_decimal flow.a ∷ signed_decimal flow.s ∷ signed_decimal flow.l ∷ []

abbrev pub flow_line : ℕ → FlowRow → Line
flow_line f flow = counts_of f flow ++ map signed_decimal flow.x

abbrev pub flow_lines : ℕ → FlowRow → List Line
flow_lines f flow = flow_line f flow ∷ []

-- a row's line, and those of its flows from flow 1 on
abbrev pub row_lines : ℕ → Row → List Line
row_lines i row = row_line i row ∷ numbered flow_lines 1 row.flows

unfoldable pub trace_lines : Shape → Run → List Line
trace_lines shape r =
    header ∷ shape_line shape ∷ over_line r ∷ credit_line r ∷ (numbered row_lines 0 r.rows ++ (codes "end" ∷ []) ∷ [])

-- these bytes are the text of this shape and this run, which fits the shape
pub record IsTraceText (bytes : List ℕ) (shape : Shape) (r : Run) : Type 0 where
  pub within : IsWithin shape
  pub fits : Fits shape r
  pub text_is : bytes ≡ text (trace_lines shape r)
