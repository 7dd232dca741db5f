-- The lines of a trace: what is wanted on each, and the rule that it breaks otherwise.
use Rattle.std.specs.Prelude.{Bool, true, false, ℕ, ◌+◌, ℤ, pos, unsigned_abs, List, [], ◌∷◌, ◌++◌, codes}
use Rattle.std.proofs.Common.{get_or, refl}
use Rattle.whole.specs.declared.answers.Refusal.{Refusal}
use Rattle.text_lines.specs.Pieces.{pieces}
use Rattle.text_lines.specs.Steps.{numbered}
use Rattle.text_machine.specs.declared.faults.Fault.{Fault}
use Rattle.text_machine.specs.declared.faults.Fault.TheVariants.{Large}
use Rattle.text_machine.specs.Items.{natural, positive, whole}
use Rattle.text_machine.specs.Lines.{LineForm, stop, word, number, times}
use Rattle.text_machine.specs.Texts.{Table, Format, FirstRefused}
use Rattle.text_machine.specs.Scripts.{Line, Script, wants, listed, lines_from, scripted}
use Rattle.run_rows.specs.declared.shapes.Shape.{Shape}
use Rattle.run_rows.specs.declared.rows.Run.{Run}
use Rattle.run_rows.specs.declared.rows.Row.{Row}
use Rattle.run_rows.specs.declared.rows.FlowRow.{FlowRow}
use Rattle.run_rows.specs.Runs.{state_count}

-- ---- the rules

-- rule V of this number is broken on this line
abbrev pub refusal : ℕ → ℕ → Refusal
refusal rule k = record { letter = 86; number = rule; line = k }

-- the line's own rule, or the rule on numbers that are too large
abbrev pub blame : ℕ → ℕ → Fault → Refusal
blame own line Large = refusal 5 line
blame own line _ = refusal own line

-- a text that ends before its last line lacks its `end`
abbrev pub unfinished : ℕ → Bool → Refusal
unfinished line empty = refusal 6 line

-- an empty text has no header, where another text that ends within its first line lacks its `end`
abbrev pub without_header : ℕ → Bool → Refusal
without_header line true = refusal 1 line
without_header line false = refusal 6 line

abbrev pub ruled : ℕ → LineForm → Line Refusal
ruled own form = record { form = form; blame = blame own; ended = unfinished }

-- ---- the lines

abbrev pub header_line : Line Refusal
header_line = record { form = word (codes "ccac-trace") refl (word (codes "1") refl stop); blame = blame 1; ended = without_header }

abbrev pub shape_line : Line Refusal
shape_line = ruled 2 (word (codes "shape") refl (number (natural 1 4) (λ _. number (natural 0 8) (λ _. number (natural 2 16) (λ _. number (natural 1 32) (λ _. stop))))))

abbrev pub over_line : Line Refusal
over_line = ruled 3 (word (codes "over") refl (number positive (λ _. stop)))

abbrev pub credit_line : Line Refusal
credit_line = ruled 3 (word (codes "credit") refl (number whole (λ _. stop)))

-- row i, and its waste
abbrev pub row_line : ℕ → Line Refusal
row_line i = ruled 4 (word (codes "row") refl (number (natural i i) (λ _. number whole (λ _. stop))))

-- flow f: its arrivals, service and loss, and so many states
abbrev pub flow_line : ℕ → ℕ → Line Refusal
flow_line states f = ruled 4 (word (codes "flow") refl (number (natural f f) (λ _. number whole (λ _. number whole (λ _. number whole (λ _. times states whole stop))))))

abbrev pub end_line : Line Refusal
end_line = ruled 6 (word (codes "end") refl stop)

abbrev pub flow_lines : ℕ → ℕ → List (Line Refusal)
flow_lines states f = flow_line states f ∷ []

abbrev pub row_lines : Shape → ℕ → List (Line Refusal)
row_lines shape i = row_line i ∷ lines_from (flow_lines (state_count shape i)) shape.flows 1

-- what is wanted behind the line of the shape
abbrev pub run_lines : Shape → List (Line Refusal)
run_lines shape = over_line ∷ credit_line ∷ lines_from (row_lines shape) (shape.h + shape.t + 1) 0

-- ---- the numbers on the lines

abbrev pub size_at : List ℤ → ℕ → ℕ
size_at zs i = unsigned_abs (get_or zs i (pos 0))

abbrev pub shape_of : List ℤ → Shape
shape_of zs = record { flows = size_at zs 0; states = size_at zs 1; h = size_at zs 2; t = size_at zs 3 }

abbrev pub shape_numbers : Shape → List ℤ
shape_numbers s = pos s.flows ∷ pos s.states ∷ pos s.h ∷ pos s.t ∷ []

abbrev pub one_number : ℤ → List ℤ
one_number z = z ∷ []

abbrev pub waste_numbers : ℕ → ℤ → List ℤ
waste_numbers i w = pos i ∷ w ∷ []

abbrev pub flow_numbers : ℕ → FlowRow → List ℤ
flow_numbers f flow = pos f ∷ flow.a ∷ flow.s ∷ flow.l ∷ flow.x

abbrev pub flow_table : ℕ → FlowRow → Table
flow_table f flow = flow_numbers f flow ∷ []

abbrev pub row_table : ℕ → Row → Table
row_table i row = waste_numbers i row.w ∷ numbered flow_table 1 row.flows

abbrev pub run_table : Run → Table
run_table r = one_number r.over ∷ one_number r.credit ∷ numbered row_table 0 r.rows

-- ---- the whole text

abbrev pub trace_script : Script Refusal
trace_script = wants header_line (λ _. wants shape_line (λ zs. listed (run_lines (shape_of zs) ++ end_line ∷ [])))

abbrev pub trace_table : Shape → Run → Table
trace_table shape r = [] ∷ shape_numbers shape ∷ (run_table r ++ [] ∷ [])

abbrev pub trace_format : Format (Script Refusal) Refusal
trace_format = scripted (refusal 6)

-- the bytes are no trace, by the first rule that they break
pub record IsRefused (bytes : List ℕ) (r : Refusal) : Type 0 where
  pub first : FirstRefused trace_format trace_script 1 (pieces 10 bytes) r
