-- The columns of a run: its entries in one row, the credit first, then row by row the waste and each flow's entries.
-- An entry's column is its place in that list.
use Rattle.std.specs.Prelude.{ℕ, ◌+◌, ◌<◌, ◌≤◌, ℤ, pos, Bool, true, false, ◌==◌, ◌&&◌, List, ◌∷◌, map, flat_map, slice_get}
use Rattle.std.specs.List.{position_or_len, range_with_len}
use Rattle.std.specs.Option.{option_map_or}
use Rattle.run_rows.specs.Runs.{arrived, lost, served, state_count, state_of, waste}
use Rattle.run_rows.specs.declared.columns.Entry.{Entry}
use Rattle.run_rows.specs.declared.columns.Entry.TheVariants.{Credit, W, A, S, L, X}
use Rattle.run_rows.specs.declared.rows.Run.{Run}
use Rattle.run_rows.specs.declared.shapes.Shape.{Shape}

-- how many rows a run of the shape has
abbrev pub rows_of : Shape → ℕ
rows_of shape = shape.h + shape.t + 1

-- the entries of flow f on row i
abbrev pub flow_entries : Shape → ℕ → ℕ → List Entry
flow_entries shape i f = A i f ∷ S i f ∷ L i f ∷ map (X i f) (range_with_len 0 (state_count shape i))

-- the entries of row i, flow by flow
abbrev pub row_entries : Shape → ℕ → List Entry
row_entries shape i = W i ∷ flat_map (flow_entries shape i) (range_with_len 1 shape.flows)

-- the credit, and the entries of the first rows
unfoldable pub entries_before : Shape → ℕ → List Entry
entries_before shape rows = Credit ∷ flat_map (row_entries shape) (range_with_len 0 rows)

abbrev pub entries_of : Shape → List Entry
entries_of shape = entries_before shape (rows_of shape)

-- the shape has the flow, and the row
pub record HasFlow (shape : Shape) (i f : ℕ) : Type 0 where
  pub row_in : i < rows_of shape
  pub flow_from : 1 ≤ f
  pub flow_to : f ≤ shape.flows

-- a run of the shape has the entry
abbrev pub HasEntry : Shape → Entry → Type 0
HasEntry shape Credit = Unit {0}
HasEntry shape (W i) = i < rows_of shape
HasEntry shape (A i f) = HasFlow shape i f
HasEntry shape (S i f) = HasFlow shape i f
HasEntry shape (L i f) = HasFlow shape i f
HasEntry shape (X i f j) = HasFlow shape i f × (j < state_count shape i)

abbrev pub same_entry : Entry → Entry → Bool
same_entry Credit Credit = true
same_entry (W i) (W k) = i == k
same_entry (A i f) (A k g) = i == k && f == g
same_entry (S i f) (S k g) = i == k && f == g
same_entry (L i f) (L k g) = i == k && f == g
same_entry (X i f j) (X k g m) = i == k && f == g && j == m
same_entry _ _ = false

-- the place of an entry among all
unfoldable pub column_of : Shape → Entry → ℕ
column_of shape entry = position_or_len (same_entry entry) (entries_of shape)

-- the value of an entry
abbrev pub value_of : Run → Entry → ℤ
value_of r Credit = r.credit
value_of r (W i) = waste r i
value_of r (A i f) = arrived r i f
value_of r (S i f) = served r i f
value_of r (L i f) = lost r i f
value_of r (X i f j) = state_of r i f j

-- the value in a column; past the last, 0
unfoldable pub value_at : Shape → Run → ℕ → ℤ
value_at shape r column = option_map_or (value_of r) (slice_get (entries_of shape) column) (pos 0)
