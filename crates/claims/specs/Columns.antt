-- The columns of claims: a run of a shape is a value for each column, over a denominator.
use Rattle.std.specs.Prelude.{ℕ, ℤ, List, [], ◌∷◌, map}
use Rattle.std.specs.List.{range_with_len}
use Rattle.condition_tree.specs.Trees.{EachLeaf}
use Rattle.weighing.specs.Claim.{Compared}
use Rattle.run_rows.specs.Columns.{HasEntry, column_of, rows_of}
use Rattle.run_rows.specs.Runs.{state_count}
use Rattle.run_rows.specs.declared.columns.Entry.{Entry}
use Rattle.run_rows.specs.declared.columns.Entry.TheVariants.{Credit, W, A, S, L, X}
use Rattle.run_rows.specs.declared.shapes.Shape.{Shape}
use Rattle.run_rows.specs.declared.rows.Run.{Run}
use Rattle.run_rows.specs.declared.rows.Row.{Row}
use Rattle.run_rows.specs.declared.rows.FlowRow.{FlowRow}
use Rattle.claims.specs.Subjects.{Subject, constant, entry, Part, Symbolic}

-- the value of an entry's column
abbrev pub entry_value : Shape → (ℕ → ℤ) → Entry → ℤ
entry_value s value e = value (column_of s e)

-- what a subject is worth where the columns have these values, in units of 1 / den
abbrev pub column_value : Shape → (ℕ → ℤ) → ℤ → Subject → ℤ
column_value s value den constant = den
column_value s value den (entry e) = entry_value s value e

-- the run of the shape with these values in its columns
abbrev pub flow_made : Shape → (ℕ → ℤ) → ℕ → ℕ → FlowRow
flow_made s value i f = record {
  a = entry_value s value (A i f);
  s = entry_value s value (S i f);
  l = entry_value s value (L i f);
  x = map (λ j. entry_value s value (X i f j)) (range_with_len 0 (state_count s i));
}

abbrev pub row_made : Shape → (ℕ → ℤ) → ℕ → Row
row_made s value i = record {
  w = entry_value s value (W i);
  flows = map (flow_made s value i) (range_with_len 1 s.flows);
}

unfoldable pub run_of : Shape → (ℕ → ℤ) → ℤ → Run
run_of s value den = record {
  over = den;
  credit = entry_value s value Credit;
  rows = map (row_made s value) (range_with_len 0 (rows_of s));
}

-- the shape has the subject, each term's subject, and each comparison's terms
abbrev pub IsIn : Shape → Subject → Type 0
IsIn s constant = Unit {0}
IsIn s (entry e) = HasEntry s e

abbrev pub EachIn : Shape → List Part → Type 0
EachIn s [] = Unit {0}
EachIn s (p ∷ parts) = IsIn s p.of × EachIn s parts

abbrev pub IsOver : Shape → Symbolic → Type 0
IsOver s c = EachLeaf (λ (d : Compared Part). EachIn s d.terms) c

abbrev pub EachOver : Shape → List Symbolic → Type 0
EachOver s [] = Unit {0}
EachOver s (c ∷ cs) = IsOver s c × EachOver s cs
