use Rattle.std.proofs.Common.{◌∙◌, ap, arith}
use Rattle.std.specs.Prelude.{slice_get}
use Rattle.run_rows.specs.Columns.{entries_before, entries_of}
use Rattle.run_rows.proofs.EntryPlaces.{located, row_place}
use Rattle.run_rows.proofs.RowPlaces.{place_in_row}
use Rattle.run_rows.proofs.shapes.Shape.entry_at.Goals as goal

pub returns-then-column-eq0-clause-listed : goal.returns-then-column-eq0-clause-listed
unfolding entries_before
returns-then-column-eq0-clause-listed c = ap (slice_get (entries_of c.args.self.now)) c.if-column-eq0.true

pub row_entry-requires-clause-place_in : goal.row_entry-requires-clause-place_in
row_entry-requires-clause-place_in c =
    place_in_row c.args.self.now c.row_holding-row.result c.args.column c.row_start.result c.row_start.ensures.value c.row_holding-row.ensures.from c.row_holding-row.ensures.to

pub returns-clause-listed : goal.returns-clause-listed
returns-clause-listed c =
    ap (slice_get (entries_of c.args.self.now)) (omega arith)
    ∙ row_place c.args.self.now c.row_holding-row.result _ _ c.row_holding-row.ensures.row_in c.row_entry.ensures

pub returns-clause-stands : goal.returns-clause-stands
returns-clause-stands c = (located c.args.self.now c.args.column _ (returns-clause-listed c)).stands
