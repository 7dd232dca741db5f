use Rattle.std.proofs.Common.{◌+◌, Some, refl, sym, ◌∙◌, ap, arith}
use Rattle.std.specs.Prelude.{slice_get}
use Rattle.run_rows.specs.Columns.{entries_before, entries_of}
use Rattle.run_rows.specs.declared.columns.Entry.TheVariants.{A, W, X}
use Rattle.run_rows.proofs.ColumnLaws.{listed_in_place}
use Rattle.run_rows.proofs.EntryPlaces.{state_found}
use Rattle.run_rows.proofs.shapes.Shape.place_of.Goals as goal

pub returns-in-Credit : goal.returns-in-Credit
unfolding entries_before
returns-in-Credit c = ap Some (sym c.in-Credit.is)

pub returns-in-W : goal.returns-in-W
returns-in-W c =
    let stands = rw c.in-W.is at c.requires.stands in
    ap (slice_get (entries_of c.args.self.now)) c.row_start.ensures.value ∙ listed_in_place c.args.self.now (W c.in-W.row) stands ∙ ap Some (sym c.in-W.is)

pub returns-in-A : goal.returns-in-A
returns-in-A c =
    ap (slice_get (entries_of c.args.self.now)) (omega arith)
    ∙ c.flow_start.ensures.value 0 (A c.in-A.row c.in-A.flow) refl
    ∙ ap Some (sym c.in-A.is)

pub returns-in-X : goal.returns-in-X
returns-in-X c =
    let stands = rw c.in-X.is at c.requires.stands in
    ap (slice_get (entries_of c.args.self.now)) (omega arith)
    ∙ c.flow_start-in-X.ensures.value (3 + c.in-X.state) (X c.in-X.row c.in-X.flow c.in-X.state)
    (state_found c.args.self.now c.in-X.row c.in-X.flow c.in-X.state stands.1)
    ∙ ap Some (sym c.in-X.is)
