use Rattle.run_rows.proofs.RowPlaces.{preamble_row, later_row}
use Rattle.run_rows.proofs.shapes.Shape.row_holding.Goals as goal

pub returns-then-place-self : goal.returns-then-place-self
returns-then-place-self c =
    let held = preamble_row c.args.self.now c.args.column c.requires.column_from c.if-place-self.true in
    record { row_in = held.row_in; from = held.from; to = held.to }

pub returns : goal.returns
returns c =
    let held = later_row c.args.self.now c.args.column c.requires.column_from c.requires.column_in c.if-place-self.false in
    record { row_in = held.row_in; from = held.from; to = held.to }
