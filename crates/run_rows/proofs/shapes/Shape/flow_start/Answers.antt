use Rattle.std.proofs.Common.{◌+◌, ◌*◌, ◌-◌, ◌∙◌, ap, arith}
use Rattle.std.specs.Prelude.{slice_get}
use Rattle.run_rows.specs.Columns.{entries_of}
use Rattle.run_rows.proofs.EntryPlaces.{flow_found}
use Rattle.run_rows.proofs.shapes.Shape.flow_start.Goals as goal

pub returns-clause-value : goal.returns-clause-value
returns-clause-value c =
    λ j entry there.
    ap (slice_get (entries_of c.args.self.now)) (omega (arith, ap (λ n. (c.args.flow - 1) * (3 + n)) c.states_on.ensures))
    ∙ flow_found c.args.self.now c.args.row c.args.flow j entry (record { row_in = c.requires.row_in; flow_from = c.requires.flow_from; flow_to = c.requires.flow_to }) there
