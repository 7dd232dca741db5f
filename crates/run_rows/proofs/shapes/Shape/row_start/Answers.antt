use Rattle.std.proofs.Common.{◌*◌, ap, arith}
use Rattle.run_rows.proofs.EntryPlaces.{length-entries_before}
use Rattle.run_rows.proofs.shapes.Shape.row_start.Goals as goal

pub returns-clause-value : goal.returns-clause-value
returns-clause-value c =
    omega (arith, length-entries_before c.args.self.now c.args.row, ap (λ n. n * (c.args.self.now.flows * c.args.self.now.states)) c.saturating_sub.ensures)
