use Rattle.run_rows.proofs.EntryPlaces.{located}
use Rattle.run_rows.proofs.shapes.Shape.columns.Goals as goal

pub returns-clause-standing : goal.returns-clause-standing
returns-clause-standing c = λ k entry there. (located c.args.self.now k entry there).stands
