use Rattle.simplex.proofs.ColumnLaws.{cancels_columns}
use Rattle.simplex.proofs.laws.conflicts_cancel_columns.Goals as goal

pub returns : goal.returns
returns g c = cancels_columns g.F.OrderedField.value
