use Rattle.simplex.specs.States.{corner}
use Rattle.corner_values.specs.Scale.{AreNumbers}
use Rattle.corner_values.specs.Values.{value_at}
use Rattle.corner_values.proofs.ColumnLaws.{ColumnsFit}
use Rattle.corner_values.proofs.columns.column_values.Given as goal

abbrev pub invariant-loop-column : goal.invariant-loop-column
invariant-loop-column g l =
    let value = g.F.OrderedField.value in
    record {
      numbers : AreNumbers value l.column (value_at (corner value l.simplex) (value l.epsilon)) l.numbers.items;
      kept : ColumnsFit g.F.OrderedField.LIMIT (corner value l.simplex) (value l.epsilon) l.column;
    }
