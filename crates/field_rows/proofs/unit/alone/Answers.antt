use Rattle.field_rows.specs.Rows.{IsRow}
use Rattle.field_rows.proofs.unit.alone.Goals as goal

pub put-requires : goal.put-requires
unfolding IsRow
put-requires c = tt
