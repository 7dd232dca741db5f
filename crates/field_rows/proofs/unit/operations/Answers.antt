use Rattle.field_rows.proofs.UnitLaws.{minus_one-apart}
use Rattle.field_rows.proofs.unit.operations.Goals as goal

pub inverse-requires : goal.inverse-requires
inverse-requires g c = minus_one-apart _ _ c.one-one.ensures c.neg-minus.ensures
