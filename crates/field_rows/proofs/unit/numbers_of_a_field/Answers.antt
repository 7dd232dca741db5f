use Rattle.field_rows.proofs.UnitLaws.{minus_one-apart}
use Rattle.field_rows.proofs.unit.numbers_of_a_field.Goals as goal

pub div-requires : goal.div-requires
div-requires g c = minus_one-apart _ _ c.one-one.ensures c.neg-minus.ensures
