use Rattle.std.proofs.Common.{ap, ◌∙◌}
use Rattle.ordered_field.specs.Rational.{whole}
use Rattle.ordered_field.proofs.Fractions.{whole-neg}
use Rattle.field_rows.proofs.UnitLaws.{opposite_read}
use Rattle.field_rows.proofs.unit.UnitOrderedField.neg.Goals as goal

pub returns : goal.returns
returns c =
    ap whole (opposite_read c.args.self.n c.opposite.result c.args.self.small c.opposite.ensures) ∙ whole-neg c.args.self.n
