use Rattle.field_rows.proofs.UnitLaws.{read_back_narrow, unit_negative, unit_zero, unit_positive}
use Rattle.field_rows.proofs.unit.UnitOrderedField.sign.Goals as goal

pub returns-clause-negative : goal.returns-clause-negative
returns-clause-negative c =
    rw (read_back_narrow c.args.self.n c.narrowed.result c.args.self.small c.narrowed.ensures) (unit_negative c.args.self.n c.args.self.small)

pub returns-clause-zero : goal.returns-clause-zero
returns-clause-zero c =
    rw (read_back_narrow c.args.self.n c.narrowed.result c.args.self.small c.narrowed.ensures) (unit_zero c.args.self.n)

pub returns-clause-positive : goal.returns-clause-positive
returns-clause-positive c =
    rw (read_back_narrow c.args.self.n c.narrowed.result c.args.self.small c.narrowed.ensures) (unit_positive c.args.self.n c.args.self.small)
