use Rattle.std.proofs.Common.{◌∙◌, sym}
use Rattle.line_tables.specs.Tables.{rule_of}
use Rattle.line_tables.proofs.RowLaws.{misplaced}
use Rattle.line_tables.proofs.rows.numbers_of.Goals as goal

pub returns-else-may_stand-clause-exact : goal.returns-else-may_stand-clause-exact
returns-else-may_stand-clause-exact c = misplaced (rule_of c.args.line) c.args.spot c.args.fields.now (sym c.may_stand.ensures ∙ c.if-may_stand.false)
