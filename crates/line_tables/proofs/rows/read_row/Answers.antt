use Rattle.line_tables.specs.Tables.{rules_of}
use Rattle.line_tables.proofs.RowLaws.{has_form}
use Rattle.line_tables.proofs.rows.read_row.Goals as goal

pub returns-in-Start : goal.returns-in-Start
returns-in-Start c = record {
  exact = rw (has_form (rules_of c.args.lines.now) c.args.spot c.in-Start.is, ← c.of-fields.ensures) c.row_of.ensures.exact;
  leads = c.row_of.ensures.leads;
}
