use Rattle.std.proofs.Common.{map, subst}
use Rattle.text_machine.specs.Texts.{GivesText}
use Rattle.text_machine.proofs.TextLaws.{text_again}
use Rattle.text_machine.proofs.TypedLaws.{is_refused, is_first}
use Rattle.line_tables.specs.declared.spots.Spot.TheVariants.{Start}
use Rattle.line_tables.specs.Tables.{format_of, numbers}
use Rattle.line_tables.proofs.TextLaws.{text_found}
use Rattle.line_tables.proofs.reading.read.Goals as goal

pub returns-clause-found : goal.returns-clause-found
returns-clause-found c = text_found (format_of c.args.table.now) c.args.bytes.now c.read_rows.result c.read_rows.ensures

pub returns-clause-only : goal.returns-clause-only
returns-clause-only c table is =
    subst (GivesText (map numbers) c.read_rows.result) (text_again (format_of c.args.table.now) Start c.args.bytes.now table is) c.read_rows.ensures

pub returns-clause-refused : goal.returns-clause-refused
returns-clause-refused c = is_refused (format_of c.args.table.now) Start (map numbers) c.args.bytes.now c.read_rows.result c.read_rows.ensures

pub returns-clause-first : goal.returns-clause-first
returns-clause-first c = is_first (format_of c.args.table.now) Start (map numbers) c.args.bytes.now c.read_rows.result c.read_rows.ensures
