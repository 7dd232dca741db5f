use Rattle.line_tables.specs.Tables.{form_in, numbers, rules_of}
use Rattle.line_tables.specs.Given.{form_read}
use Rattle.text_lines.specs.Pieces.{pieces}
use Rattle.line_tables.proofs.TextLaws.{line_read, line_refused, item_fault}
use Rattle.line_tables.proofs.reading.take_row.Goals as goal

pub returns-in-Ok : goal.returns-in-Ok
returns-in-Ok c = line_read c.args.letter (rules_of c.args.lines.now) c.args.spot c.in-Ok.found.1 c.args.number c.args.text.now (numbers c.in-Ok.found.0) c.in-Ok.ensures.exact c.in-Ok.ensures.leads

pub returns-in-Err-Item : goal.returns-in-Err-Item
returns-in-Err-Item c = rw (c.refusal.ensures, c.number_of.ensures) (line_refused c.args.letter (rules_of c.args.lines.now) c.args.spot c.args.number c.args.text.now c.in-Err-Item.fault
    (item_fault c.in-Err-Item.field-0 c.in-Err-Item.fault (form_read (form_in (rules_of c.args.lines.now) c.args.spot) (pieces 32 c.args.text.now)) c.in-Err-Item.field-0-is c.in-Err-Item.ensures.exact))
