use Rattle.std.proofs.Common.{◌≡◌, drop}
use Rattle.text_machine.specs.Lines.{read_line}
use Rattle.line_tables.specs.Tables.{form_of}
use Rattle.line_tables.specs.Given.{onto}
use Rattle.line_tables.proofs.items.items_of.Given as goal

abbrev pub invariant-loop-item : goal.invariant-loop-item
invariant-loop-item l = read_line (form_of l.items) l.initial.fields ≡ onto l.numbers (read_line (form_of (drop l.item-index l.items)) l.fields)
