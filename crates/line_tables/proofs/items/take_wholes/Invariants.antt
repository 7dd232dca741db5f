use Rattle.std.proofs.Common.{◌≡◌, ◌-◌}
use Rattle.text_machine.specs.Items.{whole}
use Rattle.text_machine.specs.Lines.{LineForm, times, read_line}
use Rattle.line_tables.specs.Given.{onto}
use Rattle.line_tables.proofs.items.take_wholes.Given as goal

abbrev pub invariant-loop : goal.invariant-loop
invariant-loop l = (form : LineForm) → onto l.initial.numbers (read_line (times l.count whole form) l.initial.fields) ≡ onto l.numbers (read_line (times (l.count - l.counter) whole form) l.fields)
