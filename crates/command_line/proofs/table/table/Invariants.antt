use Rattle.std.proofs.Common.{◌≡◌, map, take}
use Rattle.ccac_cli.specs.Commands.{commands}
use Rattle.command_words.specs.Forms.{entry_of}
use Rattle.command_line.specs.Table.{file_entry}
use Rattle.command_line.proofs.table.table.Given as goal

abbrev pub invariant-loop-command : goal.invariant-loop-command
invariant-loop-command l = map entry_of l.forms.items ≡ map file_entry (take l.command-index commands)
