-- What values of the code show.
use Rattle.std.specs.Prelude.{map, string_bytes}
use Rattle.ccac_cli.specs.Commands.{EntryView, Order}
use Rattle.ccac_cli.specs.declared.commands.Entry.{Entry}
use Rattle.ccac_cli.specs.declared.commands.Order.{Order as Ordered}

abbrev pub entry_seen : Entry → EntryView
entry_seen entry = record { word = entry.word.now; files = entry.files.now; least = entry.least }

abbrev pub ordered : Ordered → Order
ordered order = record { command = order.command; names = map string_bytes order.names.now }
