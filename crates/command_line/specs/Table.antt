-- The table of all commands: those on files, by their entries, and `gen`.
use Rattle.std.specs.Prelude.{List, [], ◌∷◌, ◌++◌, codes, length, map}
use Rattle.command_words.specs.Forms.{Entry}
use Rattle.ccac_cli.specs.Commands.{commands as file_commands, entry_of}
use Rattle.ccac_cli.specs.declared.commands.Command.{Command}

-- a command on files takes as many values as it has files, but for those that needn't be named
abbrev pub file_entry : Command → Entry
file_entry command = record { word = (entry_of command).word; least = (entry_of command).least; most = length (entry_of command).files }

abbrev pub commands : List Entry
commands = map file_entry file_commands ++ record { word = codes "gen"; least = 2; most = 2 } ∷ []
