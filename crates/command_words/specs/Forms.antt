-- What the words of a command line ask for, by a table of commands.
use Rattle.std.specs.Prelude.{◌&&◌, ℕ, Bool, List, [], ◌∷◌, Option, None, find, length, nat_le, option_and_then, option_map, if◌then◌else◌}
use Rattle.std.specs.List.{list_all}
use Rattle.std.specs.Str.{bytes_eq}
use Rattle.command_words.specs.Words.{Text, json_of, options_of, values_of}
use Rattle.command_words.specs.declared.forms.Form.{Form}

-- an entry of the table: the word of a command, and how many values it takes, at least and at most
pub record Entry : Type 0 where
  pub word : Text
  pub least : ℕ
  pub most : ℕ

-- the entry that a form of the code is
abbrev pub entry_of : Form → Entry
entry_of form = record { word = form.word.now; least = form.least; most = form.most }

-- what is asked for: a command by its word, its values, and whether the report is to be JSON
pub record RequestView : Type 0 where
  pub word : Text
  pub values : List Text
  pub json : Bool

-- the entry's range is one, and has no more than four values
abbrev pub is_entry : Entry → Bool
is_entry entry = nat_le entry.least entry.most && nat_le entry.most 4

-- these entries are a table of commands
abbrev pub are_entries : List Entry → Bool
are_entries = list_all is_entry

-- there are as many values as the command takes
abbrev pub takes_count : Entry → ℕ → Bool
takes_count entry count = nat_le entry.least count && nat_le count entry.most

-- what the words behind that of a command ask for
abbrev pub asked_by : Entry → List Text → Option RequestView
asked_by entry words =
    if takes_count entry (length (values_of words))
    then option_map (λ json. record { word = entry.word; values = values_of words; json = json }) (json_of (options_of words))
    else None

-- what the words ask for, the first of which names the command
abbrev pub asked_of : List Entry → List Text → Option RequestView
asked_of entries [] = None
asked_of entries (word ∷ words) = option_and_then (λ entry. asked_by entry words) (find (λ entry. bytes_eq entry.word word) entries)
