-- The rules of a command of `clap` once it is built, and the rows of what it finds.
use Rattle.std.proofs.Common.{◌+◌, ℕ, Bool, true, zero, suc, List, [], ◌∷◌, Option, Some, None, codes, nat_lt, cond, option_map}
use Rattle.clap.specs.Walk.{Held, Row, Rule, Text, Walk, idle}
use Rattle.clap.specs.Simple.{Shape, new_rule, new_shape}
use Rattle.clap.specs.declared.builder.action.ArgAction.TheVariants.{Set}
use Rattle.clap.specs.declared.builder.value_parser.ValueParser.TheVariants as vp
use Rattle.clap.specs.declared.parser.matches.ValueSource.TheVariants.{DefaultValue, CommandLine}
use Rattle.clap.specs.declared.builder.value_parser.Reading.TheVariants as reading
use Rattle.command_words.specs.Clap.{all_names, json_rule}

-- the flag, and the value with this index, as building fills them in
abbrev pub json_taken : Rule
json_taken = record json_rule {
  defaults = codes "false" ∷ [];
  missing = codes "true" ∷ [];
  parser = Some vp.Bool;
  range = Some (record { start_inclusive = 0; end_inclusive = 0 });
}

abbrev pub value_taken : Bool → ℕ → Text → Rule
value_taken required index name = record (new_rule name) {
  action = Some Set;
  parser = Some vp.String;
  range = Some (record { start_inclusive = 1; end_inclusive = 1 });
  index = Some index;
  required = required;
}

-- the first values of these names, from this place on, of which those below least are required
abbrev pub values_taken : ℕ → ℕ → ℕ → List Text → List Rule
values_taken least place zero names = []
values_taken least place (suc more) [] = []
values_taken least place (suc more) (name ∷ names) = value_taken (nat_lt place least) (place + 1) name ∷ values_taken least (place + 1) more names

abbrev pub rules_taken : ℕ → ℕ → List Rule
rules_taken least most = json_taken ∷ values_taken least 0 most all_names

-- a command with these rules, once it is built
abbrev pub ready : List Rule → Shape
ready rules = record (new_shape (codes "ccac")) {
  rules = rules;
  disable_help_flag = true;
  disable_help_subcommand = true;
  is_built = true;
}

-- what is found of a value, of the flag, and of the flag that isn't given
abbrev pub value_row : Text → Text → Row
value_row name word = record { id = name; values = word ∷ []; count = None; source = Some CommandLine; reading = reading.AsWritten }

abbrev pub json_row : Row
json_row = record { id = codes "json"; values = codes "true" ∷ []; count = None; source = Some CommandLine; reading = reading.AsWritten }

abbrev pub default_row : Row
default_row = record { id = codes "json"; values = codes "false" ∷ []; count = None; source = Some DefaultValue; reading = reading.AsWritten }

-- the row of the flag where it was given
abbrev pub flag_row : Bool → Option Row
flag_row given = cond given (Some json_row) None

-- a value that was met last waits to be used
abbrev pub pending : Option (Text × Text) → Option (Text × List Text)
pending = option_map (λ p. (p.0, p.1 ∷ []))

abbrev pub held : List Row → Option (Text × Text) → Held
held rows last = record { rows = rows; pending = pending last; skip = 0 }

-- where the walk stands between two words
abbrev pub standing : List Row → Option (Text × Text) → ℕ → Bool → Walk
standing rows last position is_trailing = record {
  held = held rows last;
  waiting = idle;
  position = position;
  is_trailing = is_trailing;
  stopped = None;
}
