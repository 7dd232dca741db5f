-- The command of `clap` for a form: the flag `--json`, and one positional word for each value.
use Rattle.std.specs.Prelude.{ℕ, true, List, [], ◌∷◌, Some, codes, nat_lt, if◌then◌else◌}
use Rattle.clap.specs.Words.{App, Rule, new_app, new_rule, with_rule}
use Rattle.clap.specs.declared.builder.action.ArgAction.TheVariants.{SetTrue}
use Rattle.command_words.specs.Words.{Text}
use Rattle.command_words.specs.Forms.{Entry}

-- the names of the values that a command may have
abbrev pub all_names : List Text
all_names = codes "first" ∷ codes "second" ∷ codes "third" ∷ codes "fourth" ∷ []

abbrev pub json_rule : Rule
json_rule = record (new_rule (codes "json")) { long = Some (codes "json"); action = Some SetTrue }

-- the value at a place, which has to be given where the place is below least
abbrev pub value_rule : ℕ → ℕ → Text → Rule
value_rule least place name = record (new_rule name) { required = nat_lt place least }

abbrev pub without_help : App → App
without_help app = record app { top = record app.top { disable_help_flag = true } }

-- a command with the flag alone, and without the flag that asks for help
abbrev pub bare_app : App
bare_app = with_rule (without_help (new_app (codes "ccac"))) json_rule

-- the command with one value more, where its place is below most
abbrev pub with_value : ℕ → ℕ → App → ℕ → Text → App
with_value least most app place name = if nat_lt place most then with_rule app (value_rule least place name) else app

-- the command that takes from least to most values
abbrev pub app_of_range : ℕ → ℕ → App
app_of_range least most =
    with_value least most (with_value least most (with_value least most (with_value least most bare_app 0 (codes "first")) 1 (codes "second")) 2 (codes "third")) 3 (codes "fourth")

abbrev pub app_by : Entry → App
app_by entry = app_of_range entry.least entry.most
