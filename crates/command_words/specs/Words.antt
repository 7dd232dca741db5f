-- The words behind a command's own: its values, and its options.
use Rattle.std.specs.Prelude.{ℕ, Bool, true, false, List, [], ◌∷◌, Option, Some, None, codes, is_some, slice_get, ◌==◌, ◌&&◌, if◌then◌else◌}
use Rattle.std.specs.Str.{bytes_eq, chars}

abbrev pub Text : Type 0
Text = List ℕ

-- `--`, behind which no word is an option
abbrev pub is_divider : Text → Bool
is_divider word = bytes_eq word (codes "--")

-- a hyphen (45) and at least one character more
abbrev pub is_option : Text → Bool
is_option [] = false
is_option (x ∷ rest) = x == 45 && is_some (slice_get (chars rest) 0)

-- the words that are values: those that are no options, and all behind the first divider
abbrev pub values_of : List Text → List Text
values_of [] = []
values_of (word ∷ words) =
    if is_divider word then words
    else if is_option word then values_of words
    else word ∷ values_of words

-- the words that are options, which stand before the first divider
abbrev pub options_of : List Text → List Text
options_of [] = []
options_of (word ∷ words) =
    if is_divider word then []
    else if is_option word then word ∷ options_of words
    else options_of words

-- there is no option, or `--json` alone and once: whether it is there
abbrev pub json_of : List Text → Option Bool
json_of [] = Some false
json_of (option ∷ []) = if bytes_eq option (codes "--json") then Some true else None
json_of (option ∷ more ∷ options) = None
