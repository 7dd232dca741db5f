-- The words without options, as they are carried out.
use Rattle.std.specs.Prelude.{ℕ, Bool, false, List, [], ◌∷◌, Option, None, Some, map, string_bytes}
use Rattle.command_words.specs.Forms.{RequestView}
use Rattle.command_table.specs.declared.plain.Plain.{Plain}

-- the words of what is asked for; there are none where nothing is asked for
abbrev pub plain_of : Option RequestView → List (List ℕ)
plain_of None = []
plain_of (Some asked) = asked.word ∷ asked.values

abbrev pub wants_json : Option RequestView → Bool
wants_json None = false
wants_json (Some asked) = asked.json

-- the bytes of the words
abbrev pub bytes_of : Plain → List (List ℕ)
bytes_of plain = map string_bytes plain.words.items
