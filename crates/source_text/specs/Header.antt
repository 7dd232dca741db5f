-- A line as the texts between its blanks.
use Rattle.std.specs.Prelude.{ℕ, List, [], ◌∷◌, filter, Bool, true, false}
use Rattle.std.specs.List.{slice_split}
use Rattle.source_text.specs.Bytes.{is_blank}

abbrev pub is_some_text : List ℕ → Bool
is_some_text [] = false
is_some_text (b ∷ bytes) = true

-- the line split at its runs of blanks, which may also stand at its ends
unfoldable pub texts : List ℕ → List (List ℕ)
texts line = filter is_some_text (slice_split is_blank line)
