-- What is left of a text, and the lines taken from it.
use Rattle.std.specs.Prelude.{ℕ, ◌+◌, List, [], ◌∷◌, Option, None, Some, Bool, true, false}

-- the number of the next line, and the pieces between the LFs that are left: at least one
pub record Unread : Type 0 where
  pub line : ℕ
  pub pieces : List (List ℕ)

-- the next line and what is left after it; None where no LF is left
abbrev pub first_line : ℕ → List (List ℕ) → Option (List ℕ × Unread)
first_line n [] = None
first_line n (piece ∷ []) = None
first_line n (line ∷ piece ∷ pieces) = Some (line, record { line = n + 1; pieces = piece ∷ pieces })

unfoldable pub next : Unread → Option (List ℕ × Unread)
next rest = first_line rest.line rest.pieces

-- whether not a byte is left
unfoldable pub is_over : List (List ℕ) → Bool
is_over [] = false
is_over ([] ∷ []) = true
is_over ((b ∷ bytes) ∷ pieces) = false
is_over ([] ∷ piece ∷ pieces) = false

abbrev pub is_finished : Unread → Bool
is_finished rest = is_over rest.pieces
