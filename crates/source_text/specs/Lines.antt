-- A text as its lines, of which blank ones and comments are skipped.
use Rattle.std.specs.Prelude.{◌≡◌, ℕ, ◌+◌, List, [], ◌∷◌, ◌++◌, length, filter, Bool, true, false, not, ◌==◌, ◌||◌, if◌then◌else◌}
use Rattle.std.specs.List.{AllByRecursion}
use Rattle.text_lines.specs.Pieces.{pieces, is_free}
use Rattle.source_text.specs.Bytes.{behind_blanks}

pub record Line : Type 0 where
  pub number : ℕ
  pub bytes : List ℕ

-- a CR at the end is dropped, one at most
unfoldable pub without_cr : List ℕ → List ℕ
without_cr [] = []
without_cr (b ∷ []) = if b == 13 then [] else b ∷ []
without_cr (b ∷ c ∷ bytes) = b ∷ without_cr (c ∷ bytes)

-- a last line with no LF: it is one if any byte stands there, and keeps its CR
abbrev pub last_line : List ℕ → List (List ℕ)
last_line [] = []
last_line (b ∷ bytes) = (b ∷ bytes) ∷ []

-- the lines of these pieces between the LFs
unfoldable pub lines_of : List (List ℕ) → List (List ℕ)
lines_of [] = []
lines_of (last ∷ []) = last_line last
lines_of (line ∷ piece ∷ left) = without_cr line ∷ lines_of (piece ∷ left)

unfoldable pub lines_in : List ℕ → List (List ℕ)
lines_in bytes = lines_of (pieces 10 bytes)

-- the lines with their numbers, the first of which is this
unfoldable pub numbered : ℕ → List (List ℕ) → List Line
numbered number [] = []
numbered number (line ∷ lines) = record { number = number; bytes = line } ∷ numbered (number + 1) lines

-- nothing, or a comment
abbrev pub is_void : List ℕ → Bool
is_void [] = true
is_void (b ∷ bytes) = b == 35

-- whether but for blanks the line holds nothing, or a comment
unfoldable pub is_skipped : List ℕ → Bool
is_skipped bytes = is_void (behind_blanks bytes)

-- line 1 is never skipped
unfoldable pub is_kept : Line → Bool
is_kept line = (line.number == 1) || not (is_skipped line.bytes)

unfoldable pub kept : List Line → List Line
kept lines = filter is_kept lines

unfoldable pub source_lines : List ℕ → List Line
source_lines text = kept (numbered 1 (lines_in text))

-- the number of all lines, plus 1
unfoldable pub end_number : List ℕ → ℕ
end_number text = length (lines_in text) + 1

-- ---- texts that are printed

-- the lines, each with its LF
unfoldable pub text_of : List (List ℕ) → List ℕ
text_of [] = []
text_of (line ∷ lines) = line ++ (10 ∷ text_of lines)

abbrev pub ends_with_cr : List ℕ → Bool
ends_with_cr [] = false
ends_with_cr (b ∷ []) = b == 13
ends_with_cr (b ∷ c ∷ bytes) = ends_with_cr (c ∷ bytes)

-- a line that is read as it is printed
pub record IsPlain (line : List ℕ) : Type 0 where
  pub no_end : is_free 10 line ≡ true
  pub no_cr : ends_with_cr line ≡ false
  pub stays : is_skipped line ≡ false

abbrev pub ArePlain : List (List ℕ) → Type 0
ArePlain lines = AllByRecursion IsPlain lines

-- ---- reading

-- the lines that are left of a text, and the number that its end has
pub record Unread : Type 0 where
  pub lines : List Line
  pub end : ℕ
