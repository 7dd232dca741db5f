-- A text is cut into lines at LF, and a line into items at each space.
use Rattle.std.specs.Prelude.{ℕ, List, [], ◌∷◌, ◌++◌, Option, None, Some, ◌==◌, ◌≡◌, Bool, true, not}
use Rattle.std.specs.List.{slice_split, join_with_byte, list_all, AllByRecursion}

-- the pieces between the bytes c; there is at least one, and none holds the byte
unfoldable pub pieces : ℕ → List ℕ → List (List ℕ)
pieces c bytes = slice_split (λ b. b == c) bytes

-- the items, with one space between each two
abbrev pub line_of : List (List ℕ) → List ℕ
line_of items = join_with_byte 32 items

-- a line with its LF
abbrev pub ended : List (List ℕ) → List ℕ
ended items = line_of items ++ (10 ∷ [])

-- the items, each behind a space
unfoldable pub spaced : List (List ℕ) → List ℕ
spaced [] = []
spaced (item ∷ items) = (32 ∷ item) ++ spaced items

-- the lines, each with its LF
unfoldable pub text : List (List (List ℕ)) → List ℕ
text [] = []
text (line ∷ lines) = line_of line ++ (10 ∷ text lines)

-- the byte c isn't among the bytes
abbrev pub is_free : ℕ → List ℕ → Bool
is_free c bytes = list_all (λ b. not (b == c)) bytes

-- an item holds no space and no LF
pub record IsItem (item : List ℕ) : Type 0 where
  pub no_space : is_free 32 item ≡ true
  pub no_end : is_free 10 item ≡ true

abbrev pub AreItems : List (List ℕ) → Type 0
AreItems items = AllByRecursion IsItem items

-- the pieces of what is left, if anything is
abbrev pub pieces_left : ℕ → Option (List ℕ) → List (List ℕ)
pieces_left c None = []
pieces_left c (Some rest) = pieces c rest
