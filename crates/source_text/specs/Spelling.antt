-- What spells a token, and how a line is cut into tokens: always the longest one.
use Rattle.std.specs.Prelude.{◌≡◌, ◌≤◌, ℕ, List, [], ◌∷◌, ◌++◌, length, None, Some, Bool, true, false, ◌&&◌}
use Rattle.std.specs.Char.{is_ascii_alphabetic}
use Rattle.std.specs.List.{list_all}
use Rattle.text_lines.specs.Numbers.{all_digits, value}
use Rattle.source_text.specs.Tokens.{Token, word, number, sign, wrong}
use Rattle.source_text.specs.Bytes.{is_blank, is_word_byte}
use Rattle.source_text.specs.Signs.{sign_text}
use Rattle.source_text.specs.Cutting.{saturated}

-- a letter, and then letters, digits and underscores
abbrev pub is_word : List ℕ → Bool
is_word [] = false
is_word (b ∷ bytes) = is_ascii_alphabetic b && list_all is_word_byte bytes

-- digits, at least one
abbrev pub is_number : List ℕ → Bool
is_number [] = false
is_number (b ∷ bytes) = all_digits (b ∷ bytes)

-- the digits of a part that counts as this number
abbrev pub IsPart : List ℕ → ℕ → Type 0
IsPart digits n = (is_number digits ≡ true) × (saturated (value digits) ≡ n)

-- the bytes spell the token
abbrev pub Spells : List ℕ → Token → Type 0
Spells bytes (word w) = (bytes ≡ w) × (is_word w ≡ true)
Spells bytes (number n None) = IsPart bytes n
Spells bytes (number n (Some d)) = (num : List ℕ) × ((den : List ℕ) × ((bytes ≡ num ++ (47 ∷ den)) × IsPart num n × IsPart den d))
Spells bytes (sign s) = bytes ≡ sign_text s
Spells bytes wrong = ⊥

-- the bytes begin with the token, and no longer front of them spells one
pub record IsFirst (bytes : List ℕ) (token : Token) (behind : List ℕ) : Type 0 where
  pub front : List ℕ
  pub begins : bytes ≡ front ++ behind
  pub spelled : Spells front token
  pub longest : (longer rest : List ℕ) (other : Token) → bytes ≡ longer ++ rest → Spells longer other → length longer ≤ length front

-- no front of the bytes spells a token
abbrev pub BeginsNone : List ℕ → Type 0
BeginsNone bytes = (front rest : List ℕ) (token : Token) → bytes ≡ front ++ rest → Spells front token → ⊥

abbrev pub are_blank : List ℕ → Bool
are_blank bytes = list_all is_blank bytes

-- These are the tokens of the bytes: blanks alone have none; behind blanks stands a byte that begins no token, where reading
-- ends; or behind blanks stands a token, the longest, with the others behind it.
pub data IsCutInto : List ℕ → List Token → Type 0 where
  ends : {bytes : List ℕ} → are_blank bytes ≡ true → IsCutInto bytes []
  stops : {bytes : List ℕ} (blanks : List ℕ) (b : ℕ) (rest : List ℕ) → bytes ≡ blanks ++ (b ∷ rest) → are_blank blanks ≡ true → is_blank b ≡ false
      → BeginsNone (b ∷ rest) → IsCutInto bytes (wrong ∷ [])
  goes_on : {bytes : List ℕ} {token : Token} {tokens : List Token} (blanks more behind : List ℕ) → bytes ≡ blanks ++ more → are_blank blanks ≡ true
      → IsFirst more token behind → IsCutInto behind tokens → IsCutInto bytes (token ∷ tokens)
