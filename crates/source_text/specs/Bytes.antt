-- The kinds of bytes that a line's tokens are made of.
use Rattle.std.specs.Prelude.{ℕ, List, [], ◌∷◌, drop, Bool, false, ◌==◌, ◌||◌}
use Rattle.std.specs.Char.{is_ascii_digit, is_ascii_alphabetic, is_ascii_alphanumeric}
use Rattle.std.specs.List.{prefix_len, take_while}

-- a space or a tab
abbrev pub is_blank : ℕ → Bool
is_blank b = (b == 32) || (b == 9)

-- a byte that may stand in a word behind its first letter: a letter, a digit or an underscore
abbrev pub is_word_byte : ℕ → Bool
is_word_byte b = is_ascii_alphanumeric b || (b == 95)

unfoldable pub behind_blanks : List ℕ → List ℕ
behind_blanks bytes = drop (prefix_len is_blank bytes) bytes

-- the digits in front, and what is behind them
unfoldable pub digits_of : List ℕ → List ℕ
digits_of bytes = take_while is_ascii_digit bytes

unfoldable pub behind_digits : List ℕ → List ℕ
behind_digits bytes = drop (prefix_len is_ascii_digit bytes) bytes

-- the letters, digits and underscores in front, and what is behind them
unfoldable pub word_of : List ℕ → List ℕ
word_of bytes = take_while is_word_byte bytes

unfoldable pub behind_word : List ℕ → List ℕ
behind_word bytes = drop (prefix_len is_word_byte bytes) bytes

-- whether the first byte is of this kind
abbrev pub begins_with : (ℕ → Bool) → List ℕ → Bool
begins_with kind [] = false
begins_with kind (b ∷ bytes) = kind b

abbrev pub begins_with_digit : List ℕ → Bool
begins_with_digit bytes = begins_with is_ascii_digit bytes

abbrev pub begins_with_letter : List ℕ → Bool
begins_with_letter bytes = begins_with is_ascii_alphabetic bytes
