-- How tokens are printed, so that they are read again.
use Rattle.std.specs.Prelude.{◌≡◌, ℕ, ◌^◌, ◌<◌, List, [], ◌∷◌, ◌++◌, None, Some, is_some, Bool, true, false, ◌==◌, ◌||◌, ◌&&◌}
use Rattle.std.specs.Char.{is_ascii_digit}
use Rattle.std.specs.Fmt.{decimal}
use Rattle.std.specs.List.{AllByRecursion}
use Rattle.source_text.specs.Tokens.{Token, word, number, sign, wrong}
use Rattle.source_text.specs.Bytes.{is_word_byte, begins_with}
use Rattle.source_text.specs.Signs.{sign_text, with_equals}
use Rattle.source_text.specs.Spelling.{is_word}

-- a byte that begins no token isn't printed
abbrev pub printed : Token → List ℕ
printed (word w) = w
printed (number n None) = decimal n
printed (number n (Some d)) = decimal n ++ (47 ∷ decimal d)
printed (sign s) = sign_text s
printed wrong = []

-- what is printed is read as the token
abbrev pub IsPrintable : Token → Type 0
IsPrintable (word w) = is_word w ≡ true
IsPrintable (number n None) = n < 2 ^ 32
IsPrintable (number n (Some d)) = (n < 2 ^ 32) × (d < 2 ^ 32)
IsPrintable (sign s) = Unit {0}
IsPrintable wrong = ⊥

-- the token may stand in a line
abbrev pub IsFromLine : Token → Type 0
IsFromLine wrong = Unit {0}
IsFromLine (word w) = IsPrintable (word w)
IsFromLine (number n d) = IsPrintable (number n d)
IsFromLine (sign s) = IsPrintable (sign s)

abbrev pub AreFromLine : List Token → Type 0
AreFromLine tokens = AllByRecursion IsFromLine tokens

-- whether a byte right behind the token may belong to it
abbrev pub continues : Token → ℕ → Bool
continues (word w) b = is_word_byte b
continues (number n None) b = is_ascii_digit b || (b == 47)
continues (number n (Some d)) b = is_ascii_digit b
continues (sign s) b = is_some (with_equals s) && (b == 61)
continues wrong b = true

-- no byte right behind the token may belong to it
abbrev pub IsApart : Token → List ℕ → Type 0
IsApart token behind = begins_with (continues token) behind ≡ false
