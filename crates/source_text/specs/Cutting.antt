-- Cutting a line into tokens from the left.
use Rattle.std.specs.Prelude.{ℕ, zero, suc, ◌-◌, ◌^◌, min, List, [], ◌∷◌, length, Option, None, Some, ◌==◌, ◌&&◌, if◌then◌else◌}
use Rattle.std.specs.Char.{is_ascii_digit, is_ascii_alphabetic}
use Rattle.text_lines.specs.Numbers.{value}
use Rattle.source_text.specs.declared.lexemes.Sign.{Sign}
use Rattle.source_text.specs.Tokens.{Token, word, number, sign, wrong}
use Rattle.source_text.specs.Bytes.{behind_blanks, digits_of, behind_digits, word_of, behind_word, begins_with_digit}
use Rattle.source_text.specs.Signs.{sign_of, with_equals}

-- a number's part, as it counts
abbrev pub saturated : ℕ → ℕ
saturated n = min n (2 ^ 32 - 1)

-- a token, and the bytes behind it
abbrev pub Cut : Type 0
Cut = Token × List ℕ

unfoldable pub part_of : List ℕ → ℕ
part_of bytes = saturated (value (digits_of bytes))

-- the number that was begun, with the part behind a slash if one stands there
unfoldable pub number_with : ℕ → List ℕ → Cut
number_with n [] = (number n None, [])
number_with n (b ∷ bytes) =
    if (b == 47) && begins_with_digit bytes then (number n (Some (part_of bytes)), behind_digits bytes) else (number n None, b ∷ bytes)

unfoldable pub number_at : List ℕ → Cut
number_at bytes = number_with (part_of bytes) (behind_digits bytes)

unfoldable pub word_at : List ℕ → Cut
word_at bytes = (word (word_of bytes), behind_word bytes)

-- the sign that was begun, with a `=` if that makes a longer one
abbrev pub sign_with : Option Sign → Sign → List ℕ → Cut
sign_with None one bytes = (sign one, bytes)
sign_with (Some both) one [] = (sign one, [])
sign_with (Some both) one (b ∷ bytes) = if b == 61 then (sign both, bytes) else (sign one, b ∷ bytes)

-- behind a byte that begins no token nothing is read
abbrev pub sign_at : Option Sign → List ℕ → Cut
sign_at None bytes = (wrong, [])
sign_at (Some one) bytes = sign_with (with_equals one) one bytes

-- the first token of bytes that don't begin with a blank; None where no byte is left
unfoldable pub first_cut : List ℕ → Option Cut
first_cut [] = None
first_cut (b ∷ bytes) =
    if is_ascii_alphabetic b then Some (word_at (b ∷ bytes))
    else if is_ascii_digit b then Some (number_at (b ∷ bytes))
    else Some (sign_at (sign_of b) bytes)

abbrev pub tokens_by : (List ℕ → List Token) → Option Cut → List Token
tokens_by others None = []
tokens_by others (Some cut) = cut.0 ∷ others cut.1

-- the tokens of at most so many bytes
unfoldable pub tokens_within : ℕ → List ℕ → List Token
tokens_within zero bytes = []
tokens_within (suc most) bytes = tokens_by (tokens_within most) (first_cut (behind_blanks bytes))

unfoldable pub tokens : List ℕ → List Token
tokens bytes = tokens_within (length bytes) bytes
