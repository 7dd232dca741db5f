-- A line as the list of its tokens.
use Rattle.std.specs.Prelude.{ℕ, List, [], ◌∷◌, Option}
use Rattle.source_text.specs.declared.lexemes.Sign.{Sign}

pub data Token : Type 0 where
  -- a letter, and the letters, digits and underscores behind it
  word : List ℕ → Token
  -- the number before the slash and the one behind it, if there is one; a part above 2^32 - 1 counts as that number
  number : ℕ → Option ℕ → Token
  sign : Sign → Token
  -- a byte that begins no token: nothing behind it is read
  wrong : Token

-- what is left behind the first token; nothing goes past the line's end or a byte that begins no token
abbrev pub after : List Token → List Token
after [] = []
after (wrong ∷ tokens) = wrong ∷ tokens
after (word w ∷ tokens) = tokens
after (number n d ∷ tokens) = tokens
after (sign s ∷ tokens) = tokens
