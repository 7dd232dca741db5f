-- What a cursor shows of the tokens that are ahead.
use Rattle.std.specs.Prelude.{◌≡◌, ℕ, List, [], ◌∷◌, Option, None, Some, true}
use Rattle.source_text.specs.declared.lexemes.Lexeme.{Lexeme}
use Rattle.source_text.specs.declared.lexemes.Lexeme.TheVariants.{End, Wrong, Word, Number, Sign as OfSign}
use Rattle.source_text.specs.Tokens.{Token, word, number, sign, wrong, after}
use Rattle.source_text.specs.Cutting.{Cut}
use Rattle.source_text.specs.Spelling.{is_word}

-- a line's number, and its tokens that are left
pub record Ahead : Type 0 where
  pub line : ℕ
  pub tokens : List Token

-- the lexeme as a token, before those behind it
abbrev pub shown : Lexeme → List Token → List Token
shown End behind = []
shown Wrong behind = wrong ∷ []
shown (Word w) behind = word w.now ∷ behind
shown (Number num den) behind = number num den ∷ behind
shown (OfSign s) behind = sign s ∷ behind

-- the lexeme is the first of these tokens, End where there is none
abbrev pub Shows : Lexeme → List Token → Type 0
Shows End tokens = tokens ≡ []
Shows Wrong tokens = tokens ≡ wrong ∷ []
Shows (Word w) tokens = tokens ≡ word w.now ∷ after tokens
Shows (Number num den) tokens = tokens ≡ number num den ∷ after tokens
Shows (OfSign s) tokens = tokens ≡ sign s ∷ after tokens

-- the lexeme with these bytes behind it is what was cut
abbrev pub IsCut : Lexeme → List ℕ → Option Cut → Type 0
IsCut End behind cut = cut ≡ None
IsCut Wrong behind cut = cut ≡ Some (wrong, [])
IsCut (Word w) behind cut = cut ≡ Some (word w.now, behind)
IsCut (Number num den) behind cut = cut ≡ Some (number num den, behind)
IsCut (OfSign s) behind cut = cut ≡ Some (sign s, behind)

-- a lexeme holds no word but a right one
abbrev pub IsSound : Lexeme → Type 0
IsSound End = Unit {0}
IsSound Wrong = Unit {0}
IsSound (Word w) = is_word w.now ≡ true
IsSound (Number num den) = Unit {0}
IsSound (OfSign s) = Unit {0}
