-- What the tokens of a canonical text spell.
use Rattle.std.specs.Prelude.{◌≡◌, ℕ, List, ◌++◌, false, ◌==◌, ◌||◌}
use Rattle.source_text.specs.Tokens.{Token}
use Rattle.source_text.specs.Bytes.{is_word_byte, begins_with}
use Rattle.source_text.specs.Cutting.{tokens}

-- no letter, digit, underscore or slash stands first, so that a word or a number in front ends there
abbrev pub EndsToken : List ℕ → Type 0
EndsToken bytes = begins_with (λ b. is_word_byte b || (b == 47)) bytes ≡ false

-- the text is read as these tokens, whatever is behind it
abbrev pub Shows : List ℕ → List Token → Type 0
Shows text front = (rest : List ℕ) → EndsToken rest → tokens (text ++ rest) ≡ front ++ tokens rest

-- the text is read as tokens that spell the value
pub record Prints {X : Type 0} (Spells : List Token → X → Type 0) (text : List ℕ) (x : X) : Type 0 where
  pub front : List Token
  pub spelled : Spells front x
  pub shows : Shows text front
