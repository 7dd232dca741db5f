-- What is left of a text: the tokens of its lines, and the number that its end has.
use Rattle.std.specs.Prelude.{ℕ, List, [], ◌∷◌, map, Bool, false}
use Rattle.source_text.specs.Tokens.{after}
use Rattle.source_text.specs.Cutting.{tokens}
use Rattle.source_text.specs.Shown.{Ahead}
use Rattle.source_text.specs.Lines.{Line}
use Rattle.condition_syntax.specs.Fronts.{says}

-- a line's front
abbrev pub front_of : Line → Ahead
front_of line = record { line = line.number; tokens = tokens line.bytes }

pub record Rest : Type 0 where
  pub lines : List Ahead
  pub end : ℕ

-- the lines behind these many of a text's
unfoldable pub fronts : List Line → List Ahead
fronts lines = map front_of lines

-- behind the first token
abbrev pub behind : Ahead → Ahead
behind a = record { line = a.line; tokens = after a.tokens }

-- whether the next line begins with this word
abbrev pub first_says : List ℕ → List Ahead → Bool
first_says w [] = false
first_says w (a ∷ lines) = says w a.tokens

-- the number of the next line; where the text ends, that is the number of lines plus 1
abbrev pub number_of_next : List Ahead → ℕ → ℕ
number_of_next [] end = end
number_of_next (a ∷ lines) end = a.line
