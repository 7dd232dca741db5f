-- How a question is spelled, line by line.
use Rattle.std.specs.Prelude.{◌≡◌, ℕ, ◌≤◌, List, [], ◌∷◌, ◌++◌, length, codes, Option, None, Some}
use Rattle.whole.specs.declared.answers.Pair.{Pair}
use Rattle.source_text.specs.Tokens.{Token, word, number}
use Rattle.source_text.specs.Shown.{Ahead}
use Rattle.source_text.specs.Lines.{Line, source_lines}
use Rattle.source_text.specs.Header.{texts}
use Rattle.weighing.specs.declared.scales.Num.{Num}
use Rattle.condition_syntax.specs.declared.conditions.Style.TheVariants.{Question}
use Rattle.condition_syntax.specs.Grammar.{IsNumber, SpellsCond}
use Rattle.ctrl_syntax.specs.Rest.{fronts}
use Rattle.ctrl_syntax.specs.Grammar.{Each}
use Rattle.path_server.specs.declared.settings.Setting.{Setting}
use Rattle.question_syntax.specs.Sections.{Wanted, Sections}

-- ---- the values of lines

-- digits alone, within a range
pub data SpellsCount (low high : ℕ) : List Token → ℕ → Type 0 where
  count : {n : ℕ} → low ≤ n → n ≤ high → SpellsCount low high (number n None ∷ []) n

-- a number as a fraction of the path
abbrev pub pair_of : Num → Pair
pair_of q = record { num = q.num; den = q.den }

-- a number above 0
pub data SpellsRate : List Token → Pair → Type 0 where
  rate : {n : ℕ} {d : Option ℕ} {q : Num} → IsNumber n d q → 1 ≤ n → SpellsRate (number n d ∷ []) (pair_of q)

pub data SpellsBuffer : List Token → Option Pair → Type 0 where
  no_buffer : SpellsBuffer (word (codes "none") ∷ []) None
  buffer : {n : ℕ} {d : Option ℕ} {q : Num} → IsNumber n d q → SpellsBuffer (number n d ∷ []) (Some (pair_of q))

-- nothing
abbrev pub SpellsNothing : List Token → Unit {0} → Type 0
SpellsNothing front x = front ≡ []

-- ---- one line

-- the line's word and its value
pub record SpellsLine {X : Type 0} (title : List ℕ) (Spelled : List Token → X → Type 0) (a : Ahead) (x : X) : Type 0 where
  pub front : List Token
  pub tokens_are : a.tokens ≡ word title ∷ front
  pub spelled : Spelled front x

-- `assume COND` and `require COND`
pub record SpellsWanted (title : List ℕ) (a : Ahead) (w : Wanted) : Type 0 where
  pub cond_is : SpellsLine title (SpellsCond Question) a w.cond
  pub line_is : w.line ≡ a.line

-- ---- all lines

-- the lines of the setting
pub record SpellsSetting (lines : List Ahead) (s : Setting) (rate_line buffer_line : ℕ) : Type 0 where
  pub flows : Ahead
  pub steps : Ahead
  pub rate : Ahead
  pub jitter : Ahead
  pub rtt : Ahead
  pub buffer : Ahead
  pub budget : Ahead
  pub lines_are : lines ≡ flows ∷ steps ∷ rate ∷ jitter ∷ rtt ∷ buffer ∷ budget ∷ []
  pub flows_is : SpellsLine (codes "flows") (SpellsCount 1 4) flows s.flows
  pub steps_is : SpellsLine (codes "steps") (SpellsCount 1 32) steps s.steps
  pub rate_is : SpellsLine (codes "rate") SpellsRate rate s.path.rate
  pub rate_line_is : rate_line ≡ rate.line
  pub jitter_is : SpellsLine (codes "jitter") (SpellsCount 0 8) jitter s.path.jitter
  pub rtt_is : SpellsLine (codes "rtt") (SpellsCount 1 8) rtt s.rtt
  pub buffer_is : SpellsLine (codes "buffer") SpellsBuffer buffer s.path.buffer
  pub buffer_line_is : buffer_line ≡ buffer.line
  pub budget_is : SpellsLine (codes "budget") (SpellsCount 1 16777216) budget s.budget

-- the lines behind the header: the setting, the assumptions, the requirement and `end`
pub record Spells (lines : List Ahead) (s : Sections) : Type 0 where
  pub setting_lines : List Ahead
  pub assume_lines : List Ahead
  pub require : Ahead
  pub last : Ahead
  pub lines_are : lines ≡ setting_lines ++ (assume_lines ++ (require ∷ last ∷ []))
  pub setting_is : SpellsSetting setting_lines s.setting s.rate_line s.buffer_line
  pub assumes_are : Each (SpellsWanted (codes "assume")) assume_lines s.assumes
  pub few : length s.assumes ≤ 16
  pub require_is : SpellsWanted (codes "require") require s.require
  pub last_is : SpellsLine (codes "end") SpellsNothing last tt

-- the two texts of line 1
abbrev pub IsHeader : Line → Type 0
IsHeader line = texts line.bytes ≡ codes "ccac-question" ∷ codes "1" ∷ []

-- these bytes are a question's text
pub record IsText (bytes : List ℕ) (s : Sections) : Type 0 where
  pub header : Line
  pub lines : List Line
  pub lines_are : source_lines bytes ≡ header ∷ lines
  pub header_is : IsHeader header
  pub spelled : Spells (fronts lines) s
