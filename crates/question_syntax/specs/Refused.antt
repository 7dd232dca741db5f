-- Which refusal a text gets that is no question's: the first line that may not stand where it does decides, and in it the
-- first token, or the line's end, at which nothing allowed stands.
use Rattle.std.specs.Prelude.{◌≡◌, ℕ, suc, ◌≤◌, ◌<◌, List, [], ◌∷◌, codes, Option, None}
use Rattle.whole.specs.declared.answers.Refusal.{Refusal}
use Rattle.source_text.specs.Tokens.{Token, word, number}
use Rattle.source_text.specs.Shown.{Ahead}
use Rattle.source_text.specs.Lines.{Line, source_lines, end_number}
use Rattle.weighing.specs.declared.scales.Num.{Num}
use Rattle.condition_syntax.specs.declared.conditions.Style.TheVariants.{Question}
use Rattle.condition_syntax.specs.declared.faults.Fault.{Fault}
use Rattle.condition_syntax.specs.RefusalRules.{rule}
use Rattle.condition_syntax.specs.WrongTokens.{RefusesCond}
use Rattle.condition_syntax.specs.Trees.{Condition}
use Rattle.condition_syntax.specs.Grammar.{IsNumber, SpellsCond}
use Rattle.condition_syntax.specs.Ends.{Taken, EndsCond}
use Rattle.ctrl_syntax.specs.Rest.{fronts}
use Rattle.ctrl_syntax.specs.Reading.{rule_at}
use Rattle.ctrl_syntax.specs.Refused.{IsFront, NoNumber}
use Rattle.question_syntax.specs.Grammar.{IsHeader}
use Rattle.question_syntax.specs.Reading.{refusal}

-- ---- one line

-- the values of lines; a count has a range
pub data Value : Type 0 where
  count : ℕ → ℕ → Value
  rate : Value
  buffer : Value
  condition : Value
  nothing : Value

-- the value stands in front of the rest; a condition is the longest that stands there
pub data Goes : Value → List Token → List Token → Type 0 where
  a_count : {low high n : ℕ} {rest : List Token} → low ≤ n → n ≤ high → Goes (count low high) (number n None ∷ rest) rest
  a_rate : {n : ℕ} {d : Option ℕ} {q : Num} {rest : List Token} → IsNumber n d q → 1 ≤ n → Goes rate (number n d ∷ rest) rest
  no_buffer : {rest : List Token} → Goes buffer (word (codes "none") ∷ rest) rest
  a_buffer : {n : ℕ} {d : Option ℕ} {q : Num} {rest : List Token} → IsNumber n d q → Goes buffer (number n d ∷ rest) rest
  a_condition : {tokens rest : List Token} {c : Condition} → Taken (SpellsCond Question) (EndsCond Question) tokens (c, rest) → Goes condition tokens rest
  nowhere : {tokens : List Token} → Goes nothing tokens tokens

-- no digits alone stand first
abbrev pub NoDigits : List Token → Type 0
NoDigits tokens = (n : ℕ) → IsFront (number n None) tokens → ⊥

-- no number within the limits is written so
abbrev pub IsLarge : ℕ → Option ℕ → Type 0
IsLarge n d = (q : Num) → IsNumber n d q → ⊥

-- The value is refused by the rule of this number. Where it doesn't stand at all, that is the rule of a line's form, or at
-- a byte that begins no token the rule of that.
pub data Stops : Value → List Token → ℕ → Type 0 where
  no_count : {low high : ℕ} {tokens : List Token} → NoDigits tokens → Stops (count low high) tokens (rule_at 4 tokens)
  too_small : {low high n : ℕ} {rest : List Token} → n < low → Stops (count low high) (number n None ∷ rest) 6
  too_great : {low high n : ℕ} {rest : List Token} → high < n → Stops (count low high) (number n None ∷ rest) 6
  no_rate : {tokens : List Token} → NoNumber tokens → Stops rate tokens (rule_at 4 tokens)
  large_rate : {n : ℕ} {d : Option ℕ} {rest : List Token} → IsLarge n d → Stops rate (number n d ∷ rest) 5
  zero_rate : {d : Option ℕ} {q : Num} {rest : List Token} → IsNumber 0 d q → Stops rate (number 0 d ∷ rest) 6
  neither : {tokens : List Token} → NoNumber tokens → (IsFront (word (codes "none")) tokens → ⊥) → Stops buffer tokens (rule_at 4 tokens)
  large_buffer : {n : ℕ} {d : Option ℕ} {rest : List Token} → IsLarge n d → Stops buffer (number n d ∷ rest) 5
  no_condition : {tokens : List Token} {fault : Fault} → RefusesCond Question tokens fault → Stops condition tokens (rule Question fault)

-- a line's word and the value behind it
pub record Kind : Type 0 where
  pub title : List ℕ
  pub value : Value

-- the line is of this kind
pub record LineGoes (k : Kind) (tokens : List Token) : Type 0 where
  pub front : List Token
  pub tokens_are : tokens ≡ word k.title ∷ front
  pub goes : Goes k.value front []

-- behind its word the line is refused: its value, or a token behind that
pub data ValueStops (v : Value) : List Token → ℕ → Type 0 where
  stops : {tokens : List Token} {n : ℕ} → Stops v tokens n → ValueStops v tokens n
  left : {t : Token} {tokens rest : List Token} → Goes v tokens (t ∷ rest) → ValueStops v tokens (rule_at 10 (t ∷ rest))

-- a line of this kind is wanted, and the line is refused
pub data LineStops (k : Kind) : List Token → ℕ → Type 0 where
  stray : {tokens : List Token} → (IsFront (word k.title) tokens → ⊥) → LineStops k tokens (rule_at 3 tokens)
  malformed : {tokens : List Token} {n : ℕ} → ValueStops k.value tokens n → LineStops k (word k.title ∷ tokens) n

-- ---- the lines

abbrev pub kind : List ℕ → Value → Kind
kind title value = record { title = title; value = value }

-- the lines of the setting
abbrev pub setting_kinds : List Kind
setting_kinds =
    kind (codes "flows") (count 1 4)
    ∷ kind (codes "steps") (count 1 32)
    ∷ kind (codes "rate") rate
    ∷ kind (codes "jitter") (count 0 8)
    ∷ kind (codes "rtt") (count 1 8)
    ∷ kind (codes "buffer") buffer
    ∷ kind (codes "budget") (count 1 16777216)
    ∷ []

-- the lines behind the assumptions
abbrev pub last_kinds : List Kind
last_kinds = kind (codes "require") condition ∷ kind (codes "end") nothing ∷ []

-- the first refusal where lines of these kinds are wanted one after another, and where `Behind` says what is refused behind them
pub data FirstOf (finish : ℕ) (Behind : List Ahead → Refusal → Type 0) : List Kind → List Ahead → Refusal → Type 0 where
  unfinished : {k : Kind} {ks : List Kind} → FirstOf finish Behind (k ∷ ks) [] (refusal 11 finish)
  here : {k : Kind} {ks : List Kind} {a : Ahead} {lines : List Ahead} {n : ℕ} → LineStops k a.tokens n → FirstOf finish Behind (k ∷ ks) (a ∷ lines) (refusal n a.line)
  further : {k : Kind} {ks : List Kind} {a : Ahead} {lines : List Ahead} {r : Refusal} → LineGoes k a.tokens → FirstOf finish Behind ks lines r → FirstOf finish Behind (k ∷ ks) (a ∷ lines) r
  behind : {lines : List Ahead} {r : Refusal} → Behind lines r → FirstOf finish Behind [] lines r

-- a line behind `end`, whatever it holds
pub data AfterEnd : List Ahead → Refusal → Type 0 where
  after_end : {a : Ahead} {lines : List Ahead} → AfterEnd (a ∷ lines) (refusal 10 a.line)

abbrev pub NoAssume : List Ahead → Type 0
NoAssume lines = (a : Ahead) (others : List Ahead) (tokens : List Token) → lines ≡ a ∷ others → a.tokens ≡ word (codes "assume") ∷ tokens → ⊥

-- the first refusal where so many assumptions may stand
pub data FirstOfAssumes (finish : ℕ) : ℕ → List Ahead → Refusal → Type 0 where
  too_many : {a : Ahead} {lines : List Ahead} {tokens : List Token} → a.tokens ≡ word (codes "assume") ∷ tokens → FirstOfAssumes finish 0 (a ∷ lines) (refusal 9 a.line)
  at_one : {room : ℕ} {a : Ahead} {lines : List Ahead} {tokens : List Token} {n : ℕ} → a.tokens ≡ word (codes "assume") ∷ tokens → ValueStops condition tokens n
      → FirstOfAssumes finish (suc room) (a ∷ lines) (refusal n a.line)
  behind_one : {room : ℕ} {a : Ahead} {lines : List Ahead} {r : Refusal} → LineGoes (kind (codes "assume") condition) a.tokens → FirstOfAssumes finish room lines r
      → FirstOfAssumes finish (suc room) (a ∷ lines) r
  behind_all : {room : ℕ} {lines : List Ahead} {r : Refusal} → NoAssume lines → FirstOf finish AfterEnd last_kinds lines r → FirstOfAssumes finish room lines r

-- the first of the lines behind the header that is refused, or the text's end before `end`
abbrev pub FirstRefused : ℕ → List Ahead → Refusal → Type 0
FirstRefused finish lines r = FirstOf finish (FirstOfAssumes finish 16) setting_kinds lines r

-- the bytes are no question's text, by the first rule that they break
pub data IsRefused (bytes : List ℕ) : Refusal → Type 0 where
  no_line : source_lines bytes ≡ [] → IsRefused bytes (refusal 1 1)
  no_header : (line : Line) (lines : List Line) → source_lines bytes ≡ line ∷ lines → (IsHeader line → ⊥) → IsRefused bytes (refusal 1 1)
  behind_header : {r : Refusal} (line : Line) (lines : List Line) → source_lines bytes ≡ line ∷ lines → IsHeader line
      → FirstRefused (end_number bytes) (fronts lines) r → IsRefused bytes r
