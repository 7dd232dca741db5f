-- Which refusal a text gets that is no controller's: the first line that may not stand where it does decides, and in it the
-- first token, or the line's end, at which nothing allowed stands.
use Rattle.std.specs.Prelude.{◌≡◌, ◌≢◌, ℕ, suc, ◌≤◌, ◌<◌, List, [], ◌∷◌, ◌++◌, length, codes, Option}
use Rattle.whole.specs.declared.answers.Refusal.{Refusal}
use Rattle.source_text.specs.declared.lexemes.Sign.TheVariants.{Assign, Minus}
use Rattle.source_text.specs.Tokens.{Token, word, number, sign}
use Rattle.source_text.specs.Shown.{Ahead}
use Rattle.source_text.specs.Lines.{Line, source_lines, end_number}
use Rattle.weighing.specs.declared.scales.Num.{Num}
use Rattle.condition_syntax.specs.declared.conditions.Style.TheVariants.{Controller}
use Rattle.condition_syntax.specs.declared.expressions.ETerm.{ETerm}
use Rattle.condition_syntax.specs.declared.faults.Fault.{Fault}
use Rattle.condition_syntax.specs.RefusalRules.{rule}
use Rattle.condition_syntax.specs.WrongTokens.{RefusesExpr, RefusesCond}
use Rattle.condition_syntax.specs.Trees.{Condition}
use Rattle.condition_syntax.specs.Grammar.{IsNumber, SpellsExpr, SpellsCond}
use Rattle.condition_syntax.specs.Ends.{Taken, EndsExpr, EndsCond}
use Rattle.ctrl_syntax.specs.Rest.{fronts}
use Rattle.ctrl_syntax.specs.Grammar.{SpellsBound, kind_word, IsHeader}
use Rattle.ctrl_syntax.specs.Reading.{refusal, rule_at}

-- ---- one line

-- the parts of lines, with the rule that asks for each
pub data Part : Type 0 where
  name : ℕ → Part
  kind : Part
  said : List ℕ → ℕ → Part
  bound : Part
  assigned : Part
  guard : Part
  expression : Part

-- the part stands in front of the rest; an expression and a condition are the longest that stands there
pub data Goes : Part → List Token → List Token → Type 0 where
  a_name : {own : ℕ} {w : List ℕ} {rest : List Token} → length w ≤ 16 → Goes (name own) (word w ∷ rest) rest
  a_kind : (count : _) {rest : List Token} → Goes kind (word (kind_word count) ∷ rest) rest
  a_word : {own : ℕ} {w : List ℕ} {rest : List Token} → Goes (said w own) (word w ∷ rest) rest
  a_bound : {front rest : List Token} {q : Num} → SpellsBound front q → Goes bound (front ++ rest) rest
  a_sign : {rest : List Token} → Goes assigned (sign Assign ∷ rest) rest
  otherwise : {rest : List Token} → Goes guard (word (codes "otherwise") ∷ rest) rest
  when : {tokens rest : List Token} {c : Condition} → Taken (SpellsCond Controller) (EndsCond Controller) tokens (c, rest) → Goes guard (word (codes "when") ∷ tokens) rest
  a_sum : {tokens rest : List Token} {ts : List ETerm} → Taken (SpellsExpr Controller) (EndsExpr Controller) tokens (ts, rest) → Goes expression tokens rest

abbrev pub IsFront : Token → List Token → Type 0
IsFront t tokens = (rest : List Token) × (tokens ≡ t ∷ rest)

-- the first token is no word
abbrev pub NoWord : List Token → Type 0
NoWord tokens = (w : List ℕ) → IsFront (word w) tokens → ⊥

abbrev pub NoNumber : List Token → Type 0
NoNumber tokens = (n : ℕ) (d : Option ℕ) → IsFront (number n d) tokens → ⊥

-- The part is refused by the rule of this number. Where it doesn't stand at all, that is the rule that asks for it, or at
-- a byte that begins no token the rule of that.
pub data Stops : Part → List Token → ℕ → Type 0 where
  no_name : {own : ℕ} {tokens : List Token} → NoWord tokens → Stops (name own) tokens (rule_at own tokens)
  long_name : {own : ℕ} {w : List ℕ} {rest : List Token} → 16 < length w → Stops (name own) (word w ∷ rest) 11
  no_kind : {tokens : List Token} → (IsFront (word (codes "data")) tokens → ⊥) → (IsFront (word (codes "count")) tokens → ⊥) → Stops kind tokens (rule_at 4 tokens)
  no_word : {own : ℕ} {w : List ℕ} {tokens : List Token} → (IsFront (word w) tokens → ⊥) → Stops (said w own) tokens (rule_at own tokens)
  no_bound : {tokens : List Token} → NoNumber tokens → (IsFront (sign Minus) tokens → ⊥) → Stops bound tokens (rule_at 4 tokens)
  no_size : {tokens : List Token} → NoNumber tokens → Stops bound (sign Minus ∷ tokens) (rule_at 4 tokens)
  large_bound : {n : ℕ} {d : Option ℕ} {rest : List Token} → ((q : Num) → IsNumber n d q → ⊥) → Stops bound (number n d ∷ rest) 7
  large_size : {n : ℕ} {d : Option ℕ} {rest : List Token} → ((q : Num) → IsNumber n d q → ⊥) → Stops bound (sign Minus ∷ number n d ∷ rest) 7
  no_sign : {tokens : List Token} → (IsFront (sign Assign) tokens → ⊥) → Stops assigned tokens (rule_at 6 tokens)
  no_guard : {tokens : List Token} → (IsFront (word (codes "when")) tokens → ⊥) → (IsFront (word (codes "otherwise")) tokens → ⊥) → Stops guard tokens (rule_at 5 tokens)
  no_condition : {tokens : List Token} {fault : Fault} → RefusesCond Controller tokens fault → Stops guard (word (codes "when") ∷ tokens) (rule Controller fault)
  no_sum : {tokens : List Token} {fault : Fault} → RefusesExpr Controller tokens fault → Stops expression tokens (rule Controller fault)

-- the parts stand one after another, and nothing behind them
pub data LineGoes : List Part → List Token → Type 0 where
  ends : LineGoes [] []
  goes : {p : Part} {ps : List Part} {tokens rest : List Token} → Goes p tokens rest → LineGoes ps rest → LineGoes (p ∷ ps) tokens

-- one of the parts is refused, those before it stand; or a token is left behind all of them
pub data LineStops : List Part → List Token → ℕ → Type 0 where
  left : {t : Token} {tokens : List Token} → LineStops [] (t ∷ tokens) (rule_at 12 (t ∷ tokens))
  stops : {p : Part} {ps : List Part} {tokens : List Token} {n : ℕ} → Stops p tokens n → LineStops (p ∷ ps) tokens n
  goes_on : {p : Part} {ps : List Part} {tokens rest : List Token} {n : ℕ} → Goes p tokens rest → LineStops ps rest n → LineStops (p ∷ ps) tokens n

-- ---- the lines

-- where in the text a line stands: behind so many states, behind so many rules, or behind the window, the rate or `end`
pub data Section : Type 0 where
  states : ℕ → Section
  rules : ℕ → Section
  window : Section
  rate : Section
  end : Section

-- A line word that may stand at a place, what has to follow it, and the place behind that line.
pub data Allows : Section → List ℕ → List Part → Section → Type 0 where
  a_state : {n : ℕ} → n < 8 → Allows (states n) (codes "state") (name 4 ∷ kind ∷ said (codes "init") 4 ∷ bound ∷ bound ∷ []) (states (suc n))
  first_rule : {n : ℕ} → Allows (states n) (codes "rule") (guard ∷ []) (rules 1)
  next_rule : {n : ℕ} → n < 16 → Allows (rules n) (codes "rule") (guard ∷ []) (rules (suc n))
  a_set : {n : ℕ} → Allows (rules n) (codes "set") (name 6 ∷ assigned ∷ expression ∷ []) (rules n)
  no_rules : {n : ℕ} → Allows (states n) (codes "window") (expression ∷ []) window
  a_window : {n : ℕ} → Allows (rules n) (codes "window") (expression ∷ []) window
  a_rate : Allows window (codes "rate") (expression ∷ []) rate
  no_rate : Allows window (codes "end") [] end
  an_end : Allows rate (codes "end") [] end

-- one state or rule too many
pub data Exceeds : Section → List ℕ → Type 0 where
  states_full : Exceeds (states 8) (codes "state")
  rules_full : Exceeds (rules 16) (codes "rule")

-- the line that stands there is refused by the rule of this number
pub data Refuses : Section → List Token → ℕ → Type 0 where
  malformed : {at next : Section} {w : List ℕ} {ps : List Part} {tokens : List Token} {n : ℕ} → Allows at w ps next → LineStops ps tokens n → Refuses at (word w ∷ tokens) n
  too_many : {at : Section} {w : List ℕ} {tokens : List Token} → Exceeds at w → Refuses at (word w ∷ tokens) 11
  stray : {at : Section} {tokens : List Token} → at ≢ end
      → ((w : List ℕ) (ps : List Part) (next : Section) → Allows at w ps next → IsFront (word w) tokens → ⊥) → ((w : List ℕ) → Exceeds at w → IsFront (word w) tokens → ⊥)
      → Refuses at tokens (rule_at 3 tokens)
  behind_end : {tokens : List Token} → Refuses end tokens 13

-- the first of the lines that is refused, or the text's end before `end`
pub data FirstRefused (finish : ℕ) : Section → List Ahead → Refusal → Type 0 where
  unfinished : {at : Section} → at ≢ end → FirstRefused finish at [] (refusal 14 finish)
  here : {at : Section} {a : Ahead} {lines : List Ahead} {n : ℕ} → Refuses at a.tokens n → FirstRefused finish at (a ∷ lines) (refusal n a.line)
  further : {at next : Section} {a : Ahead} {lines : List Ahead} {w : List ℕ} {ps : List Part} {tokens : List Token} {r : Refusal}
      → Allows at w ps next → a.tokens ≡ word w ∷ tokens → LineGoes ps tokens → FirstRefused finish next lines r → FirstRefused finish at (a ∷ lines) r

-- the bytes are no controller's text, by the first rule that they break
pub data IsRefused (bytes : List ℕ) : Refusal → Type 0 where
  no_line : source_lines bytes ≡ [] → IsRefused bytes (refusal 1 1)
  no_header : (line : Line) (lines : List Line) → source_lines bytes ≡ line ∷ lines → (IsHeader line → ⊥) → IsRefused bytes (refusal 1 1)
  behind_header : {r : Refusal} (line : Line) (lines : List Line) → source_lines bytes ≡ line ∷ lines → IsHeader line
      → FirstRefused (end_number bytes) (states 0) (fronts lines) r → IsRefused bytes r
