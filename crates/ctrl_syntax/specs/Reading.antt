-- Reading a controller's text from its front, line by line and in a line token by token: what it says, or the first rule
-- that is broken, by the line.
use Rattle.std.specs.Prelude.{ℕ, zero, suc, List, [], ◌∷◌, length, Bool, true, false, ◌&&◌, nat_le, if◌then◌else◌, codes, Option, None, Some, Result, Ok, Err}
use Rattle.std.specs.Str.{bytes_eq}
use Rattle.text_lines.specs.Steps.{◌>>=◌}
use Rattle.whole.specs.declared.answers.Refusal.{Refusal}
use Rattle.source_text.specs.declared.lexemes.Sign.TheVariants.{Assign, Minus}
use Rattle.source_text.specs.Tokens.{Token, word, number, sign, wrong}
use Rattle.source_text.specs.Shown.{Ahead}
use Rattle.source_text.specs.Lines.{Line, source_lines, end_number}
use Rattle.source_text.specs.Header.{texts}
use Rattle.weighing.specs.declared.scales.Num.{Num}
use Rattle.condition_syntax.specs.declared.conditions.Style.TheVariants.{Controller}
use Rattle.condition_syntax.specs.declared.expressions.ETerm.{ETerm}
use Rattle.condition_syntax.specs.declared.faults.Fault.{Fault}
use Rattle.condition_syntax.specs.Fronts.{stands, says}
use Rattle.condition_syntax.specs.RefusalRules.{refusal as fault_refusal}
use Rattle.condition_syntax.specs.Words.{signed}
use Rattle.condition_syntax.specs.Expressions.{number_of, expr_by}
use Rattle.condition_syntax.specs.Conditions.{condition_by}
use Rattle.condition_syntax.specs.Trees.{Condition}
use Rattle.ctrl_syntax.specs.declared.syntax.StateLine.{StateLine}
use Rattle.ctrl_syntax.specs.declared.syntax.SetLine.{SetLine}
use Rattle.ctrl_syntax.specs.declared.syntax.RateLine.{RateLine}
use Rattle.ctrl_syntax.specs.Rest.{Rest, fronts, behind, first_says, number_of_next}
use Rattle.ctrl_syntax.specs.Sections.{Rule, Sections}

-- the refusal by the rule G of this number
abbrev pub refusal : ℕ → ℕ → Refusal
refusal n line = record { letter = 71; number = n; line = line }

-- a part of a line is read from the left
abbrev pub Part : Type 0 → Type 0
Part X = Result (X × Ahead) Refusal

-- ---- what is refused

-- the rule that is broken where what this one asks for doesn't stand; a byte that begins no token has its own
abbrev pub rule_at : ℕ → List Token → ℕ
rule_at own [] = own
rule_at own (word w ∷ tokens) = own
rule_at own (number n d ∷ tokens) = own
rule_at own (sign s ∷ tokens) = own
rule_at own (wrong ∷ tokens) = 2

unfoldable pub lacks : ℕ → Ahead → Refusal
lacks own a = refusal (rule_at own a.tokens) a.line

-- ---- the parts of lines

-- what an expression's or a condition's reading gives
abbrev pub placed : {X : Type 0} → ℕ → Result (X × List Token) Fault → Part X
placed line (Ok x) = Ok (x.0, record { line = line; tokens = x.1 })
placed line (Err fault) = Err (fault_refusal Controller line fault)

unfoldable pub expr_at : Ahead → Part (List ETerm)
expr_at a = placed a.line (expr_by Controller a.tokens)

unfoldable pub condition_at : Ahead → Part Condition
condition_at a = placed a.line (condition_by Controller a.tokens)

-- a name of 16 letters at most, which the rule `own` asks for
abbrev pub name_or : ℕ → Ahead → List Token → Part (List ℕ)
name_or own a (word w ∷ tokens) = if nat_le (length w) 16 then Ok (w, behind a) else Err (refusal 11 a.line)
name_or own a tokens = Err (lacks own a)

unfoldable pub name_at : ℕ → Ahead → Part (List ℕ)
name_at own a = name_or own a a.tokens

-- this word, which the rule `own` asks for
unfoldable pub word_at : List ℕ → ℕ → Ahead → Result Ahead Refusal
word_at w own a = if says w a.tokens then Ok (behind a) else Err (lacks own a)

-- whether a state is a count
unfoldable pub kind_at : Ahead → Part Bool
kind_at a =
    if says (codes "data") a.tokens then Ok (false, behind a)
    else if says (codes "count") a.tokens then Ok (true, behind a)
    else Err (lacks 4 a)

-- the number of a bound
abbrev pub number_or : Bool → Ahead → List Token → Part Num
number_or negative a (number n d ∷ tokens) = placed a.line (number_of n d >>= λ q. Ok (signed negative q, tokens))
number_or negative a tokens = Err (lacks 4 a)

unfoldable pub number_at : Bool → Ahead → Part Num
number_at negative a = number_or negative a a.tokens

unfoldable pub bound_at : Ahead → Part Num
bound_at a = if stands Minus a.tokens then number_at true (behind a) else number_at false a

-- the sign of an assignment
unfoldable pub assign_at : Ahead → Result Ahead Refusal
assign_at a = if stands Assign a.tokens then Ok (behind a) else Err (lacks 6 a)

-- the line's end
abbrev pub done_or : Ahead → List Token → Result (Unit {0}) Refusal
done_or a [] = Ok tt
done_or a (t ∷ tokens) = Err (lacks 12 a)

unfoldable pub done_at : Ahead → Result (Unit {0}) Refusal
done_at a = done_or a a.tokens

-- ---- lines, from their front on

unfoldable pub state_at : Ahead → Result StateLine Refusal
state_at a = do
  name ← name_at 4 (behind a)
  kind ← kind_at name.1
  init ← word_at (codes "init") 4 kind.1
  lo ← bound_at init
  hi ← bound_at lo.1
  done ← done_at hi.1
  Ok (record { name = name.0; count = kind.0; lo = lo.0; hi = hi.0; line = a.line })

abbrev pub guarded : Part Condition → Part (Option Condition)
guarded read = read >>= λ c. Ok (Some c.0, c.1)

-- what stands behind `rule`
unfoldable pub guard_at : Ahead → Part (Option Condition)
guard_at a =
    if says (codes "when") a.tokens then guarded (condition_at (behind a))
    else if says (codes "otherwise") a.tokens then Ok (None, behind a)
    else Err (lacks 5 a)

-- a rule's guard, with the number of its line
unfoldable pub head_at : Ahead → Result (Option Condition × ℕ) Refusal
head_at a = do
  guard ← guard_at (behind a)
  done ← done_at guard.1
  Ok (guard.0, a.line)

unfoldable pub set_at : Ahead → Result SetLine Refusal
set_at a = do
  name ← name_at 6 (behind a)
  assign ← assign_at name.1
  terms ← expr_at assign
  done ← done_at terms.1
  Ok (record { name = name.0; expr = record { terms = terms.0 }; line = a.line })

-- the expression behind `window` or `rate`, with its line
unfoldable pub titled_at : Ahead → Result RateLine Refusal
titled_at a = do
  terms ← expr_at (behind a)
  done ← done_at terms.1
  Ok (record { expr = record { terms = terms.0 }; line = a.line })

unfoldable pub end_at : Ahead → Result (Unit {0}) Refusal
end_at a = done_at (behind a)

-- ---- the text, line by line

abbrev pub Lines : Type 0 → Type 0
Lines X = Result (X × Rest) Refusal

-- no line word that may stand here: the text ends before `end`, or the next line begins otherwise
abbrev pub stray : List Ahead → ℕ → Refusal
stray [] end = refusal 14 end
stray (a ∷ lines) end = lacks 3 a

abbrev pub line_or : {X : Type 0} → (Ahead → Result X Refusal) → List Ahead → ℕ → Lines X
line_or read [] end = Err (refusal 14 end)
line_or read (a ∷ lines) end = read a >>= λ x. Ok (x, record { lines = lines; end = end })

-- the next line
unfoldable pub line_by : {X : Type 0} → (Ahead → Result X Refusal) → Rest → Lines X
line_by read s = line_or read s.lines s.end

-- the next line, which has to begin with this word
unfoldable pub titled_by : {X : Type 0} → List ℕ → (Ahead → Result X Refusal) → Rest → Lines X
titled_by title read s = if first_says title s.lines then line_by read s else Err (stray s.lines s.end)

-- one thing after another, each of which begins with this word; at most `room` may stand, and `over` is the refusal of one
-- too many
unfoldable pub many_within : {X : Type 0} → (ℕ → Refusal) → List ℕ → (Rest → Lines X) → ℕ → Rest → Lines (List X)
many_within over title read zero s = if first_says title s.lines then Err (over (number_of_next s.lines s.end)) else Ok ([], s)
many_within over title read (suc room) s =
    if first_says title s.lines then (do
      x ← read s
      xs ← many_within over title read room x.1
      Ok (x.0 ∷ xs.0, xs.1))
    else Ok ([], s)

abbrev pub many_by : {X : Type 0} → List ℕ → (Rest → Lines X) → ℕ → Rest → Lines (List X)
many_by title read room s = many_within (refusal 11) title read room s

-- the assignments of a rule, as many as lines are left
unfoldable pub sets_by : Rest → Lines (List SetLine)
sets_by s = many_by (codes "set") (line_by set_at) (length s.lines) s

unfoldable pub rule_by : Rest → Lines Rule
rule_by s = do
  head ← line_by head_at s
  sets ← sets_by head.1
  Ok (record { guard = head.0.0; sets = sets.0; line = head.0.1 }, sets.1)

unfoldable pub rate_by : Rest → Lines (Option RateLine)
rate_by s = if first_says (codes "rate") s.lines then (line_by titled_at s >>= λ r. Ok (Some r.0, r.1)) else Ok (None, s)

-- nothing but skipped lines is left
abbrev pub nothing_or : List Ahead → Result (Unit {0}) Refusal
nothing_or [] = Ok tt
nothing_or (a ∷ lines) = Err (refusal 13 a.line)

unfoldable pub nothing_left : Rest → Result (Unit {0}) Refusal
nothing_left s = nothing_or s.lines

unfoldable pub sections_by : Rest → Result Sections Refusal
sections_by s = do
  states ← many_by (codes "state") (line_by state_at) 8 s
  rules ← many_by (codes "rule") rule_by 16 states.1
  window ← titled_by (codes "window") titled_at rules.1
  rate ← rate_by window.1
  last ← titled_by (codes "end") end_at rate.1
  done ← nothing_left last.1
  Ok (record { states = states.0; rules = rules.0; window = window.0.expr; window_line = window.0.line; rate = rate.0 })

-- whether the texts of line 1 are those of a controller's
abbrev pub names_controller : List (List ℕ) → Bool
names_controller (name ∷ version ∷ []) = bytes_eq name (codes "ccac-controller") && bytes_eq version (codes "1")
names_controller texts = false

abbrev pub text_by : List Line → ℕ → Result Sections Refusal
text_by [] end = Err (refusal 1 1)
text_by (line ∷ lines) end = if names_controller (texts line.bytes) then sections_by (record { lines = fronts lines; end = end }) else Err (refusal 1 1)

-- what the text says, or the first rule that it breaks
unfoldable pub text_of : List ℕ → Result Sections Refusal
text_of bytes = text_by (source_lines bytes) (end_number bytes)
