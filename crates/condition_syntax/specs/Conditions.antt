-- Reading a condition from the left, with the comparisons counted over all of it.
use Rattle.std.specs.Prelude.{ℕ, zero, suc, ◌+◌, List, [], ◌∷◌, length, Bool, true, false, ◌&&◌, nat_le, if◌then◌else◌, codes, Option, None, Some, unwrap_or, Result, Ok, Err}
use Rattle.text_lines.specs.Steps.{◌>>=◌}
use Rattle.source_text.specs.declared.lexemes.Sign.{Sign}
use Rattle.source_text.specs.declared.lexemes.Sign.TheVariants.{AtLeast, Minus, Open, Close}
use Rattle.source_text.specs.Tokens.{Token, word, number, sign, wrong, after}
use Rattle.weighing.specs.declared.scales.Num.{Num}
use Rattle.weighing.specs.declared.weighings.Rel5.{Rel5}
use Rattle.condition_syntax.specs.declared.conditions.Style.{Style}
use Rattle.condition_syntax.specs.declared.conditions.Style.TheVariants.{Controller, Question}
use Rattle.condition_syntax.specs.declared.faults.Fault.{Fault}
use Rattle.condition_syntax.specs.declared.faults.Fault.TheVariants.{WrongByte, Number, Part, Depth, Count}
use Rattle.condition_syntax.specs.declared.openings.Opening.{Opening}
use Rattle.condition_syntax.specs.declared.openings.Opening.TheVariants as opens
use Rattle.condition_syntax.specs.Words.{is_keyword, rel_of}
use Rattle.condition_syntax.specs.Fronts.{stands, says, blame}
use Rattle.condition_syntax.specs.Expressions.{Read, is_within, number_of, expr_by}
use Rattle.condition_syntax.specs.Trees.{Condition, always, never, comparison, delay, opposite, conjoined, disjoined}

-- how many comparisons of the condition have begun, and the tokens that are left
pub record Pending : Type 0 where
  pub begun : ℕ
  pub tokens : List Token

abbrev pub pending : ℕ → List Token → Pending
pending begun tokens = record { begun = begun; tokens = tokens }

-- a reader of conditions of one kind
abbrev pub Reader : Type 0
Reader = Pending → Result (Condition × Pending) Fault

-- behind the first token
abbrev pub behind : Pending → Pending
behind s = record { begun = s.begun; tokens = after s.tokens }

-- ---- comparisons and tests of delay

-- what is wrong with the first token of a comparison, if anything is
unfoldable pub side_begins : List Token → Result (Unit {0}) Fault
side_begins [] = Err Part
side_begins (word w ∷ tokens) = if is_keyword w then Err Part else if nat_le (length w) 16 then Ok tt else Err Count
side_begins (number n d ∷ tokens) = if is_within n (unwrap_or d 1) then Ok tt else Err Number
side_begins (sign s ∷ tokens) = if stands Minus (sign s ∷ tokens) then Ok tt else Err Part
side_begins (wrong ∷ tokens) = Err WrongByte

-- one comparison more; a condition has 16 at most
unfoldable pub counted : ℕ → Result ℕ Fault
counted begun = if nat_le 16 begun then Err Count else Ok (begun + 1)

abbrev pub rel_or : Option Rel5 → List Token → Read Rel5
rel_or None tokens = Err Part
rel_or (Some rel) tokens = Ok (rel, tokens)

unfoldable pub rel_by : List Token → Read Rel5
rel_by [] = Err Part
rel_by (word w ∷ tokens) = Err Part
rel_by (number n d ∷ tokens) = Err Part
rel_by (sign s ∷ tokens) = rel_or (rel_of s) tokens
rel_by (wrong ∷ tokens) = Err WrongByte

unfoldable pub comparison_by : Style → Reader
comparison_by style s = do
  begins ← side_begins s.tokens
  n ← counted s.begun
  left ← expr_by style s.tokens
  rel ← rel_by left.1
  right ← expr_by style rel.1
  Ok (comparison (record { terms = left.0 }) rel.0 (record { terms = right.0 }), record { begun = n; tokens = right.1 })

-- a number where the rest of a test of delay is wanted
unfoldable pub rows_by : List Token → Read Num
rows_by [] = Err Part
rows_by (word w ∷ tokens) = Err Part
rows_by (number n d ∷ tokens) = number_of n d >>= λ q. Ok (q, tokens)
rows_by (sign s ∷ tokens) = Err Part
rows_by (wrong ∷ tokens) = Err WrongByte

-- this sign
unfoldable pub sign_by : Sign → List Token → Result (List Token) Fault
sign_by s tokens = if stands s tokens then Ok (after tokens) else Err (blame Part tokens)

-- from the word `delay` on
unfoldable pub delay_by : Reader
delay_by s = do
  n ← counted s.begun
  rest ← sign_by AtLeast (after s.tokens)
  q ← rows_by rest
  Ok (delay q.0, record { begun = n; tokens = q.1 })

-- ---- parts

abbrev pub has_delays : Style → Bool
has_delays Controller = true
has_delays Question = false

unfoldable pub opening_of : Style → List Token → Opening
opening_of style tokens =
    if stands Open tokens then opens.Bracket
    else if says (codes "not") tokens then opens.Not
    else if says (codes "true") tokens then opens.True
    else if says (codes "false") tokens then opens.False
    else if has_delays style && says (codes "delay") tokens then opens.Delay
    else opens.Comparison

-- a chain of parts joined by a word: one, and behind each such word another. It has fewer parts than `most`
unfoldable pub chain_by : List ℕ → Reader → ℕ → Pending → Result (List Condition × Pending) Fault
chain_by joint part zero s = Err Part
chain_by joint part (suc most) s = do
  c ← part s
  cs ← (if says joint c.1.tokens then chain_by joint part most (behind c.1) else Ok ([], c.1))
  Ok (c.0 ∷ cs.0, cs.1)

unfoldable pub conjunction_by : Reader → Reader
conjunction_by part s = do
  cs ← chain_by (codes "and") part (suc (length s.tokens)) s
  Ok (conjoined cs.0, cs.1)

-- a condition with these parts
unfoldable pub joined_by : Reader → Reader
joined_by part s = do
  cs ← chain_by (codes "or") (conjunction_by part) (suc (length s.tokens)) s
  Ok (disjoined cs.0, cs.1)

-- what `not` is of
abbrev pub opposite_by : Reader → Reader
opposite_by part s = do
  c ← part (behind s)
  Ok (opposite c.0, c.1)

-- what stands between brackets
abbrev pub bracketed_by : Reader → Reader
bracketed_by whole s = do
  c ← whole (behind s)
  rest ← sign_by Close c.1.tokens
  Ok (c.0, record { begun = c.1.begun; tokens = rest })

-- a part that opens so, by the readers of what is nested in it
abbrev pub opened_by : Style → Reader → Reader → Opening → Reader
opened_by style part whole opens.Not s = opposite_by part s
opened_by style part whole opens.Bracket s = bracketed_by whole s
opened_by style part whole opens.True s = Ok (always, behind s)
opened_by style part whole opens.False s = Ok (never, behind s)
opened_by style part whole opens.Delay s = delay_by s
opened_by style part whole opens.Comparison s = comparison_by style s

-- where no nesting may open
abbrev pub too_deep : Reader
too_deep s = Err Depth

-- a part in which so many nestings may open
unfoldable pub part_by : Style → ℕ → Reader
part_by style zero s = opened_by style too_deep too_deep (opening_of style s.tokens) s
part_by style (suc room) s = opened_by style (part_by style room) (joined_by (part_by style room)) (opening_of style s.tokens) s

unfoldable pub condition_within : Style → ℕ → Reader
condition_within style room = joined_by (part_by style room)

-- the whole of a condition
unfoldable pub condition_by : Style → List Token → Read Condition
condition_by style tokens = do
  c ← condition_within style 16 (pending 0 tokens)
  Ok (c.0, c.1.tokens)
