-- Reading an expression from the left: its value and the tokens behind it, or what is wrong at the first token that may
-- not stand where it does.
use Rattle.std.specs.Prelude.{ℕ, zero, suc, List, [], ◌∷◌, length, Bool, true, false, ◌&&◌, nat_le, if◌then◌else◌, codes, Option, None, Some, unwrap_or, Result, Ok, Err}
use Rattle.std.specs.Str.{bytes_eq}
use Rattle.text_lines.specs.Steps.{◌>>=◌}
use Rattle.source_text.specs.declared.lexemes.Sign.TheVariants.{Plus, Minus, Times, Dot, At}
use Rattle.source_text.specs.Tokens.{Token, word, number, sign, wrong, after}
use Rattle.weighing.specs.declared.scales.Num.{Num}
use Rattle.condition_syntax.specs.declared.conditions.Style.{Style}
use Rattle.condition_syntax.specs.declared.conditions.Style.TheVariants.{Controller, Question}
use Rattle.condition_syntax.specs.declared.expressions.Name.{Name}
use Rattle.condition_syntax.specs.declared.expressions.ETerm.{ETerm}
use Rattle.condition_syntax.specs.declared.faults.Fault.{Fault}
use Rattle.condition_syntax.specs.declared.faults.Fault.TheVariants.{WrongByte, Number, Term, Count}
use Rattle.condition_syntax.specs.Words.{fraction, is_keyword, signed}
use Rattle.condition_syntax.specs.Fronts.{stands, blame}

-- a value and the tokens behind it
abbrev pub Read : Type 0 → Type 0
Read X = Result (X × List Token) Fault

-- ---- numbers

abbrev pub is_within : ℕ → ℕ → Bool
is_within n d = nat_le n 1000000 && (nat_le 1 d && nat_le d 1000)

-- the number that a token writes; where it has no denominator, that is 1
unfoldable pub number_of : ℕ → Option ℕ → Result Num Fault
number_of n d = if is_within n (unwrap_or d 1) then Ok (fraction n (unwrap_or d 1)) else Err Number

-- ---- names

-- the word of a name
unfoldable pub word_by : List Token → Read (List ℕ)
word_by [] = Err Term
word_by (word w ∷ tokens) = if is_keyword w then Err Term else if nat_le (length w) 16 then Ok (w, tokens) else Err Count
word_by (number n d ∷ tokens) = Err Term
word_by (sign s ∷ tokens) = Err Term
word_by (wrong ∷ tokens) = Err WrongByte

-- digits alone
unfoldable pub digits_by : List Token → Read ℕ
digits_by [] = Err Term
digits_by (word w ∷ tokens) = Err Term
digits_by (number n None ∷ tokens) = Ok (n, tokens)
digits_by (number n (Some d) ∷ tokens) = Err Term
digits_by (sign s ∷ tokens) = Err Term
digits_by (wrong ∷ tokens) = Err WrongByte

abbrev pub found : Read ℕ → Read (Option ℕ)
found read = read >>= λ n. Ok (Some n.0, n.1)

-- the flow, where a `.` stands
unfoldable pub flow_by : List Token → Read (Option ℕ)
flow_by tokens = if stands Dot tokens then found (digits_by (after tokens)) else Ok (None, tokens)

-- the step behind `@`, which the credit alone may lack
unfoldable pub step_by : List ℕ → List Token → Read (Option ℕ)
step_by w tokens =
    if stands At tokens then found (digits_by (after tokens))
    else if bytes_eq w (codes "credit") then Ok (None, tokens) else Err (blame Term tokens)

-- the name that begins with this word
unfoldable pub named_by : Style → List ℕ → List Token → Read Name
named_by Controller w tokens = Ok (record { text = w; flow = None; step = None }, tokens)
named_by Question w tokens = do
  flow ← flow_by tokens
  step ← step_by w flow.1
  Ok (record { text = w; flow = flow.0; step = step.0 }, step.1)

unfoldable pub name_by : Style → List Token → Read Name
name_by style tokens = do
  w ← word_by tokens
  named_by style w.0 w.1

-- ---- terms

-- this multiple of a name, or this constant where no `*` stands
unfoldable pub factor_by : Style → Num → List Token → Read ETerm
factor_by style q tokens =
    if stands Times tokens then (name_by style (after tokens) >>= λ name. Ok (record { coef = q; name = Some name.0 }, name.1))
    else Ok (record { coef = q; name = None }, tokens)

-- once or minus once a name
unfoldable pub single_by : Style → Bool → List Token → Read ETerm
single_by style negative tokens = do
  name ← name_by style tokens
  Ok (record { coef = signed negative (fraction 1 1); name = Some name.0 }, name.1)

-- a term, which has its sign before it
unfoldable pub term_by : Style → Bool → List Token → Read ETerm
term_by style negative [] = single_by style negative []
term_by style negative (word w ∷ tokens) = single_by style negative (word w ∷ tokens)
term_by style negative (number n d ∷ tokens) = do
  q ← number_of n d
  factor_by style (signed negative q) tokens
term_by style negative (sign s ∷ tokens) = single_by style negative (sign s ∷ tokens)
term_by style negative (wrong ∷ tokens) = single_by style negative (wrong ∷ tokens)

-- what is wrong with a term too many: that it stands there, or what is wrong with its first token
unfoldable pub extra_term : List Token → Fault
extra_term [] = Term
extra_term (word w ∷ tokens) = if is_keyword w then Term else Count
extra_term (number n d ∷ tokens) = if is_within n (unwrap_or d 1) then Count else Number
extra_term (sign s ∷ tokens) = Term
extra_term (wrong ∷ tokens) = WrongByte

-- the sign with which an expression goes on: whether it is a `-`
unfoldable pub onward : List Token → Option Bool
onward tokens = if stands Plus tokens then Some false else if stands Minus tokens then Some true else None

-- what follows, if anything does, behind what is read so far
abbrev pub others_by : {X S J : Type 0} → Option J → (J → S → Result (List X × S) Fault) → S → Result (List X × S) Fault
others_by None read s = Ok ([], s)
others_by (Some joint) read s = read joint s

-- the terms, the first of which has this sign, where so many may stand
unfoldable pub terms_by : Style → ℕ → Bool → List Token → Read (List ETerm)
terms_by style zero negative tokens = Err (extra_term tokens)
terms_by style (suc room) negative tokens = do
  term ← term_by style negative tokens
  others ← others_by (onward term.1) (λ joint rest. terms_by style room joint (after rest)) term.1
  Ok (term.0 ∷ others.0, others.1)

unfoldable pub expr_by : Style → List Token → Read (List ETerm)
expr_by style tokens = if stands Minus tokens then terms_by style 16 true (after tokens) else terms_by style 16 false tokens
