-- What is printed for a question's line is read as tokens that spell it.
use Rattle.std.proofs.Common.{◌≡◌, ℕ, ◌^◌, ◌<◌, ◌≤◌, true, false, Option, None, Some, List, [], ◌∷◌, ◌++◌, refl, sym, ap, subst, ◌∙◌, arith}
use Rattle.std.specs.Prelude.{codes, unsigned_abs}
use Rattle.std.specs.Fmt.{decimal}
use Rattle.whole.specs.declared.answers.Pair.{Pair}
use Rattle.source_text.specs.Tokens.{Token, word, number}
use Rattle.source_text.specs.Spelling.{is_word}
use Rattle.source_text.specs.Printed.{AreFromLine}
use Rattle.source_text.specs.Shown.{Ahead}
use Rattle.source_text.proofs.PrintLaws.{printed_stays}
use Rattle.source_text.proofs.CleanLaws.{AreRight}
use Rattle.weighing.specs.declared.scales.Num.{Num}
use Rattle.condition_syntax.specs.declared.conditions.Style.TheVariants.{Question}
use Rattle.condition_syntax.specs.Grammar.{IsNumber, SpellsCond}
use Rattle.condition_syntax.specs.CanonicalText.{number_text, condition_text}
use Rattle.condition_syntax.specs.CanonicalTokens.{Shows}
use Rattle.condition_syntax.proofs.TextShows.{shows_word, shows_number, shows_word_then}
use Rattle.condition_syntax.proofs.ExpressionTexts.{number_prints}
use Rattle.condition_syntax.proofs.ConditionTexts.{condition_prints}
use Rattle.condition_syntax.proofs.RightTokens.{condition_right}
use Rattle.ctrl_syntax.proofs.LinesAgain.{at}
use Rattle.ctrl_syntax.proofs.LineTexts.{PrintsLine}
use Rattle.question_syntax.specs.Sections.{Wanted, wanted_at}
use Rattle.question_syntax.specs.Grammar.{SpellsCount, count, pair_of, SpellsRate, rate, SpellsBuffer, no_buffer, buffer, SpellsLine, SpellsWanted}
use Rattle.question_syntax.specs.Printed.{num_of, rate_text, buffer_text}

-- the text of a value is read as tokens that spell it
record PrintsValue {X : Type 0} (Spelled : List Token → X → Type 0) (text : List ℕ) (x : X) : Type 0 where
  front : List Token
  spelled : Spelled front x
  shows : Shows text front
  right : AreRight front

-- a line that spells the value behind its word, whatever its number
abbrev pub LineOn : {X : Type 0} → List ℕ → (List Token → X → Type 0) → X → List Token → Type 0
LineOn title Spelled x front = (n : ℕ) → SpellsLine title Spelled (at n front) x

line_prints : {X : Type 0} (title text : List ℕ) (Spelled : List Token → X → Type 0) (x : X) → is_word title ≡ true → PrintsValue Spelled text x → PrintsLine (title ++ 32 ∷ text) (LineOn title Spelled x)
line_prints title text Spelled x named p = record {
  front = word title ∷ p.front;
  shows = shows_word_then title text p.front named p.shows;
  right = (tt, p.right);
  stays = printed_stays (word title) (32 ∷ text) named;
  spelled = λ n. record { front = p.front; tokens_are = refl; spelled = p.spelled };
}

-- ---- counts

count_value : {low high n : ℕ} {front : List Token} → high < 2 ^ 32 → SpellsCount low high front n → PrintsValue (SpellsCount low high) (decimal n) n
count_value {n = n} small (count from to) = record { front = number n None ∷ []; spelled = count from to; shows = shows_number n None (omega arith); right = (tt, tt) }

pub count_prints : (title : List ℕ) (low high n : ℕ) (a : Ahead) → is_word title ≡ true → high < 2 ^ 32 → SpellsLine title (SpellsCount low high) a n
    → PrintsLine (title ++ 32 ∷ decimal n) (LineOn title (SpellsCount low high) n)
count_prints title low high n a named small is = line_prints title (decimal n) (SpellsCount low high) n named (count_value small is.spelled)

-- ---- numbers

-- a number has one numerator
one_num : (n m : ℕ) (d e : Option ℕ) (q : Num) → IsNumber n d q → IsNumber m e q → n ≡ m
one_num n m d e q is other = ap (λ (x : Num). unsigned_abs x.num) (sym is.value ∙ other.value)

rate_value : {front : List Token} {p : Pair} → SpellsRate front p → PrintsValue SpellsRate (number_text (num_of p)) p
rate_value (rate {n} {d} {q} is from) =
    let p = number_prints false n d q is in
    record { front = number p.n p.d ∷ []; spelled = rate p.is (subst (λ m. 1 ≤ m) (one_num n p.n d p.d q is p.is) from); shows = p.shows; right = (tt, tt) }

pub rate_prints : (a : Ahead) (p : Pair) → SpellsLine (codes "rate") SpellsRate a p → PrintsLine (rate_text p) (LineOn (codes "rate") SpellsRate p)
rate_prints a p is = line_prints (codes "rate") (number_text (num_of p)) SpellsRate p refl (rate_value is.spelled)

buffer_by : {front : List Token} {p : Option Pair} → SpellsBuffer front p → PrintsLine (buffer_text p) (LineOn (codes "buffer") SpellsBuffer p)
buffer_by no_buffer =
    line_prints (codes "buffer") (codes "none") SpellsBuffer None refl (record { front = word (codes "none") ∷ []; spelled = no_buffer; shows = shows_word (codes "none") refl; right = (tt, tt) })
buffer_by (buffer {n} {d} {q} is) =
    let p = number_prints false n d q is in
    line_prints (codes "buffer") (number_text q) SpellsBuffer (Some (pair_of q)) refl (record { front = number p.n p.d ∷ []; spelled = buffer p.is; shows = p.shows; right = (tt, tt) })

pub buffer_prints : (a : Ahead) (p : Option Pair) → SpellsLine (codes "buffer") SpellsBuffer a p → PrintsLine (buffer_text p) (LineOn (codes "buffer") SpellsBuffer p)
buffer_prints a p is = buffer_by is.spelled

-- ---- conditions

abbrev pub WantedOn : List ℕ → Wanted → List Token → Type 0
WantedOn title w front = (n : ℕ) → SpellsWanted title (at n front) (wanted_at n w)

pub wanted_prints : (title : List ℕ) (a : Ahead) (w : Wanted) → is_word title ≡ true → SpellsWanted title a w → AreFromLine a.tokens → PrintsLine (title ++ 32 ∷ condition_text w.cond) (WantedOn title w)
wanted_prints title a w named is from =
    let words = subst AreFromLine is.cond_is.tokens_are from in
    let p = condition_prints Question is.cond_is.front w.cond is.cond_is.spelled words.1 in
    let line = line_prints title (condition_text w.cond) (SpellsCond Question) w.cond named (record { front = p.front; spelled = p.spelled; shows = p.shows; right = condition_right p.spelled }) in
    record { front = line.front; shows = line.shows; right = line.right; stays = line.stays; spelled = λ n. record { cond_is = line.spelled n; line_is = refl } }
