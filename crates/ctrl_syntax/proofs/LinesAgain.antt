-- What spells a line is read from it.
use Rattle.std.proofs.Common.{◌≡◌, ℕ, ◌≤◌, Bool, true, false, cond, Option, None, Some, Ok, Err, List, [], ◌∷◌, ◌++◌, length, refl, sym, ap, ◌∙◌}
use Rattle.std.specs.Prelude.{codes}
use Rattle.std.proofs.lemmas.List.{append-nil}
use Rattle.std.proofs.lemmas.Bool.{le-leb}
use Rattle.text_lines.specs.Steps.{◌>>=◌}
use Rattle.source_text.specs.declared.lexemes.Sign.TheVariants.{Assign}
use Rattle.source_text.specs.Tokens.{Token, word, number, sign}
use Rattle.source_text.specs.Shown.{Ahead}
use Rattle.weighing.specs.declared.scales.Num.{Num}
use Rattle.condition_syntax.specs.declared.conditions.Style.TheVariants.{Controller}
use Rattle.condition_syntax.specs.declared.expressions.ETerm.{ETerm}
use Rattle.condition_syntax.specs.Fronts.{stands, says}
use Rattle.condition_syntax.specs.Words.{signed}
use Rattle.condition_syntax.specs.Expressions.{expr_by}
use Rattle.condition_syntax.specs.Conditions.{condition_by}
use Rattle.condition_syntax.specs.Trees.{Condition}
use Rattle.condition_syntax.specs.Grammar.{IsNumber, SpellsExpr, SpellsCond}
use Rattle.condition_syntax.proofs.FrontLaws.{says_there}
use Rattle.condition_syntax.proofs.EndLaws.{expr_ends, condition_ends, end_stops}
use Rattle.condition_syntax.proofs.ExpressionsAgain.{number_again, expr_again}
use Rattle.condition_syntax.proofs.ConditionsAgain.{condition_again}
use Rattle.ctrl_syntax.specs.declared.syntax.StateLine.{StateLine}
use Rattle.ctrl_syntax.specs.declared.syntax.SetLine.{SetLine}
use Rattle.ctrl_syntax.specs.declared.syntax.RateLine.{RateLine}
use Rattle.ctrl_syntax.specs.Grammar.{SpellsBound, unsigned, negative, kind_word, SpellsState, SpellsGuard, when, otherwise, SpellsSet, SpellsTitled}
use Rattle.ctrl_syntax.specs.Reading.{refusal, lacks, placed, expr_at, condition_at, name_at, word_at, kind_at, number_at, bound_at, assign_at, done_at, guarded, guard_at, state_at, head_at, set_at, titled_at, end_at}

-- a place in a line
abbrev pub at : ℕ → List Token → Ahead
at line tokens = record { line = line; tokens = tokens }

-- ---- the parts

pub name_again : (own line : ℕ) (w : List ℕ) (rest : List Token) → length w ≤ 16 → name_at own (at line (word w ∷ rest)) ≡ Ok (w, at line rest)
unfolding name_at
name_again own line w rest short = ap (λ (b : Bool). cond b (Ok (w, at line rest)) (Err (refusal 11 line))) (le-leb (length w) 16 short)

pub word_again : (w : List ℕ) (own line : ℕ) (rest : List Token) → word_at w own (at line (word w ∷ rest)) ≡ Ok (at line rest)
unfolding word_at
word_again w own line rest = ap (λ (b : Bool). cond b (Ok (at line rest)) (Err (lacks own (at line (word w ∷ rest))))) (says_there w rest)

pub kind_again : (count : Bool) (line : ℕ) (rest : List Token) → kind_at (at line (word (kind_word count) ∷ rest)) ≡ Ok (count, at line rest)
unfolding kind_at says
kind_again false line rest = refl
kind_again true line rest = refl

size_again : (sg : Bool) (line n : ℕ) (d : Option ℕ) (q : Num) (rest : List Token) → IsNumber n d q → number_at sg (at line (number n d ∷ rest)) ≡ Ok (signed sg q, at line rest)
unfolding number_at
size_again sg line n d q rest is = ap (λ r. placed line (r >>= λ x. Ok (signed sg x, rest))) (number_again n d q is)

pub bound_again : {front : List Token} {q : Num} (line : ℕ) (rest : List Token) → SpellsBound front q → bound_at (at line (front ++ rest)) ≡ Ok (q, at line rest)
unfolding bound_at stands
bound_again line rest (unsigned {n} {d} {q} is) = size_again false line n d q rest is
bound_again line rest (negative {n} {d} {q} is) = size_again true line n d q rest is

bound_last : {front : List Token} {q : Num} (line : ℕ) → SpellsBound front q → bound_at (at line front) ≡ Ok (q, at line [])
bound_last {front} {q} line is = ap (λ (ts : List Token). bound_at (at line ts)) (sym (append-nil front)) ∙ bound_again line [] is

pub assign_again : (line : ℕ) (rest : List Token) → assign_at (at line (sign Assign ∷ rest)) ≡ Ok (at line rest)
unfolding assign_at stands
assign_again line rest = refl

expr_last : {front : List Token} {ts : List ETerm} (line : ℕ) → SpellsExpr Controller front ts → expr_at (at line front) ≡ Ok (ts, at line [])
unfolding expr_at
expr_last {front} {ts} line is =
    ap (λ (all : List Token). placed line (expr_by Controller all)) (sym (append-nil front)) ∙ ap (λ r. placed line r) (expr_again [] is (expr_ends [] end_stops.expr is))

condition_last : {front : List Token} {c : Condition} (line : ℕ) → SpellsCond Controller front c → condition_at (at line front) ≡ Ok (c, at line [])
unfolding condition_at
condition_last {front} {c} line is =
    ap (λ (all : List Token). placed line (condition_by Controller all)) (sym (append-nil front)) ∙ ap (λ r. placed line r) (condition_again Controller front c [] is (condition_ends [] end_stops Controller front c is))

done_again : (line : ℕ) → done_at (at line []) ≡ Ok tt
unfolding done_at
done_again line = refl

-- ---- the lines

state_there : {lo hi : List Token} {l h : Num} (line : ℕ) (name : List ℕ) (count : Bool) → length name ≤ 16 → SpellsBound lo l → SpellsBound hi h
    → state_at (at line (word (codes "state") ∷ word name ∷ word (kind_word count) ∷ word (codes "init") ∷ (lo ++ hi))) ≡ Ok (record { name = name; count = count; lo = l; hi = h; line = line })
unfolding state_at
state_there {lo} {hi} {l} {h} line name count short low high =
    rw (
      name_again 4 line name (word (kind_word count) ∷ word (codes "init") ∷ (lo ++ hi)) short,
      kind_again count line (word (codes "init") ∷ (lo ++ hi)),
      word_again (codes "init") 4 line (lo ++ hi),
      bound_again line hi low,
      bound_last line high,
      done_again line,
    ) refl

pub state_again : (a : Ahead) (s : StateLine) → SpellsState a s → state_at a ≡ Ok s
state_again a s is =
    ap (λ (ts : List Token). state_at (at a.line ts)) is.tokens_are ∙ state_there a.line s.name s.count is.short is.lo_is is.hi_is
    ∙ ap (λ n. Ok (record { name = s.name; count = s.count; lo = s.lo; hi = s.hi; line = n })) (sym is.line_is)

when_again : {front : List Token} {c : Condition} (line : ℕ) → SpellsCond Controller front c → guard_at (at line (word (codes "when") ∷ front)) ≡ Ok (Some c, at line [])
unfolding guard_at says
when_again line is = ap guarded (condition_last line is)

otherwise_again : (line : ℕ) → guard_at (at line (word (codes "otherwise") ∷ [])) ≡ Ok (None, at line [])
unfolding guard_at says
otherwise_again line = refl

head_there : {tokens : List Token} {guard : Option Condition} (line : ℕ) → SpellsGuard tokens guard → head_at (at line tokens) ≡ Ok (guard, line)
unfolding head_at
head_there line (when {front} {c} is) = rw (when_again line is, done_again line) refl
head_there line otherwise = rw (otherwise_again line, done_again line) refl

pub head_again : (a : Ahead) (guard : Option Condition) (n : ℕ) → SpellsGuard a.tokens guard → n ≡ a.line → head_at a ≡ Ok (guard, n)
head_again a guard n is same = head_there a.line is ∙ ap (λ k. Ok (guard, k)) (sym same)

set_there : {front : List Token} {ts : List ETerm} (line : ℕ) (name : List ℕ) → length name ≤ 16 → SpellsExpr Controller front ts
    → set_at (at line (word (codes "set") ∷ word name ∷ sign Assign ∷ front)) ≡ Ok (record { name = name; expr = record { terms = ts }; line = line })
unfolding set_at
set_there {front} {ts} line name short is = rw (name_again 6 line name (sign Assign ∷ front) short, assign_again line front, expr_last line is, done_again line) refl

pub set_again : (a : Ahead) (s : SetLine) → SpellsSet a s → set_at a ≡ Ok s
set_again a s is =
    ap (λ (ts : List Token). set_at (at a.line ts)) is.tokens_are ∙ set_there a.line s.name is.short is.expr_is
    ∙ ap (λ n. Ok (record { name = s.name; expr = s.expr; line = n })) (sym is.line_is)

titled_there : {front : List Token} {ts : List ETerm} (line : ℕ) (title : List ℕ) → SpellsExpr Controller front ts
    → titled_at (at line (word title ∷ front)) ≡ Ok (record { expr = record { terms = ts }; line = line })
unfolding titled_at
titled_there line title is = rw (expr_last line is, done_again line) refl

pub titled_again : (title : List ℕ) (a : Ahead) (x : RateLine) → SpellsTitled title a x → titled_at a ≡ Ok x
titled_again title a x is =
    ap (λ (ts : List Token). titled_at (at a.line ts)) is.tokens_are ∙ titled_there a.line title is.expr_is
    ∙ ap (λ n. Ok (record { expr = x.expr; line = n })) (sym is.line_is)

end_there : (line : ℕ) → end_at (at line (word (codes "end") ∷ [])) ≡ Ok tt
unfolding end_at
end_there line = done_again line

pub end_again : (a : Ahead) → a.tokens ≡ word (codes "end") ∷ [] → end_at a ≡ Ok tt
end_again a is = ap (λ (ts : List Token). end_at (at a.line ts)) is ∙ end_there a.line
