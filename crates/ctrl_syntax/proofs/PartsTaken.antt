-- What the parts of a line take of its tokens.
use Rattle.std.proofs.Common.{◌≡◌, ℕ, ◌≤◌, Bool, true, false, cond, leb, ⊎_elim, Option, Result, Ok, Err, List, [], ◌∷◌, ◌++◌, length, refl, sym, ap, subst, ◌∙◌}
use Rattle.std.specs.Prelude.{codes}
use Rattle.std.proofs.lemmas.Bool.{leb-true}
use Rattle.text_lines.specs.Steps.{◌>>=◌}
use Rattle.text_lines.proofs.StepLaws.{bind_ok, ok_is}
use Rattle.whole.specs.declared.answers.Refusal.{Refusal}
use Rattle.source_text.specs.declared.lexemes.Sign.{Sign}
use Rattle.source_text.specs.declared.lexemes.Sign.TheVariants.{Assign, Minus}
use Rattle.source_text.specs.Tokens.{Token, word, number, sign, wrong, after}
use Rattle.source_text.specs.Shown.{Ahead}
use Rattle.weighing.specs.declared.scales.Num.{Num}
use Rattle.condition_syntax.specs.declared.conditions.Style.TheVariants.{Controller}
use Rattle.condition_syntax.specs.declared.expressions.ETerm.{ETerm}
use Rattle.condition_syntax.specs.declared.faults.Fault.{Fault}
use Rattle.condition_syntax.specs.Fronts.{stands, says}
use Rattle.condition_syntax.specs.Words.{signed}
use Rattle.condition_syntax.specs.Expressions.{number_of, expr_by}
use Rattle.condition_syntax.specs.Conditions.{condition_by}
use Rattle.condition_syntax.specs.Trees.{Condition}
use Rattle.condition_syntax.specs.Grammar.{IsNumber, SpellsExpr, SpellsCond}
use Rattle.condition_syntax.specs.Ends.{Ending, Taken, EndsExpr, EndsCond}
use Rattle.condition_syntax.proofs.FrontLaws.{chosen, guard_ok, stands_is, says_is}
use Rattle.condition_syntax.proofs.ExpressionsTaken.{number_taken, expr_taken}
use Rattle.condition_syntax.proofs.ConditionsTaken.{condition_taken}
use Rattle.ctrl_syntax.specs.Rest.{behind}
use Rattle.ctrl_syntax.specs.Grammar.{SpellsBound, unsigned, negative, kind_word}
use Rattle.ctrl_syntax.specs.Reading.{Part, refusal, lacks, placed, expr_at, condition_at, name_or, name_at, word_at, kind_at, number_or, number_at, bound_at, assign_at, done_or, done_at}

-- these tokens stand between two places of a line
pub record Between (a b : Ahead) (front : List Token) : Type 0 where
  pub parts : a.tokens ≡ front ++ b.tokens
  pub line : b.line ≡ a.line

-- what was read between two places is spelled there
pub record Reads {X : Type 0} (Spells : List Token → X → Type 0) (a : Ahead) (x : X × Ahead) : Type 0 where
  pub front : List Token
  pub between : Between a x.1 front
  pub spelled : Spells front x.0

pub says_between : (w : List ℕ) (a : Ahead) → says w a.tokens ≡ true → Between a (behind a) (word w ∷ [])
says_between w a e = record { parts = says_is w a.tokens e; line = refl }

stands_between : (s : Sign) (a : Ahead) → stands s a.tokens ≡ true → Between a (behind a) (sign s ∷ [])
stands_between s a e = record { parts = stands_is s a.tokens e; line = refl }

-- ---- expressions and conditions

pub placed_ok : {X : Type 0} (line : ℕ) (r : Result (X × List Token) Fault) (x : X × Ahead) → placed line r ≡ Ok x → (r ≡ Ok (x.0, x.1.tokens)) × (x.1.line ≡ line)
placed_ok {X} line (Ok y) x e =
    let is = ok_is {A = X × Ahead} {E = Refusal} (y.0, record { line = line; tokens = y.1 }) x e in
    (ap read_as is, ap (λ (z : X × Ahead). z.1.line) (sym is))
  where
    read_as : X × Ahead → Result (X × List Token) Fault
    read_as z = Ok (z.0, z.1.tokens)
placed_ok line (Err fault) x e = absurd (cc)

taken_here : {X : Type 0} (Spells : List Token → X → Type 0) (Ends : Ending Spells) (a : Ahead) (x : X × Ahead) → Taken Spells Ends a.tokens (x.0, x.1.tokens) → x.1.line ≡ a.line → Reads Spells a x
taken_here Spells Ends a x t line = record { front = t.front; between = record { parts = t.parts; line = line }; spelled = t.spelled }

pub expr_reads : (a : Ahead) (x : List ETerm × Ahead) → expr_at a ≡ Ok x → Reads (SpellsExpr Controller) a x
unfolding expr_at
expr_reads a x e =
    let p = placed_ok a.line (expr_by Controller a.tokens) x e in
    taken_here (SpellsExpr Controller) (EndsExpr Controller) a x (expr_taken Controller a.tokens (x.0, x.1.tokens) p.0) p.1

pub condition_reads : (a : Ahead) (x : Condition × Ahead) → condition_at a ≡ Ok x → Reads (SpellsCond Controller) a x
unfolding condition_at
condition_reads a x e =
    let p = placed_ok a.line (condition_by Controller a.tokens) x e in
    taken_here (SpellsCond Controller) (EndsCond Controller) a x (condition_taken Controller a.tokens (x.0, x.1.tokens) p.0) p.1

-- ---- names and words

pub record ReadsName (a : Ahead) (x : List ℕ × Ahead) : Type 0 where
  pub between : Between a x.1 (word x.0 ∷ [])
  pub short : length x.0 ≤ 16

name_by_tokens : (own : ℕ) (a : Ahead) (tokens : List Token) (x : List ℕ × Ahead) → a.tokens ≡ tokens → name_or own a tokens ≡ Ok x → ReadsName a x
name_by_tokens own a [] x is e = absurd (cc)
name_by_tokens own a (word w ∷ tokens) x is e =
    let g = guard_ok (leb (length w) 16) (w, behind a) x (refusal 11 a.line) e in
    subst (ReadsName a) g.1 (record { between = record { parts = is ∙ ap (λ (ts : List Token). word w ∷ after ts) (sym is); line = refl }; short = leb-true (length w) 16 g.0 })
name_by_tokens own a (number n d ∷ tokens) x is e = absurd (cc)
name_by_tokens own a (sign s ∷ tokens) x is e = absurd (cc)
name_by_tokens own a (wrong ∷ tokens) x is e = absurd (cc)

pub name_reads : (own : ℕ) (a : Ahead) (x : List ℕ × Ahead) → name_at own a ≡ Ok x → ReadsName a x
unfolding name_at
name_reads own a x e = name_by_tokens own a a.tokens x refl e

pub word_reads : (w : List ℕ) (own : ℕ) (a b : Ahead) → word_at w own a ≡ Ok b → Between a b (word w ∷ [])
unfolding word_at
word_reads w own a b e =
    let g = guard_ok (says w a.tokens) (behind a) b (lacks own a) e in
    subst (λ (c : Ahead). Between a c (word w ∷ [])) g.1 (says_between w a g.0)

pub assign_reads : (a b : Ahead) → assign_at a ≡ Ok b → Between a b (sign Assign ∷ [])
unfolding assign_at
assign_reads a b e =
    let g = guard_ok (stands Assign a.tokens) (behind a) b (lacks 6 a) e in
    subst (λ (c : Ahead). Between a c (sign Assign ∷ [])) g.1 (stands_between Assign a g.0)

abbrev pub ReadsKind : Ahead → Bool × Ahead → Type 0
ReadsKind a x = Between a x.1 (word (kind_word x.0) ∷ [])

pub kind_reads : (a : Ahead) (x : Bool × Ahead) → kind_at a ≡ Ok x → ReadsKind a x
unfolding kind_at
kind_reads a x e = ⊎_elim amount other (chosen (says (codes "data") a.tokens) (Ok (false, behind a)) (cond (says (codes "count") a.tokens) (Ok (true, behind a)) (Err (lacks 4 a))) (Ok x) e)
  where
    amount : (says (codes "data") a.tokens ≡ true) × (◌≡◌ {A = Part Bool} (Ok (false, behind a)) (Ok x)) → ReadsKind a x
    amount p = subst (ReadsKind a) (ok_is {E = Refusal} (false, behind a) x p.1) (says_between (codes "data") a p.0)

    other : (says (codes "data") a.tokens ≡ false) × (cond (says (codes "count") a.tokens) (Ok (true, behind a)) (Err (lacks 4 a)) ≡ Ok x) → ReadsKind a x
    other p =
        let g = guard_ok (says (codes "count") a.tokens) (true, behind a) x (lacks 4 a) p.1 in
        subst (ReadsKind a) g.1 (says_between (codes "count") a g.0)

-- ---- bounds

-- a number with this sign before it
pub record ReadsSize (sg : Bool) (a : Ahead) (x : Num × Ahead) : Type 0 where
  pub n : ℕ
  pub d : Option ℕ
  pub q : Num
  pub between : Between a x.1 (number n d ∷ [])
  pub is : IsNumber n d q
  pub value : x.0 ≡ signed sg q

size_by_tokens : (sg : Bool) (a : Ahead) (tokens : List Token) (x : Num × Ahead) → a.tokens ≡ tokens → number_or sg a tokens ≡ Ok x → ReadsSize sg a x
size_by_tokens sg a [] x is e = absurd (cc)
size_by_tokens sg a (word w ∷ tokens) x is e = absurd (cc)
size_by_tokens sg a (number n d ∷ tokens) x is e =
    let p = placed_ok a.line (number_of n d >>= λ q. Ok (signed sg q, tokens)) x e in
    let b = bind_ok (number_of n d) (λ q. Ok (signed sg q, tokens)) (x.0, x.1.tokens) p.0 in
    let same = ok_is {E = Fault} (signed sg b.0, tokens) (x.0, x.1.tokens) b.2 in
    record {
      n = n;
      d = d;
      q = b.0;
      between = record { parts = is ∙ ap (λ (y : Num × List Token). number n d ∷ y.1) same; line = p.1 };
      is = number_taken n d b.0 b.1;
      value = ap (λ (y : Num × List Token). y.0) (sym same);
    }
size_by_tokens sg a (sign s ∷ tokens) x is e = absurd (cc)
size_by_tokens sg a (wrong ∷ tokens) x is e = absurd (cc)

size_reads : (sg : Bool) (a : Ahead) (x : Num × Ahead) → number_at sg a ≡ Ok x → ReadsSize sg a x
unfolding number_at
size_reads sg a x e = size_by_tokens sg a a.tokens x refl e

pub bound_reads : (a : Ahead) (x : Num × Ahead) → bound_at a ≡ Ok x → Reads SpellsBound a x
unfolding bound_at
bound_reads a x e = ⊎_elim minus plus (chosen (stands Minus a.tokens) (number_at true (behind a)) (number_at false a) (Ok x) e)
  where
    minus : (stands Minus a.tokens ≡ true) × (number_at true (behind a) ≡ Ok x) → Reads SpellsBound a x
    minus p =
        let r = size_reads true (behind a) x p.1 in
        record {
          front = sign Minus ∷ number r.n r.d ∷ [];
          between = record { parts = stands_is Minus a.tokens p.0 ∙ ap (λ (ts : List Token). sign Minus ∷ ts) r.between.parts; line = r.between.line };
          spelled = subst (SpellsBound (sign Minus ∷ number r.n r.d ∷ [])) (sym r.value) (negative r.is);
        }

    plus : (stands Minus a.tokens ≡ false) × (number_at false a ≡ Ok x) → Reads SpellsBound a x
    plus p =
        let r = size_reads false a x p.1 in
        record { front = number r.n r.d ∷ []; between = r.between; spelled = subst (SpellsBound (number r.n r.d ∷ [])) (sym r.value) (unsigned r.is) }

-- ---- the line's end

nothing_behind : (a : Ahead) (tokens : List Token) (x : Unit {0}) → done_or a tokens ≡ Ok x → tokens ≡ []
nothing_behind a [] x e = refl
nothing_behind a (t ∷ tokens) x e = absurd (cc)

pub done_reads : (a : Ahead) (x : Unit {0}) → done_at a ≡ Ok x → a.tokens ≡ []
unfolding done_at
done_reads a x e = nothing_behind a a.tokens x e
