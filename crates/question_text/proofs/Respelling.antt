-- Conditions that are spelled with other names, which may lack their flow, are spelled by some of the same tokens.
use Rattle.std.proofs.Common.{◌≡◌, ℕ, zero, suc, ◌+◌, Bool, ◌⊎◌, inl, inr, None, List, [], ◌∷◌, ◌++◌, map, refl, sym, ap, subst, ◌∙◌, arith}
use Rattle.std.specs.Prelude.{codes}
use Rattle.std.specs.Option.{option_map}
use Rattle.std.proofs.lemmas.List.{length-map}
use Rattle.source_text.specs.Tokens.{Token, word, number, sign}
use Rattle.source_text.specs.declared.lexemes.Sign.TheVariants.{Minus, Open, Close, Times}
use Rattle.source_text.specs.Printed.{AreFromLine}
use Rattle.weighing.specs.declared.scales.Num.{Num}
use Rattle.condition_syntax.specs.declared.conditions.Style.TheVariants.{Question}
use Rattle.condition_syntax.specs.declared.expressions.Name.{Name}
use Rattle.condition_syntax.specs.declared.expressions.ETerm.{ETerm}
use Rattle.condition_syntax.specs.declared.expressions.Expr.{Expr}
use Rattle.condition_syntax.specs.Trees.{Condition, always, never, comparison, leaf, compares, delayed, opposite, end_of_all, all_of, end_of_any, any_of, comparisons, conjunction, disjunction, conjoined, disjoined}
use Rattle.condition_syntax.specs.Grammar.{SpellsName, placed, no_flow, SpellsTerm, constant, multiple, single, SpellsTerms, last_term, more_terms, SpellsExpr, unsigned, negative, Joined, one, more, SpellsSimple, truth, falsity, compared, SpellsOpened, simple, negated, bracketed, Nothing, SpellsConjunction, SpellsJoined, SpellsPart, SpellsCond, joint_of}
use Rattle.ctrl_types.specs.Statements.{coefs, condition_numbers}

-- the name without its flow
abbrev pub without_flow : Name → Name
without_flow x = record { text = x.text; flow = None; step = x.step }

-- ---- tokens

front_from : (a b : List Token) → AreFromLine (a ++ b) → AreFromLine a × AreFromLine b
front_from [] b all = (tt, all)
front_from (t ∷ a) b all = let rest = front_from a b all.1 in ((all.0, rest.0), rest.1)

joined_from : (a b : List Token) → AreFromLine a → AreFromLine b → AreFromLine (a ++ b)
joined_from [] b first rest = rest
joined_from (t ∷ a) b first rest = (first.0, joined_from a b first.1 rest)

-- some of the tokens of the front spell it
pub record Respelled {X : Type 0} (Spells : List Token → X → Type 0) (front : List Token) (x : X) : Type 0 where
  pub tokens : List Token
  pub spelled : Spells tokens x
  pub from : AreFromLine front → AreFromLine tokens

module _ (g : Name → Name) (short : (x : Name) → (g x ≡ x) ⊎ (g x ≡ without_flow x)) where
  -- ---- what the names are changed in

  abbrev pub term_by : ETerm → ETerm
  term_by t = record { coef = t.coef; name = option_map g t.name }

  abbrev pub expr_by : Expr → Expr
  expr_by expr = record { terms = map term_by expr.terms }

  abbrev pub cond_by : Condition → Condition
  cond_by always = always
  cond_by never = never
  cond_by (leaf (compares left rel right)) = comparison (expr_by left) rel (expr_by right)
  cond_by (leaf (delayed q)) = leaf (delayed q)
  cond_by (opposite c) = opposite (cond_by c)
  cond_by end_of_all = end_of_all
  cond_by (all_of c rest) = all_of (cond_by c) (cond_by rest)
  cond_by end_of_any = end_of_any
  cond_by (any_of c rest) = any_of (cond_by c) (cond_by rest)

  same_coefs : (ts : List ETerm) → coefs (map term_by ts) ≡ coefs ts
  same_coefs [] = refl
  same_coefs (t ∷ ts) = ap (λ (ns : List Num). t.coef ∷ ns) (same_coefs ts)

  pub same_numbers : (c : Condition) → condition_numbers (cond_by c) ≡ condition_numbers c
  same_numbers always = refl
  same_numbers never = refl
  same_numbers (leaf (compares left rel right)) =
      ap (λ (ns : List Num). ns ++ coefs (map term_by right.terms)) (same_coefs left.terms) ∙ ap (λ (ns : List Num). coefs left.terms ++ ns) (same_coefs right.terms)
  same_numbers (leaf (delayed q)) = refl
  same_numbers (opposite c) = same_numbers c
  same_numbers end_of_all = refl
  same_numbers (all_of c rest) = ap (λ (ns : List Num). ns ++ condition_numbers (cond_by rest)) (same_numbers c) ∙ ap (λ (ns : List Num). condition_numbers c ++ ns) (same_numbers rest)
  same_numbers end_of_any = refl
  same_numbers (any_of c rest) = ap (λ (ns : List Num). ns ++ condition_numbers (cond_by rest)) (same_numbers c) ∙ ap (λ (ns : List Num). condition_numbers c ++ ns) (same_numbers rest)

  same_count : (c : Condition) → comparisons (cond_by c) ≡ comparisons c
  same_count always = refl
  same_count never = refl
  same_count (leaf (compares left rel right)) = refl
  same_count (leaf (delayed q)) = refl
  same_count (opposite c) = same_count c
  same_count end_of_all = refl
  same_count (all_of c rest) = ap (λ (n : ℕ). n + comparisons (cond_by rest)) (same_count c) ∙ ap (λ (n : ℕ). comparisons c + n) (same_count rest)
  same_count end_of_any = refl
  same_count (any_of c rest) = ap (λ (n : ℕ). n + comparisons (cond_by rest)) (same_count c) ∙ ap (λ (n : ℕ). comparisons c + n) (same_count rest)

  by_conjunction : (cs : List Condition) → cond_by (conjunction cs) ≡ conjunction (map cond_by cs)
  by_conjunction [] = refl
  by_conjunction (c ∷ cs) = ap (all_of (cond_by c)) (by_conjunction cs)

  by_disjunction : (cs : List Condition) → cond_by (disjunction cs) ≡ disjunction (map cond_by cs)
  by_disjunction [] = refl
  by_disjunction (c ∷ cs) = ap (any_of (cond_by c)) (by_disjunction cs)

  by_conjoined : (cs : List Condition) → cond_by (conjoined cs) ≡ conjoined (map cond_by cs)
  by_conjoined [] = refl
  by_conjoined (c ∷ []) = refl
  by_conjoined (c ∷ d ∷ cs) = by_conjunction (c ∷ d ∷ cs)

  by_disjoined : (cs : List Condition) → cond_by (disjoined cs) ≡ disjoined (map cond_by cs)
  by_disjoined [] = refl
  by_disjoined (c ∷ []) = refl
  by_disjoined (c ∷ d ∷ cs) = by_disjunction (c ∷ d ∷ cs)

  -- ---- how it is spelled

  name_again : {front : List Token} {x : Name} → SpellsName Question front x → Respelled (SpellsName Question) front (g x)
  name_again (placed {w} {fs} {ss} {f} {s} may flow step) = by (short (record { text = w; flow = f; step = s }))
    where
      by : (g (record { text = w; flow = f; step = s }) ≡ record { text = w; flow = f; step = s }) ⊎ (g (record { text = w; flow = f; step = s }) ≡ record { text = w; flow = None; step = s })
          → Respelled (SpellsName Question) (word w ∷ fs ++ ss) (g (record { text = w; flow = f; step = s }))
      by (inl e) = record { tokens = word w ∷ fs ++ ss; spelled = subst (SpellsName Question (word w ∷ fs ++ ss)) (sym e) (placed may flow step); from = λ all. all }
      by (inr e) = record {
        tokens = word w ∷ [] ++ ss;
        spelled = subst (SpellsName Question (word w ∷ [] ++ ss)) (sym e) (placed may no_flow step);
        from = λ all. (all.0, (front_from fs ss all.1).1);
      }

  term_again : {sg : Bool} {front : List Token} {t : ETerm} → SpellsTerm Question sg front t → Respelled (SpellsTerm Question sg) front (term_by t)
  term_again (constant {n} {d} {q} is) = record { tokens = number n d ∷ []; spelled = constant is; from = λ all. all }
  term_again (multiple {n} {d} {q} {front} {x} is name) =
      let other = name_again name in
      record { tokens = number n d ∷ sign Times ∷ other.tokens; spelled = multiple is other.spelled; from = λ all. (all.0, (all.1.0, other.from all.1.1)) }
  term_again (single {front} {x} name) = let other = name_again name in record { tokens = other.tokens; spelled = single other.spelled; from = other.from }

  terms_again : {sg : Bool} {front : List Token} {ts : List ETerm} → SpellsTerms Question sg front ts → Respelled (SpellsTerms Question sg) front (map term_by ts)
  terms_again (last_term term) = let other = term_again term in record { tokens = other.tokens; spelled = last_term other.spelled; from = other.from }
  terms_again (more_terms {next} {front} {rest} term others) =
      let here = term_again term in
      let later = terms_again others in
      record {
        tokens = here.tokens ++ joint_of next ∷ later.tokens;
        spelled = more_terms here.spelled later.spelled;
        from = λ all.
            let parts = front_from front (joint_of next ∷ rest) all in
            joined_from here.tokens (joint_of next ∷ later.tokens) (here.from parts.0) (parts.1.0, later.from parts.1.1);
      }

  expr_again : {front : List Token} {ts : List ETerm} → SpellsExpr Question front ts → Respelled (SpellsExpr Question) front (map term_by ts)
  expr_again {ts = ts} (unsigned terms few) =
      let other = terms_again terms in
      let count = length-map ts term_by in
      record { tokens = other.tokens; spelled = unsigned other.spelled (omega arith); from = other.from }
  expr_again {ts = ts} (negative terms few) =
      let other = terms_again terms in
      let count = length-map ts term_by in
      record { tokens = sign Minus ∷ other.tokens; spelled = negative other.spelled (omega arith); from = λ all. (all.0, other.from all.1) }

  simple_again : {front : List Token} {c : Condition} → SpellsSimple Question front c → Respelled (SpellsSimple Question) front (cond_by c)
  simple_again truth = record { tokens = word (codes "true") ∷ []; spelled = truth; from = λ all. all }
  simple_again falsity = record { tokens = word (codes "false") ∷ []; spelled = falsity; from = λ all. all }
  simple_again (compared {l} {r} {left} {right} {rel} s lefts is rights) =
      let start = expr_again lefts in
      let rest = expr_again rights in
      record {
        tokens = start.tokens ++ sign s ∷ rest.tokens;
        spelled = compared s start.spelled is rest.spelled;
        from = λ all. let parts = front_from l (sign s ∷ r) all in joined_from start.tokens (sign s ∷ rest.tokens) (start.from parts.0) (parts.1.0, rest.from parts.1.1);
      }

  -- what is spelled with the other names
  abbrev Again : (List Token → Condition → Type 0) → Type 0
  Again P = (front : List Token) (c : Condition) → P front c → Respelled P front (cond_by c)

  joined_again : (P : List Token → Condition → Type 0) → Again P → (joint : Token) {front : List Token} {cs : List Condition} → Joined P joint front cs → Respelled (Joined P joint) front (map cond_by cs)
  joined_again P goes joint (one {front} {x} p) = let other = goes front x p in record { tokens = other.tokens; spelled = one other.spelled; from = other.from }
  joined_again P goes joint (more {front} {rest} {x} p others) =
      let here = goes front x p in
      let later = joined_again P goes joint others in
      record {
        tokens = here.tokens ++ joint ∷ later.tokens;
        spelled = more here.spelled later.spelled;
        from = λ all. let parts = front_from front (joint ∷ rest) all in joined_from here.tokens (joint ∷ later.tokens) (here.from parts.0) (parts.1.0, later.from parts.1.1);
      }

  conjunction_again : (P : List Token → Condition → Type 0) → Again P → Again (SpellsConjunction P)
  conjunction_again P goes f c (cs, (spelled, is)) =
      let other = joined_again P goes (word (codes "and")) spelled in
      record { tokens = other.tokens; spelled = (map cond_by cs, (other.spelled, ap cond_by is ∙ by_conjoined cs)); from = other.from }

  whole_again : (P : List Token → Condition → Type 0) → Again P → Again (SpellsJoined P)
  whole_again P goes f c (cs, (spelled, is)) =
      let other = joined_again (SpellsConjunction P) (conjunction_again P goes) (word (codes "or")) spelled in
      record { tokens = other.tokens; spelled = (map cond_by cs, (other.spelled, ap cond_by is ∙ by_disjoined cs)); from = other.from }

  opened_again : (P W : List Token → Condition → Type 0) → Again P → Again W → Again (SpellsOpened Question P W)
  opened_again P W part whole f c (simple s) = let other = simple_again s in record { tokens = other.tokens; spelled = simple other.spelled; from = other.from }
  opened_again P W part whole f c (negated {front} {c = d} p) =
      let other = part front d p in
      record { tokens = word (codes "not") ∷ other.tokens; spelled = negated other.spelled; from = λ all. (all.0, other.from all.1) }
  opened_again P W part whole f c (bracketed {front} w) =
      let other = whole front c w in
      record {
        tokens = sign Open ∷ other.tokens ++ sign Close ∷ [];
        spelled = bracketed other.spelled;
        from = λ all. let parts = front_from front (sign Close ∷ []) all.1 in (all.0, joined_from other.tokens (sign Close ∷ []) (other.from parts.0) parts.1);
      }

  part_again : (room : ℕ) → Again (SpellsPart Question room)
  unfolding SpellsPart
  part_again zero = opened_again Nothing Nothing (λ f c h. absurd h) (λ f c h. absurd h)
  part_again (suc room) = opened_again (SpellsPart Question room) (SpellsJoined (SpellsPart Question room)) (part_again room) (whole_again (SpellsPart Question room) (part_again room))

  pub condition_again : Again (SpellsCond Question)
  condition_again f c spelled =
      let other = whole_again (SpellsPart Question 16) (part_again 16) f c spelled.derived in
      let count = same_count c in
      let few = spelled.few in
      record { tokens = other.tokens; spelled = record { derived = other.spelled; few = omega arith }; from = other.from }
