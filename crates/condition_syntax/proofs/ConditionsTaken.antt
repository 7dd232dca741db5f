-- A condition that is read is spelled by the tokens in front of what is left.
use Rattle.std.proofs.Common.{◌≡◌, ℕ, zero, suc, ◌+◌, ◌≤◌, Bool, true, false, cond, leb, ⊎_elim, Option, None, Some, Result, Ok, Err, List, [], ◌∷◌, ◌++◌, length, length-append, refl, sym, ap, subst, ◌∙◌, append_assoc, arith}
use Rattle.std.specs.Prelude.{codes, ◌&&◌}
use Rattle.std.proofs.lemmas.Bool.{and_parts, leb-false}
use Rattle.text_lines.proofs.StepLaws.{bind_ok, ok_is}
use Rattle.source_text.specs.declared.lexemes.Sign.{Sign}
use Rattle.source_text.specs.declared.lexemes.Sign.TheVariants.{AtLeast, Open, Close}
use Rattle.source_text.specs.Tokens.{Token, word, number, sign, wrong, after}
use Rattle.weighing.specs.declared.scales.Num.{Num}
use Rattle.weighing.specs.declared.weighings.Rel5.{Rel5}
use Rattle.condition_syntax.specs.declared.conditions.Style.{Style}
use Rattle.condition_syntax.specs.declared.conditions.Style.TheVariants.{Controller, Question}
use Rattle.condition_syntax.specs.declared.faults.Fault.{Fault}
use Rattle.condition_syntax.specs.declared.faults.Fault.TheVariants.{Part, Count}
use Rattle.condition_syntax.specs.declared.openings.Opening.{Opening}
use Rattle.condition_syntax.specs.declared.openings.Opening.TheVariants as opens
use Rattle.condition_syntax.specs.Fronts.{stands, says, blame}
use Rattle.condition_syntax.specs.Trees.{Condition, always, never, comparison, delay, opposite, conjunction, disjunction, conjoined, disjoined, comparisons}
use Rattle.condition_syntax.specs.Expressions.{number_of, expr_by}
use Rattle.condition_syntax.specs.Words.{rel_of}
use Rattle.condition_syntax.specs.Conditions.{Pending, pending, Reader, behind, side_begins, counted, rel_or, rel_by, comparison_by, rows_by, sign_by, delay_by, has_delays, opening_of, chain_by, conjunction_by, joined_by, opposite_by, bracketed_by, opened_by, too_deep, part_by, condition_within, condition_by}
use Rattle.condition_syntax.specs.Grammar.{IsNumber, Joined, one, more, SpellsSimple, truth, falsity, test, compared, SpellsOpened, simple, negated, bracketed, Nothing, SpellsConjunction, SpellsJoined, SpellsPart, SpellsCond}
use Rattle.condition_syntax.specs.Ends.{Ending, Taken, EndsSimple, EndsOpened, EndsJoined, EndsPart, EndsConjunction, EndsWhole, EndsCond, Free}
use Rattle.condition_syntax.proofs.FrontLaws.{chosen, guard_ok, stands_is, says_is}
use Rattle.condition_syntax.proofs.ExpressionsTaken.{number_taken, expr_taken}

-- what was read is spelled in front and ends there, and its comparisons were counted
pub record ReadsPart {X : Type 0} (Spells : List Token → X → Type 0) (Ends : Ending Spells) (size : X → ℕ) (s : Pending) (x : X × Pending) : Type 0 where
  pub front : List Token
  pub parts : s.tokens ≡ front ++ x.1.tokens
  pub spelled : Spells front x.0
  pub ends : Ends front x.0 spelled x.1.tokens
  pub count : x.1.begun ≡ s.begun + size x.0
  pub limit : s.begun ≤ 16 → x.1.begun ≤ 16

-- what a reader gives is spelled so
abbrev pub Takes : Reader → (Spells : List Token → Condition → Type 0) → Ending Spells → Type 0
Takes read Spells Ends = (s : Pending) (x : Condition × Pending) → read s ≡ Ok x → ReadsPart Spells Ends comparisons s x

-- nothing becomes more by reading
pub shorter : {X : Type 0} (Spells : List Token → X → Type 0) (Ends : Ending Spells) (size : X → ℕ) (s : Pending) (x : X × Pending) → ReadsPart Spells Ends size s x → length x.1.tokens ≤ length s.tokens
shorter Spells Ends size s x r = omega (arith, simp length-append at (ap length r.parts))

-- ---- comparisons and tests of delay

pub counted_is : (begun n : ℕ) → counted begun ≡ Ok n → (n ≡ begun + 1) × (n ≤ 16)
unfolding counted
counted_is begun n e = ⊎_elim full more (chosen (leb 16 begun) (Err Count) (Ok (begun + 1)) (Ok n) e)
  where
    full : (leb 16 begun ≡ true) × (◌≡◌ {A = Result ℕ Fault} (Err Count) (Ok n)) → (n ≡ begun + 1) × (n ≤ 16)
    full p = absurd (let h = p.1 in cc)

    more : (leb 16 begun ≡ false) × (◌≡◌ {A = Result ℕ Fault} (Ok (begun + 1)) (Ok n)) → (n ≡ begun + 1) × (n ≤ 16)
    more p = let is = ok_is {E = Fault} (begun + 1) n p.1 in let lt = leb-false 16 begun p.0 in (sym is, omega arith)

-- a relation was read
pub record RelTaken (tokens : List Token) (x : Rel5 × List Token) : Type 0 where
  pub by : Sign
  pub parts : tokens ≡ sign by ∷ x.1
  pub is : rel_of by ≡ Some x.0

pub rel_taken : (tokens : List Token) (x : Rel5 × List Token) → rel_by tokens ≡ Ok x → RelTaken tokens x
unfolding rel_by
rel_taken [] x e = absurd (cc)
rel_taken (word w ∷ tokens) x e = absurd (cc)
rel_taken (number n d ∷ tokens) x e = absurd (cc)
rel_taken (sign s ∷ tokens) x e = go (rel_of s) refl e
  where
    go : (o : Option Rel5) → rel_of s ≡ o → rel_or o tokens ≡ Ok x → RelTaken (sign s ∷ tokens) x
    go None is e = absurd (cc)
    go (Some rel) is e = subst (RelTaken (sign s ∷ tokens)) (ok_is {E = Fault} (rel, tokens) x e) (record { by = s; parts = refl; is = is })
rel_taken (wrong ∷ tokens) x e = absurd (cc)

comparison_taken : (style : Style) → Takes (comparison_by style) (SpellsSimple style) (EndsSimple style)
unfolding comparison_by
comparison_taken style s x e =
    let a = bind_ok (side_begins s.tokens) _ x e in
    let n = bind_ok (counted s.begun) _ x a.2 in
    let l = bind_ok (expr_by style s.tokens) _ x n.2 in
    let b = bind_ok (rel_by l.0.1) _ x l.2 in
    let r = bind_ok (expr_by style b.0.1) _ x b.2 in
    let left = expr_taken style s.tokens l.0 l.1 in
    let rel = rel_taken l.0.1 b.0 b.1 in
    let right = expr_taken style b.0.1 r.0 r.1 in
    let size = counted_is s.begun n.0 n.1 in
    let made : Condition = comparison (record { terms = l.0.0 }) b.0.0 (record { terms = r.0.0 }) in
    subst (ReadsPart (SpellsSimple style) (EndsSimple style) comparisons s) {x = (made, pending n.0 r.0.1)} (ok_is {E = Fault} (made, pending n.0 r.0.1) x r.2) (record {
      front = left.front ++ sign rel.by ∷ right.front;
      parts = left.parts ∙ ap (λ (ts : List Token). left.front ++ ts) (rel.parts ∙ ap (λ (ts : List Token). sign rel.by ∷ ts) right.parts) ∙ sym (append_assoc left.front (sign rel.by ∷ right.front) r.0.1);
      spelled = compared rel.by left.spelled rel.is right.spelled;
      ends = right.ends;
      count = size.0;
      limit = λ _. size.1;
    })

record NumberTaken (tokens : List Token) (x : Num × List Token) : Type 0 where
  n : ℕ
  d : Option ℕ
  parts : tokens ≡ number n d ∷ x.1
  is : IsNumber n d x.0

rows_taken : (tokens : List Token) (x : Num × List Token) → rows_by tokens ≡ Ok x → NumberTaken tokens x
unfolding rows_by
rows_taken [] x e = absurd (cc)
rows_taken (word w ∷ tokens) x e = absurd (cc)
rows_taken (number n d ∷ tokens) x e =
    let a = bind_ok (number_of n d) _ x e in
    subst (NumberTaken (number n d ∷ tokens)) (ok_is {E = Fault} (a.0, tokens) x a.2) (record { n = n; d = d; parts = refl; is = number_taken n d a.0 a.1 })
rows_taken (sign s ∷ tokens) x e = absurd (cc)
rows_taken (wrong ∷ tokens) x e = absurd (cc)

pub sign_taken : (s : Sign) (tokens rest : List Token) → sign_by s tokens ≡ Ok rest → tokens ≡ sign s ∷ rest
unfolding sign_by
sign_taken s tokens rest e =
    let g = guard_ok (stands s tokens) (after tokens) rest (blame Part tokens) e in
    stands_is s tokens g.0 ∙ ap (λ (ts : List Token). sign s ∷ ts) g.1

delay_taken : (s : Pending) (x : Condition × Pending) → says (codes "delay") s.tokens ≡ true → delay_by s ≡ Ok x → ReadsPart (SpellsSimple Controller) (EndsSimple Controller) comparisons s x
unfolding delay_by
delay_taken s x here e =
    let n = bind_ok (counted s.begun) _ x e in
    let a = bind_ok (sign_by AtLeast (after s.tokens)) _ x n.2 in
    let q = bind_ok (rows_by a.0) _ x a.2 in
    let rows = rows_taken a.0 q.0 q.1 in
    let size = counted_is s.begun n.0 n.1 in
    let made : Condition = delay q.0.0 in
    subst (ReadsPart (SpellsSimple Controller) (EndsSimple Controller) comparisons s) {x = (made, pending n.0 q.0.1)} (ok_is {E = Fault} (made, pending n.0 q.0.1) x q.2) (record {
      front = word (codes "delay") ∷ sign AtLeast ∷ number rows.n rows.d ∷ [];
      parts = says_is (codes "delay") s.tokens here ∙ ap (λ (ts : List Token). word (codes "delay") ∷ ts) (sign_taken AtLeast (after s.tokens) a.0 a.1 ∙ ap (λ (ts : List Token). sign AtLeast ∷ ts) rows.parts);
      spelled = test rows.is;
      ends = tt;
      count = size.0;
      limit = λ _. size.1;
    })

-- ---- chains

abbrev pub comparisons_in : List Condition → ℕ
comparisons_in [] = 0
comparisons_in (c ∷ cs) = comparisons c + comparisons_in cs

pub comparisons-conjunction : (cs : List Condition) → comparisons (conjunction cs) ≡ comparisons_in cs
comparisons-conjunction [] = refl
comparisons-conjunction (c ∷ cs) = ap (λ n. comparisons c + n) (comparisons-conjunction cs)

pub comparisons-disjunction : (cs : List Condition) → comparisons (disjunction cs) ≡ comparisons_in cs
comparisons-disjunction [] = refl
comparisons-disjunction (c ∷ cs) = ap (λ n. comparisons c + n) (comparisons-disjunction cs)

pub comparisons-conjoined : (cs : List Condition) → comparisons (conjoined cs) ≡ comparisons_in cs
comparisons-conjoined [] = refl
comparisons-conjoined (c ∷ []) = omega arith
comparisons-conjoined (c ∷ d ∷ cs) = comparisons-conjunction (c ∷ d ∷ cs)

pub comparisons-disjoined : (cs : List Condition) → comparisons (disjoined cs) ≡ comparisons_in cs
comparisons-disjoined [] = refl
comparisons-disjoined (c ∷ []) = omega arith
comparisons-disjoined (c ∷ d ∷ cs) = comparisons-disjunction (c ∷ d ∷ cs)

-- a chain ends where its last part does, and where its joint doesn't stand
abbrev EndsChain : (joint : List ℕ) (Spells : List Token → Condition → Type 0) → Ending Spells → Ending (Joined Spells (word joint))
EndsChain joint Spells Ends front cs spelled left = EndsJoined Spells (word joint) Ends front cs spelled left × (says joint left ≡ false)

module _ (joint : List ℕ) (part : Reader) (Spells : List Token → Condition → Type 0) (Ends : Ending Spells) (takes : Takes part Spells Ends) where
  abbrev Chained : Pending → List Condition × Pending → Type 0
  Chained s x = ReadsPart (Joined Spells (word joint)) (EndsChain joint Spells Ends) comparisons_in s x

  chain_joined : (s : Pending) (c : Condition × Pending) (cs : List Condition × Pending) → ReadsPart Spells Ends comparisons s c → says joint c.1.tokens ≡ true
      → Chained (behind c.1) cs → Chained s (c.0 ∷ cs.0, cs.1)
  chain_joined s c cs first here others = record {
    front = first.front ++ word joint ∷ others.front;
    parts = first.parts ∙ ap (λ (ts : List Token). first.front ++ ts) (says_is joint c.1.tokens here ∙ ap (λ (ts : List Token). word joint ∷ ts) others.parts)
        ∙ sym (append_assoc first.front (word joint ∷ others.front) cs.1.tokens);
    spelled = more first.spelled others.spelled;
    ends = others.ends;
    count = omega (arith, first.count, others.count);
    limit = λ le. others.limit (first.limit le);
  }

  chain_alone : (s : Pending) (c : Condition × Pending) → ReadsPart Spells Ends comparisons s c → says joint c.1.tokens ≡ false → Chained s (c.0 ∷ [], c.1)
  chain_alone s c first none = record { front = first.front; parts = first.parts; spelled = one first.spelled; ends = (first.ends, none); count = omega (arith, first.count); limit = first.limit }

  chain_step : (most : ℕ) (s : Pending) (c : Condition × Pending) (cs : List Condition × Pending) → ReadsPart Spells Ends comparisons s c
      → ((x : List Condition × Pending) → chain_by joint part most (behind c.1) ≡ Ok x → Chained (behind c.1) x)
      → cond (says joint c.1.tokens) (chain_by joint part most (behind c.1)) (Ok ([], c.1)) ≡ Ok cs → Chained s (c.0 ∷ cs.0, cs.1)
  chain_step most s c cs first others e = ⊎_elim joined alone (chosen (says joint c.1.tokens) (chain_by joint part most (behind c.1)) (Ok ([], c.1)) (Ok cs) e)
    where
      joined : (says joint c.1.tokens ≡ true) × (chain_by joint part most (behind c.1) ≡ Ok cs) → Chained s (c.0 ∷ cs.0, cs.1)
      joined p = chain_joined s c cs first p.0 (others cs p.1)

      alone : (says joint c.1.tokens ≡ false) × (◌≡◌ {A = Result (List Condition × Pending) Fault} (Ok ([], c.1)) (Ok cs)) → Chained s (c.0 ∷ cs.0, cs.1)
      alone p = subst (λ (y : List Condition × Pending). Chained s (c.0 ∷ y.0, y.1)) (ok_is {E = Fault} ([], c.1) cs p.1) (chain_alone s c first p.0)

  pub chain_taken : (most : ℕ) (s : Pending) (x : List Condition × Pending) → chain_by joint part most s ≡ Ok x → Chained s x
  unfolding chain_by
  chain_taken zero s x e = absurd (cc)
  chain_taken (suc most) s x e =
      let a = bind_ok (part s) _ x e in
      let b = bind_ok (cond (says joint a.0.1.tokens) (chain_by joint part most (behind a.0.1)) (Ok ([], a.0.1))) _ x a.2 in
      subst (Chained s) {x = (a.0.0 ∷ b.0.0, b.0.1)} (ok_is {E = Fault} (a.0.0 ∷ b.0.0, b.0.1) x b.2)
      (chain_step most s a.0 b.0 (takes s a.0 a.1) (λ y h. chain_taken most (behind a.0.1) y h) b.1)

pub conjunction_taken : (part : Reader) (Spells : List Token → Condition → Type 0) (Ends : Ending Spells) → Takes part Spells Ends → Takes (conjunction_by part) (SpellsConjunction Spells) (EndsConjunction Spells Ends)
unfolding conjunction_by
conjunction_taken part Spells Ends takes s x e =
    let a = bind_ok (chain_by (codes "and") part (suc (length s.tokens)) s) _ x e in
    let t = chain_taken (codes "and") part Spells Ends takes (suc (length s.tokens)) s a.0 a.1 in
    subst (ReadsPart (SpellsConjunction Spells) (EndsConjunction Spells Ends) comparisons s) {x = (conjoined a.0.0, a.0.1)} (ok_is {E = Fault} (conjoined a.0.0, a.0.1) x a.2) (record {
      front = t.front;
      parts = t.parts;
      spelled = (a.0.0, (t.spelled, refl));
      ends = t.ends;
      count = t.count ∙ ap (λ n. s.begun + n) (sym (comparisons-conjoined a.0.0));
      limit = t.limit;
    })

joined_taken : (part : Reader) (Spells : List Token → Condition → Type 0) (Ends : Ending Spells) → Takes part Spells Ends → Takes (joined_by part) (SpellsJoined Spells) (EndsWhole Spells Ends)
unfolding joined_by
joined_taken part Spells Ends takes s x e =
    let a = bind_ok (chain_by (codes "or") (conjunction_by part) (suc (length s.tokens)) s) _ x e in
    let t = chain_taken (codes "or") (conjunction_by part) (SpellsConjunction Spells) (EndsConjunction Spells Ends) (conjunction_taken part Spells Ends takes) (suc (length s.tokens)) s a.0 a.1 in
    subst (ReadsPart (SpellsJoined Spells) (EndsWhole Spells Ends) comparisons s) {x = (disjoined a.0.0, a.0.1)} (ok_is {E = Fault} (disjoined a.0.0, a.0.1) x a.2) (record {
      front = t.front;
      parts = t.parts;
      spelled = (a.0.0, (t.spelled, refl));
      ends = t.ends;
      count = t.count ∙ ap (λ n. s.begun + n) (sym (comparisons-disjoined a.0.0));
      limit = t.limit;
    })

-- ---- parts

-- what stands first where a part opens so
abbrev pub Opens : Style → List Token → Opening → Type 0
Opens style tokens opens.Not = tokens ≡ word (codes "not") ∷ after tokens
Opens style tokens opens.Bracket = tokens ≡ sign Open ∷ after tokens
Opens style tokens opens.True = tokens ≡ word (codes "true") ∷ after tokens
Opens style tokens opens.False = tokens ≡ word (codes "false") ∷ after tokens
Opens style tokens opens.Delay = (has_delays style ≡ true) × (says (codes "delay") tokens ≡ true)
Opens style tokens opens.Comparison = Unit {0}

pub opening_is : (style : Style) (tokens : List Token) → Opens style tokens (opening_of style tokens)
unfolding opening_of
opening_is style tokens = by_bracket (stands Open tokens) refl
  where
    by_delay : (b : Bool) → (has_delays style && says (codes "delay") tokens) ≡ b → Opens style tokens (cond b opens.Delay opens.Comparison)
    by_delay true e = and_parts (has_delays style) (says (codes "delay") tokens) e
    by_delay false e = tt

    by_false : (b : Bool) → says (codes "false") tokens ≡ b → Opens style tokens (cond b opens.False (cond (has_delays style && says (codes "delay") tokens) opens.Delay opens.Comparison))
    by_false true e = says_is (codes "false") tokens e
    by_false false e = by_delay (has_delays style && says (codes "delay") tokens) refl

    by_true : (b : Bool) → says (codes "true") tokens ≡ b → Opens style tokens (cond b opens.True (cond (says (codes "false") tokens) opens.False (cond (has_delays style && says (codes "delay") tokens) opens.Delay opens.Comparison)))
    by_true true e = says_is (codes "true") tokens e
    by_true false e = by_false (says (codes "false") tokens) refl

    by_not : (b : Bool) → says (codes "not") tokens ≡ b → Opens style tokens (cond b opens.Not (cond (says (codes "true") tokens) opens.True (cond (says (codes "false") tokens) opens.False (cond (has_delays style && says (codes "delay") tokens) opens.Delay opens.Comparison))))
    by_not true e = says_is (codes "not") tokens e
    by_not false e = by_true (says (codes "true") tokens) refl

    by_bracket : (b : Bool) → stands Open tokens ≡ b → Opens style tokens (cond b opens.Bracket (cond (says (codes "not") tokens) opens.Not (cond (says (codes "true") tokens) opens.True (cond (says (codes "false") tokens) opens.False (cond (has_delays style && says (codes "delay") tokens) opens.Delay opens.Comparison)))))
    by_bracket true e = stands_is Open tokens e
    by_bracket false e = by_not (says (codes "not") tokens) refl

module _ (style : Style) (part whole : Reader) (Part Whole : List Token → Condition → Type 0) (PartEnds : Ending Part) (WholeEnds : Ending Whole) (part_takes : Takes part Part PartEnds) (whole_takes : Takes whole Whole WholeEnds) where
  -- a part that is spelled simply
  simply : (s : Pending) (x : Condition × Pending) → ReadsPart (SpellsSimple style) (EndsSimple style) comparisons s x → ReadsPart (SpellsOpened style Part Whole) (EndsOpened style Part Whole PartEnds) comparisons s x
  simply s x r = record { front = r.front; parts = r.parts; spelled = simple r.spelled; ends = r.ends; count = r.count; limit = r.limit }

  -- one word that is a part
  word_taken : (w : List ℕ) (c : Condition) (s : Pending) (x : Condition × Pending) → s.tokens ≡ word w ∷ after s.tokens → (spelled : SpellsSimple style (word w ∷ []) c) → EndsSimple style (word w ∷ []) c spelled (after s.tokens) → comparisons c ≡ 0
      → ◌≡◌ {A = Result (Condition × Pending) Fault} (Ok (c, behind s)) (Ok x) → ReadsPart (SpellsOpened style Part Whole) (EndsOpened style Part Whole PartEnds) comparisons s x
  word_taken w c s x here spelled ends none e = subst (ReadsPart (SpellsOpened style Part Whole) (EndsOpened style Part Whole PartEnds) comparisons s) (ok_is {E = Fault} (c, behind s) x e)
      (record { front = word w ∷ []; parts = here; spelled = simple spelled; ends = ends; count = omega arith; limit = λ le. le })

  opposite_taken : (s : Pending) (x : Condition × Pending) → s.tokens ≡ word (codes "not") ∷ after s.tokens → opposite_by part s ≡ Ok x → ReadsPart (SpellsOpened style Part Whole) (EndsOpened style Part Whole PartEnds) comparisons s x
  opposite_taken s x here e =
      let a = bind_ok (part (behind s)) _ x e in
      let inner = part_takes (behind s) a.0 a.1 in
      subst (ReadsPart (SpellsOpened style Part Whole) (EndsOpened style Part Whole PartEnds) comparisons s) {x = (opposite a.0.0, a.0.1)} (ok_is {E = Fault} (opposite a.0.0, a.0.1) x a.2) (record {
        front = word (codes "not") ∷ inner.front;
        parts = here ∙ ap (λ (ts : List Token). word (codes "not") ∷ ts) inner.parts;
        spelled = negated inner.spelled;
        ends = inner.ends;
        count = inner.count;
        limit = inner.limit;
      })

  bracketed_taken : (s : Pending) (x : Condition × Pending) → s.tokens ≡ sign Open ∷ after s.tokens → bracketed_by whole s ≡ Ok x → ReadsPart (SpellsOpened style Part Whole) (EndsOpened style Part Whole PartEnds) comparisons s x
  bracketed_taken s x here e =
      let a = bind_ok (whole (behind s)) _ x e in
      let b = bind_ok (sign_by Close a.0.1.tokens) _ x a.2 in
      let inner = whole_takes (behind s) a.0 a.1 in
      subst (ReadsPart (SpellsOpened style Part Whole) (EndsOpened style Part Whole PartEnds) comparisons s) {x = (a.0.0, pending a.0.1.begun b.0)} (ok_is {E = Fault} (a.0.0, pending a.0.1.begun b.0) x b.2) (record {
        front = sign Open ∷ inner.front ++ sign Close ∷ [];
        parts = here ∙ ap (λ (ts : List Token). sign Open ∷ ts) (inner.parts ∙ ap (λ (ts : List Token). inner.front ++ ts) (sign_taken Close a.0.1.tokens b.0 b.1) ∙ sym (append_assoc inner.front (sign Close ∷ []) b.0));
        spelled = bracketed inner.spelled;
        ends = tt;
        count = inner.count;
        limit = inner.limit;
      })

  opened_taken : (s : Pending) (x : Condition × Pending) (o : Opening) → Opens style s.tokens o → opened_by style part whole o s ≡ Ok x → ReadsPart (SpellsOpened style Part Whole) (EndsOpened style Part Whole PartEnds) comparisons s x
  opened_taken s x opens.Not here e = opposite_taken s x here e
  opened_taken s x opens.Bracket here e = bracketed_taken s x here e
  opened_taken s x opens.True here e = word_taken (codes "true") always s x here truth tt refl e
  opened_taken s x opens.False here e = word_taken (codes "false") never s x here falsity tt refl e
  opened_taken s x opens.Delay here e = by style here.0 (simply s x)
    where
      by : (t : Style) → has_delays t ≡ true → (ReadsPart (SpellsSimple t) (EndsSimple t) comparisons s x → ReadsPart (SpellsOpened style Part Whole) (EndsOpened style Part Whole PartEnds) comparisons s x) → ReadsPart (SpellsOpened style Part Whole) (EndsOpened style Part Whole PartEnds) comparisons s x
      by Controller has go = go (delay_taken s x here.1 e)
      by Question has go = absurd (cc)
  opened_taken s x opens.Comparison here e = simply s x (comparison_taken style s x e)

pub none_taken : (Ends : Ending Nothing) → Takes too_deep Nothing Ends
none_taken Ends s x e = absurd (cc)

pub part_taken : (style : Style) (room : ℕ) → Takes (part_by style room) (SpellsPart style room) (EndsPart style room)
unfolding part_by SpellsPart EndsPart
part_taken style zero s x e =
    opened_taken style too_deep too_deep Nothing Nothing Free Free (none_taken Free) (none_taken Free)
    s x (opening_of style s.tokens) (opening_is style s.tokens) e
part_taken style (suc room) s x e =
    opened_taken style (part_by style room) (joined_by (part_by style room)) (SpellsPart style room) (SpellsJoined (SpellsPart style room)) (EndsPart style room) (EndsWhole (SpellsPart style room) (EndsPart style room))
    (part_taken style room) (joined_taken (part_by style room) (SpellsPart style room) (EndsPart style room) (part_taken style room)) s x (opening_of style s.tokens) (opening_is style s.tokens) e

-- a part leaves no more tokens than there were
pub part_shortens : (style : Style) (room : ℕ) (s : Pending) (x : Condition × Pending) → part_by style room s ≡ Ok x → length x.1.tokens ≤ length s.tokens
part_shortens style room s x e = shorter (SpellsPart style room) (EndsPart style room) comparisons s x (part_taken style room s x e)

pub conjunction_shortens : (style : Style) (room : ℕ) (s : Pending) (x : Condition × Pending) → conjunction_by (part_by style room) s ≡ Ok x → length x.1.tokens ≤ length s.tokens
conjunction_shortens style room s x e =
    shorter (SpellsConjunction (SpellsPart style room)) (EndsConjunction (SpellsPart style room) (EndsPart style room)) comparisons s x (conjunction_taken (part_by style room) (SpellsPart style room) (EndsPart style room) (part_taken style room) s x e)

-- a condition with so much room
pub whole_taken : (style : Style) (room : ℕ) → Takes (joined_by (part_by style room)) (SpellsJoined (SpellsPart style room)) (EndsWhole (SpellsPart style room) (EndsPart style room))
whole_taken style room = joined_taken (part_by style room) (SpellsPart style room) (EndsPart style room) (part_taken style room)

pub condition_taken : (style : Style) (tokens : List Token) (x : Condition × List Token) → condition_by style tokens ≡ Ok x → Taken (SpellsCond style) (EndsCond style) tokens x
unfolding condition_by condition_within
condition_taken style tokens x e =
    let a = bind_ok (joined_by (part_by style 16) (pending 0 tokens)) _ x e in
    let t = whole_taken style 16 (pending 0 tokens) a.0 a.1 in
    subst (Taken (SpellsCond style) (EndsCond style) tokens) (ok_is {E = Fault} (a.0.0, a.0.1.tokens) x a.2) (record {
      front = t.front;
      parts = t.parts;
      spelled = record { derived = t.spelled; few = omega (arith, t.count, t.limit (omega arith)) };
      ends = t.ends;
    })
