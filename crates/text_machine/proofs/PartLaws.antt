-- Values and the numbers of their lines: what part of a text each value is, and that the numbers give the value back.
use Rattle.std.proofs.Common.{◌≡◌, ℕ, zero, suc, ◌+◌, ℤ, List, [], ◌∷◌, ◌++◌, length, refl, sym, ap, subst, ◌∙◌, arith}
use Rattle.std.proofs.lemmas.List.{length-append}
use Rattle.text_lines.specs.Steps.{numbered, AllNumbered}
use Rattle.text_machine.specs.Lines.{spell_line, Suits}
use Rattle.text_machine.specs.Texts.{Table, HasItems, spell_lines, IsWhole}
use Rattle.text_machine.specs.Scripts.{Line, listed, lines_from, scripted, EachOf}

-- these are the numbers of these lines
abbrev pub AllSuit : {R : Type 0} → List (Line R) → Table → Type 0
AllSuit [] [] = Unit {0}
AllSuit [] (zs ∷ table) = ⊥
AllSuit (one ∷ lines) [] = ⊥
AllSuit (one ∷ lines) (zs ∷ table) = (Suits one.form zs × HasItems (spell_line one.form zs)) × AllSuit lines table

abbrev pub spell_all : {R : Type 0} → List (Line R) → Table → List (List (List ℕ))
spell_all [] table = []
spell_all (one ∷ lines) [] = []
spell_all (one ∷ lines) (zs ∷ table) = spell_line one.form zs ∷ spell_all lines table

-- a whole table of listed lines
pub listed_whole : {R : Type 0} (behind : ℕ → R) (lines : List (Line R)) (table : Table) → AllSuit lines table → IsWhole (scripted behind) (listed lines) table
unfolding listed IsWhole
listed_whole behind [] [] all = refl
listed_whole behind [] (zs ∷ table) all = absurd all
listed_whole behind (one ∷ lines) [] all = absurd all
listed_whole behind (one ∷ lines) (zs ∷ table) all = (all.0, listed_whole behind lines table all.1)

pub whole_listed : {R : Type 0} (behind : ℕ → R) (lines : List (Line R)) (table : Table) → IsWhole (scripted behind) (listed lines) table → AllSuit lines table
unfolding listed IsWhole
whole_listed behind [] [] whole = tt
whole_listed behind [] (zs ∷ table) whole = whole.0
whole_listed behind (one ∷ lines) [] whole = absurd (cc)
whole_listed behind (one ∷ lines) (zs ∷ table) whole = (whole.0, whole_listed behind lines table whole.1)

pub listed_spelled : {R : Type 0} (behind : ℕ → R) (lines : List (Line R)) (table : Table) → AllSuit lines table → spell_lines (scripted behind) (listed lines) table ≡ spell_all lines table
unfolding listed spell_lines
listed_spelled behind [] [] all = refl
listed_spelled behind [] (zs ∷ table) all = absurd all
listed_spelled behind (one ∷ lines) [] all = refl
listed_spelled behind (one ∷ lines) (zs ∷ table) all = ap (λ (ls : List (List (List ℕ))). spell_line one.form zs ∷ ls) (listed_spelled behind lines table all.1)

-- ---- two parts of a table

suit-append : {R : Type 0} (front back : List (Line R)) (us vs : Table) → AllSuit front us → AllSuit back vs → AllSuit (front ++ back) (us ++ vs)
suit-append [] back [] vs f b = b
suit-append [] back (zs ∷ us) vs f b = absurd f
suit-append (one ∷ front) back [] vs f b = absurd f
suit-append (one ∷ front) back (zs ∷ us) vs f b = (f.0, suit-append front back us vs f.1 b)

spell-append : {R : Type 0} (front back : List (Line R)) (us vs : Table) → AllSuit front us → spell_all (front ++ back) (us ++ vs) ≡ spell_all front us ++ spell_all back vs
spell-append [] back [] vs f = refl
spell-append [] back (zs ∷ us) vs f = absurd f
spell-append (one ∷ front) back [] vs f = absurd f
spell-append (one ∷ front) back (zs ∷ us) vs f = ap (λ (ls : List (List (List ℕ))). spell_line one.form zs ∷ ls) (spell-append front back us vs f.1)

record Cut {R : Type 0} (front back : List (Line R)) (table : Table) : Type 0 where
  us : Table
  vs : Table
  parts : us ++ vs ≡ table
  first : AllSuit front us
  second : AllSuit back vs

suit-cut : {R : Type 0} (front back : List (Line R)) (table : Table) → AllSuit (front ++ back) table → Cut front back table
suit-cut [] back table all = record { us = []; vs = table; parts = refl; first = tt; second = all }
suit-cut (one ∷ front) back [] all = absurd all
suit-cut (one ∷ front) back (zs ∷ table) all =
    let c = suit-cut front back table all.1 in
    record { us = zs ∷ c.us; vs = c.vs; parts = ap (λ (ts : Table). zs ∷ ts) c.parts; first = (all.0, c.first); second = c.second }

same_front : {A : Type 0} (us vs us' vs' : List A) → length us ≡ length us' → us ++ vs ≡ us' ++ vs' → (us ≡ us') × (vs ≡ vs')
same_front [] vs [] vs' l e = (refl, e)
same_front [] vs (y ∷ us') vs' l e = absurd (omega arith)
same_front (x ∷ us) vs [] vs' l e = absurd (omega arith)
same_front {A} (x ∷ us) vs (y ∷ us') vs' l e =
    let heads = cons_is x y (us ++ vs) (us' ++ vs') e in
    let rest = same_front us vs us' vs' (omega arith) heads.1 in
    (ap (λ (z : A). z ∷ us) heads.0 ∙ ap (λ (zs : List A). y ∷ zs) rest.0, rest.1)
  where
    cons_is : (a b : A) (ls ms : List A) → a ∷ ls ≡ b ∷ ms → (a ≡ b) × (ls ≡ ms)
    cons_is a b ls ms e = (cc, cc)

-- ---- values as parts of a table

-- the value that a table is of
pub record Found {X : Type 0} (table : X → Table) (Fits : X → Type 0) (ts : Table) : Type 0 where
  pub value : X
  pub is : table value ≡ ts
  pub fits : Fits value

-- these lines are those of the values that fit: `table` gives their numbers, and `spelled` the lines; values of the
-- same size are told apart by their numbers
pub record Part {R X : Type 0} (lines : List (Line R)) (table : X → Table) (spelled : X → List (List (List ℕ))) (Sized Fits : X → Type 0) : Type 0 where
  pub sized : (x : X) → Fits x → Sized x
  pub long : (x : X) → Sized x → length (table x) ≡ length lines
  pub suits : (x : X) → Fits x → AllSuit lines (table x)
  pub spells : (x : X) → Fits x → spell_all lines (table x) ≡ spelled x
  pub found : (ts : Table) → AllSuit lines ts → Found table Fits ts
  pub same : (x y : X) → Sized x → Sized y → table x ≡ table y → x ≡ y

-- one line
pub record OneLine {R X : Type 0} (one : Line R) (numbers : X → List ℤ) (items : X → List (List ℕ)) (Fits : X → Type 0) : Type 0 where
  pub suits : (x : X) → Fits x → Suits one.form (numbers x) × HasItems (spell_line one.form (numbers x))
  pub spells : (x : X) → Fits x → spell_line one.form (numbers x) ≡ items x
  pub found : (zs : List ℤ) → Suits one.form zs → (x : X) × ((numbers x ≡ zs) × Fits x)
  pub same : (x y : X) → numbers x ≡ numbers y → x ≡ y

pub line_part : {R X : Type 0} (one : Line R) (numbers : X → List ℤ) (items : X → List (List ℕ)) (Fits : X → Type 0) → OneLine one numbers items Fits
    → Part (one ∷ []) (λ x. numbers x ∷ []) (λ x. items x ∷ []) (λ _. Unit {0}) Fits
line_part {R} {X} one numbers items Fits law = record {
  sized = λ x f. tt;
  long = λ x s. refl;
  suits = λ x f. (law.suits x f, tt);
  spells = λ x f. ap (λ (i : List (List ℕ)). i ∷ []) (law.spells x f);
  found = of_table;
  same = λ x y s t e. law.same x y (head_is (numbers x) (numbers y) e);
}
  where
    of_table : (ts : Table) → AllSuit (one ∷ []) ts → Found (λ x. numbers x ∷ []) Fits ts
    of_table [] all = absurd all
    of_table (zs ∷ []) all =
        let f = law.found zs all.0.0 in
        record { value = f.0; is = ap (λ (ys : List ℤ). ys ∷ []) f.1.0; fits = f.1.1 }
    of_table (zs ∷ ys ∷ ts) all = absurd all.1

    head_is : (ys zs : List ℤ) → ys ∷ [] ≡ zs ∷ [] → ys ≡ zs
    head_is ys zs e = cc

-- one part and another
pub pair_part : {R X Y : Type 0} (front back : List (Line R)) (tx : X → Table) (ty : Y → Table) (sx : X → List (List (List ℕ))) (sy : Y → List (List (List ℕ))) (SX FX : X → Type 0) (SY FY : Y → Type 0)
    → Part front tx sx SX FX → Part back ty sy SY FY
    → Part (front ++ back) (λ (z : X × Y). tx z.0 ++ ty z.1) (λ z. sx z.0 ++ sy z.1) (λ z. SX z.0 × SY z.1) (λ z. FX z.0 × FY z.1)
pair_part {R} {X} {Y} front back tx ty sx sy SX FX SY FY p q = record {
  sized = λ z f. (p.sized z.0 f.0, q.sized z.1 f.1);
  long = λ z s. length-append (tx z.0) (ty z.1) ∙ ap (λ n. n + length (ty z.1)) (p.long z.0 s.0) ∙ ap (λ n. length front + n) (q.long z.1 s.1) ∙ sym (length-append front back);
  suits = λ z f. suit-append front back (tx z.0) (ty z.1) (p.suits z.0 f.0) (q.suits z.1 f.1);
  spells = λ z f. spell-append front back (tx z.0) (ty z.1) (p.suits z.0 f.0) ∙ ap (λ (ls : List (List (List ℕ))). ls ++ spell_all back (ty z.1)) (p.spells z.0 f.0) ∙ ap (λ (ls : List (List (List ℕ))). sx z.0 ++ ls) (q.spells z.1 f.1);
  found = λ ts all.
      let c = suit-cut front back ts all in
      let x = p.found c.us c.first in
      let y = q.found c.vs c.second in
      record { value = (x.value, y.value); is = ap (λ (us : Table). us ++ ty y.value) x.is ∙ ap (λ (vs : Table). c.us ++ vs) y.is ∙ c.parts; fits = (x.fits, y.fits) };
  same = λ z w s t e.
      let parts = same_front (tx z.0) (ty z.1) (tx w.0) (ty w.1) (p.long z.0 s.0 ∙ sym (p.long w.0 t.0)) e in
      same_pair z.0 w.0 z.1 w.1 (p.same z.0 w.0 s.0 t.0 parts.0) (q.same z.1 w.1 s.1 t.1 parts.1);
}
  where
    same_pair : (a b : X) (c d : Y) → a ≡ b → c ≡ d → ◌≡◌ {A = X × Y} (a, c) (b, d)
    same_pair a b c d e f = cc

-- the same of values that hold these
pub as_part : {R X Z : Type 0} (lines : List (Line R)) (table : X → Table) (spelled : X → List (List (List ℕ))) (Sized Fits : X → Type 0) (fits : Z → Type 0) (of : Z → X) (make : X → Z)
    → ((x : X) → of (make x) ≡ x) → ((z : Z) → make (of z) ≡ z) → ((z : Z) → fits z → Fits (of z)) → ((x : X) → Fits x → fits (make x))
    → Part lines table spelled Sized Fits → Part lines (λ z. table (of z)) (λ z. spelled (of z)) (λ z. Sized (of z)) fits
as_part {R} {X} {Z} lines table spelled Sized Fits fits of make there back into from p = record {
  sized = λ z f. p.sized (of z) (into z f);
  long = λ z s. p.long (of z) s;
  suits = λ z f. p.suits (of z) (into z f);
  spells = λ z f. p.spells (of z) (into z f);
  found = λ ts all.
      let x = p.found ts all in
      record { value = make x.value; is = ap table (there x.value) ∙ x.is; fits = from x.value x.fits };
  same = λ z w s t e. sym (back z) ∙ ap make (p.same (of z) (of w) s t e) ∙ back w;
}

-- a list of one more
record Cons {X : Type 0} (P : ℕ → X → Type 0) (count first : ℕ) (xs : List X) : Type 0 where
  head : X
  tail : List X
  is : xs ≡ head ∷ tail
  here : P first head
  others : EachOf P count (first + 1) tail

uncons : {X : Type 0} (P : ℕ → X → Type 0) (count first : ℕ) (xs : List X) → EachOf P (suc count) first xs → Cons P count first xs
unfolding AllNumbered
uncons P count first [] each = absurd (omega (arith, each.counted))
uncons P count first (x ∷ xs) each = record { head = x; tail = xs; is = refl; here = each.all.0; others = record { counted = omega (arith, each.counted); all = each.all.1 } }

cons_each : {X : Type 0} (P : ℕ → X → Type 0) (count first : ℕ) (x : X) (xs : List X) → P first x → EachOf P count (first + 1) xs → EachOf P (suc count) first (x ∷ xs)
unfolding AllNumbered
cons_each P count first x xs here others = record { counted = ap suc others.counted; all = (here, others.all) }

cons_part : {R X : Type 0} (lines : ℕ → List (Line R)) (table : ℕ → X → Table) (spelled : ℕ → X → List (List (List ℕ))) (Sized Fits : ℕ → X → Type 0) (count first : ℕ)
    → Part (lines first ++ lines_from lines count (first + 1)) (λ (z : X × List X). table first z.0 ++ numbered table (first + 1) z.1) (λ z. spelled first z.0 ++ numbered spelled (first + 1) z.1)
    (λ z. Sized first z.0 × EachOf Sized count (first + 1) z.1) (λ z. Fits first z.0 × EachOf Fits count (first + 1) z.1)
    → Part (lines first ++ lines_from lines count (first + 1)) (numbered table first) (numbered spelled first) (EachOf Sized (suc count) first) (EachOf Fits (suc count) first)
unfolding numbered
cons_part {R} {X} lines table spelled Sized Fits count first p =
    let all = lines first ++ lines_from lines count (first + 1) in
    record {
      sized = λ xs f.
          let c = uncons Fits count first xs f in
          let s = p.sized (c.head, c.tail) (c.here, c.others) in
          subst (EachOf Sized (suc count) first) (sym c.is) (cons_each Sized count first c.head c.tail s.0 s.1);
      long = λ xs s.
          let c = uncons Sized count first xs s in
          ap (λ (ys : List X). length (numbered table first ys)) c.is ∙ p.long (c.head, c.tail) (c.here, c.others);
      suits = λ xs f.
          let c = uncons Fits count first xs f in
          subst (λ (ys : List X). AllSuit all (numbered table first ys)) (sym c.is) (p.suits (c.head, c.tail) (c.here, c.others));
      spells = λ xs f.
          let c = uncons Fits count first xs f in
          subst (λ (ys : List X). spell_all all (numbered table first ys) ≡ numbered spelled first ys) (sym c.is) (p.spells (c.head, c.tail) (c.here, c.others));
      found = λ ts suit.
          let v = p.found ts suit in
          record { value = v.value.0 ∷ v.value.1; is = v.is; fits = cons_each Fits count first v.value.0 v.value.1 v.fits.0 v.fits.1 };
      same = λ xs ys s t e.
          let c = uncons Sized count first xs s in
          let d = uncons Sized count first ys t in
          let pairs = p.same (c.head, c.tail) (d.head, d.tail) (c.here, c.others) (d.here, d.others)
          (sym (ap (numbered table first) c.is) ∙ e ∙ ap (numbered table first) d.is) in
          c.is ∙ ap (λ (z : X × List X). z.0 ∷ z.1) pairs ∙ sym d.is;
    }

-- so many parts
pub each_part : {R X : Type 0} (lines : ℕ → List (Line R)) (table : ℕ → X → Table) (spelled : ℕ → X → List (List (List ℕ))) (Sized Fits : ℕ → X → Type 0)
    → ((i : ℕ) → Part (lines i) (table i) (spelled i) (Sized i) (Fits i)) → (count first : ℕ)
    → Part (lines_from lines count first) (numbered table first) (numbered spelled first) (EachOf Sized count first) (EachOf Fits count first)
unfolding lines_from numbered AllNumbered
each_part {R} {X} lines table spelled Sized Fits parts zero first = record {
  sized = λ xs f. record { counted = f.counted; all = subst (AllNumbered Sized first) (sym (nothing xs f.counted)) tt };
  long = λ xs s. ap (λ (ys : List X). length (numbered table first ys)) (nothing xs s.counted);
  suits = λ xs f. subst (λ (ys : List X). AllSuit {R = R} [] (numbered table first ys)) (sym (nothing xs f.counted)) tt;
  spells = λ xs f. ap (numbered spelled first) (sym (nothing xs f.counted));
  found = of_table;
  same = λ xs ys s t e. nothing xs s.counted ∙ sym (nothing ys t.counted);
}
  where
    nothing : (xs : List X) → length xs ≡ 0 → xs ≡ []
    nothing [] e = refl
    nothing (x ∷ xs) e = absurd (omega arith)

    of_table : (ts : Table) → AllSuit {R = R} [] ts → Found (numbered table first) (EachOf Fits 0 first) ts
    of_table [] all = record { value = []; is = refl; fits = record { counted = refl; all = tt } }
    of_table (zs ∷ ts) all = absurd all
each_part {R} {X} lines table spelled Sized Fits parts (suc count) first =
    cons_part lines table spelled Sized Fits count first
    (pair_part (lines first) (lines_from lines count (first + 1)) (table first) (numbered table (first + 1)) (spelled first) (numbered spelled (first + 1))
    (Sized first) (Fits first) (EachOf Sized count (first + 1)) (EachOf Fits count (first + 1))
    (parts first) (each_part lines table spelled Sized Fits parts count (first + 1)))
