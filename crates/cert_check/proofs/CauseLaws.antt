-- A certificate at whose places nothing is found proves, and at the places of one that proves only a sum can pass.
use Rattle.std.proofs.Common.{◌≡◌, ◌≢◌, ◌↔◌, ℕ, zero, suc, ◌<◌, nat_lt, nat_eq, ℤ, pos, ◌≤ℤ◌, ◌<ℤ◌, Bool, true, false, cond, not, ◌&&◌, ◌||◌, ◌⊎◌, inl, inr, List, [], ◌∷◌, ◌++◌, map, length, Option, None, Some, is_some, slice_get, refl, sym, ◌∙◌, ap, subst, arith}
use Rattle.std.specs.Option.{option_map_or}
use Rattle.std.specs.Int.{is_negative, is_positive}
use Rattle.std.specs.Ordering.{int_eq}
use Rattle.std.proofs.lemmas.Bool.{ltb-true, lt-ltb, eqb-true, eq-eqb}
use Rattle.std.proofs.lemmas.Bool.Decides.{Decides-int_eq}
use Rattle.std.proofs.lemmas.Int.{ints}
use Rattle.std.proofs.lemmas.Option.{slice_get_within}
use Rattle.linear_form.proofs.ReducedLists.{true_not_false}
use Rattle.farkas_cert.specs.Literals.{negation}
use Rattle.farkas_cert.specs.Trees.{Tree, split, farkas, clause, Derived, lemmas_of}
use Rattle.farkas_cert.specs.declared.literals.Lit.{Lit}
use Rattle.farkas_cert.specs.declared.trees.Part.{Part}
use Rattle.farkas_cert.specs.declared.certificates.Cert.{Cert}
use Rattle.clause_form.specs.declared.clauses.Atom.{Atom}
use Rattle.clause_form.specs.declared.clauses.Clauses.{Clauses}
use Rattle.clause_form.specs.Derivations.{Rows, rows_of, LitRow, row_of_atom, row_of, coef_sum, bound_sum, Has, HasAtom, ArePartsOf, HasStrict, IsContradiction, IsFalseOn, Closes, NamesOnce, Follow, EndsEmpty, Proves, running_sum}
use Rattle.cert_check.specs.declared.found.Found.{Found}
use Rattle.cert_check.specs.declared.found.Found.TheVariants.{Sound, Breaks, Overflows}
use Rattle.cert_check.specs.Causes.{then_ask, asked, truth_on, is_sign, is_on_path, is_free, of_part, of_parts, number_at, of_sum, of_sums, of_rows, cancel_below, is_strict, some_strict, is_impossible, is_contradiction, of_leaf, is_false_on, of_cited, of_split, founds, names_once, Event, numbered, lemma_events, has_sizes, is_empty, end_event, events}
use Rattle.cert_check.specs.Verdicts.{EachFound, IsSound, StaysWithin}
use Rattle.cert_check.proofs.FirstLaws.{Each, Each-append, EachFound-append, EachFound-numbered}

-- ---- asking

abbrev both : Bool → Bool → Bool
both a b = a && b

pub then_sound : (a b : Found) → then_ask a b ≡ Sound → (a ≡ Sound) × (b ≡ Sound)
then_sound Sound b e = (refl, e)
then_sound (Breaks k) b e = absurd (cc)
then_sound (Overflows k) b e = absurd (cc)

pub asked_sound : (k : ℕ) (test : Bool) → asked k test ≡ Sound → test ≡ true
asked_sound k true e = refl
asked_sound k false e = absurd (cc)

sound_asked : (k : ℕ) (test : Bool) → test ≡ true → asked k test ≡ Sound
sound_asked k test e = ap (asked k) e

pub both_true : (a b : Bool) → both a b ≡ true → (a ≡ true) × (b ≡ true)
both_true true b e = (refl, e)
both_true false b e = absurd (cc)

pub true_both : (a b : Bool) → a ≡ true → b ≡ true → both a b ≡ true
true_both a b p q = ap (λ x. both x b) p ∙ q

-- ---- literals on a path that names no atom twice

same_sign : (sign is : Bool) → (is_sign sign (Some is) ≡ true) ↔ (sign ≡ is)
same_sign true true = (λ e. refl, λ e. refl)
same_sign true false = (λ e. absurd (cc), λ e. absurd (cc))
same_sign false true = (λ e. absurd (cc), λ e. absurd (cc))
same_sign false false = (λ e. refl, λ e. refl)

abbrev lit : ℕ → Bool → Lit
lit a sign = record { atom = a; positive = sign }

abbrev lit_of : Bool → ℕ → Lit
lit_of sign a = lit a sign

same_lit : (l m : Lit) → l.atom ≡ m.atom → l.positive ≡ m.positive → l ≡ m
same_lit l m p q = ap (lit_of l.positive) p ∙ ap (lit m.atom) q

Has-HasAtom : (path : List Lit) (l : Lit) → Has l path → HasAtom l.atom path
Has-HasAtom [] l has = has
Has-HasAtom (m ∷ ms) l (inl same) = inl (sym (ap (λ n. n.atom) same))
Has-HasAtom (m ∷ ms) l (inr has) = inr (Has-HasAtom ms l has)

no_sign : (sign : Bool) → is_sign sign None ≡ true → ⊥
no_sign sign e = cc

is_on_path-Has : (atoms : ℕ) (path : List Lit) → NamesOnce atoms path → (l : Lit) → (is_on_path path l ≡ true) ↔ Has l path
is_on_path-Has atoms [] once l = (λ e. no_sign l.positive e, λ h. absurd h)
is_on_path-Has atoms (m ∷ ms) once l = by (nat_eq m.atom l.atom) refl (is_on_path-Has atoms ms once.2 l)
  where
    by : (here : Bool) → nat_eq m.atom l.atom ≡ here → (is_on_path ms l ≡ true) ↔ Has l ms → (is_sign l.positive (cond here (Some m.positive) (truth_on ms l.atom)) ≡ true) ↔ Has l (m ∷ ms)
    by true e rest = (
      λ q. inl (same_lit l m (sym (eqb-true m.atom l.atom e)) ((same_sign l.positive m.positive).0 q)),
      λ h. (same_sign l.positive m.positive).1 (sign_of h),
    )
      where
        sign_of : Has l (m ∷ ms) → l.positive ≡ m.positive
        sign_of (inl same) = ap (λ n. n.positive) same
        sign_of (inr has) = absurd (once.1 (subst (λ (a : ℕ). HasAtom a ms) (sym (eqb-true m.atom l.atom e)) (Has-HasAtom ms l has)))
    by false e rest = (λ q. inr (rest.0 q), λ h. rest.1 (later h))
      where
        later : Has l (m ∷ ms) → Has l ms
        later (inl same) = absurd (true_not_false (sym (eq-eqb m.atom l.atom (sym (ap (λ n. n.atom) same))) ∙ e))
        later (inr has) = has

pub is_free-off : (path : List Lit) (a : ℕ) → (is_free (truth_on path a) ≡ true) ↔ (HasAtom a path → ⊥)
is_free-off [] a = (λ e h. h, λ h. refl)
is_free-off (m ∷ ms) a = by (nat_eq m.atom a) refl (is_free-off ms a)
  where
    by : (here : Bool) → nat_eq m.atom a ≡ here → (is_free (truth_on ms a) ≡ true) ↔ (HasAtom a ms → ⊥) → (is_free (cond here (Some m.positive) (truth_on ms a)) ≡ true) ↔ (HasAtom a (m ∷ ms) → ⊥)
    by true e rest = (λ q. absurd (cc), λ h. absurd (h (inl (eqb-true m.atom a e))))
    by false e rest = (λ q. off q, λ h. rest.1 (λ has. h (inr has)))
      where
        off : is_free (truth_on ms a) ≡ true → HasAtom a (m ∷ ms) → ⊥
        off q (inl same) = true_not_false (sym (eq-eqb m.atom a same) ∙ e)
        off q (inr has) = rest.0 q has

is_false_on-all : (atoms : ℕ) (path : List Lit) → NamesOnce atoms path → (lits : List Lit) → (is_false_on path lits ≡ true) ↔ IsFalseOn path lits
is_false_on-all atoms path once [] = (λ e. tt, λ h. refl)
is_false_on-all atoms path once (l ∷ ls) =
    let rest = is_false_on-all atoms path once ls in
    let here = is_on_path-Has atoms path once (negation l) in
    let first : Bool = is_on_path path (negation l) in (
      λ e. (here.0 (both_true first (is_false_on path ls) e).0, rest.0 (both_true first (is_false_on path ls) e).1),
      λ h. true_both first (is_false_on path ls) (here.1 h.0) (rest.1 h.1),
    )

names_once-all : (atoms : ℕ) (lits : List Lit) → (names_once atoms lits ≡ true) ↔ NamesOnce atoms lits
names_once-all atoms [] = (λ e. tt, λ h. refl)
names_once-all atoms (l ∷ ls) =
    let rest = names_once-all atoms ls in
    let free = is_free-off ls l.atom in
    let less : Bool = nat_lt l.atom atoms in
    let alone : Bool = is_free (truth_on ls l.atom) in (
      λ e. let first = both_true less alone (both_true (both less alone) (names_once atoms ls) e).0 in (ltb-true l.atom atoms first.0, free.0 first.1, rest.0 (both_true (both less alone) (names_once atoms ls) e).1),
      λ h. true_both (both less alone) (names_once atoms ls) (true_both less alone (lt-ltb l.atom atoms h.0) (free.1 h.1)) (rest.1 h.2),
    )

-- the negations of a clause name the atoms that it names
negated_names : (lits : List Lit) (a : ℕ) → HasAtom a (map negation lits) → HasAtom a lits
negated_names [] a has = has
negated_names (l ∷ ls) a (inl same) = inl same
negated_names (l ∷ ls) a (inr has) = inr (negated_names ls a has)

pub negated_once : (atoms : ℕ) (lits : List Lit) → NamesOnce atoms lits → NamesOnce atoms (map negation lits)
negated_once atoms [] once = tt
negated_once atoms (l ∷ ls) once = (once.0, λ has. once.1 (negated_names ls l.atom has), negated_once atoms ls once.2)

-- ---- parts

pub not_negative : (z : ℤ) → (not (is_negative z) ≡ true) ↔ (pos 0 ≤ℤ z)
not_negative z = by (is_negative z) refl
  where
    by : (b : Bool) → is_negative z ≡ b → (not b ≡ true) ↔ (pos 0 ≤ℤ z)
    by true e = (λ p. absurd (cc), λ h. absurd (omega (arith, ints)))
    by false e = (λ p. omega (arith, ints), λ h. refl)

is_positive-above : (z : ℤ) → (is_positive z ≡ true) ↔ (pos 0 <ℤ z)
is_positive-above z = by (is_positive z) refl
  where
    by : (b : Bool) → is_positive z ≡ b → (b ≡ true) ↔ (pos 0 <ℤ z)
    by true e = (λ p. omega (arith, ints), λ h. refl)
    by false e = (λ p. absurd (cc), λ h. absurd (omega (arith, ints)))

is_negative-below : (z : ℤ) → (is_negative z ≡ true) ↔ (z <ℤ pos 0)
is_negative-below z = by (is_negative z) refl
  where
    by : (b : Bool) → is_negative z ≡ b → (b ≡ true) ↔ (z <ℤ pos 0)
    by true e = (λ p. omega (arith, ints), λ h. refl)
    by false e = (λ p. absurd (cc), λ h. absurd (omega (arith, ints)))

-- a literal with a row has an atom
row_of-atom : (c : Rows) (l : Lit) (row : LitRow) → row_of c l ≡ Some row → l.atom < length c.atoms
row_of-atom c l row is = by (slice_get c.atoms l.atom) refl is
  where
    by : (atom : Option Atom) → slice_get c.atoms l.atom ≡ atom → option_map_or (row_of_atom c l.positive) atom None ≡ Some row → l.atom < length c.atoms
    by None e is = absurd (cc)
    by (Some atom) e is = slice_get_within c.atoms l.atom atom e

is_some-Some : (row : Option LitRow) → (is_some row ≡ true) ↔ ((r : LitRow) × (row ≡ Some r))
is_some-Some None = (λ e. absurd (cc), λ h. absurd (none h))
  where
    none : (r : LitRow) × (None ≡ Some r) → ⊥
    none h = let e = h.1 in cc
is_some-Some (Some r) = (λ e. (r, refl), λ h. refl)

of_parts-all : (c : Rows) (path : List Lit) → NamesOnce (length c.atoms) path → (ps : List Part) → (of_parts c path ps ≡ Sound) ↔ ArePartsOf c path ps
of_parts-all c path once [] = (λ e. tt, λ h. refl)
of_parts-all c path once (p ∷ ps) =
    let rest = of_parts-all c path once ps in
    let on = is_on_path-Has (length c.atoms) path once p.lit in
    let some = is_some-Some (row_of c p.lit) in
    let mult = not_negative p.mult in
    let placed : Bool = both (is_on_path path p.lit) (is_some (row_of c p.lit)) in
    let low : Found = asked 4 (not (is_negative p.mult)) in
    let known : Found = asked 7 placed in
    let ranged : Found = asked 2 (nat_lt p.lit.atom (length c.atoms)) in (
      λ e. let cut = then_sound (of_part c path p) (of_parts c path ps) e in let first = then_sound known low (then_sound ranged (then_ask known low) cut.0).1 in let two = both_true (is_on_path path p.lit) (is_some (row_of c p.lit)) (asked_sound 7 placed first.0) in (some.0 two.1, on.0 two.0, mult.0 (asked_sound 4 (not (is_negative p.mult)) first.1), rest.0 cut.1),
      λ h. ap (λ f. then_ask (then_ask f (then_ask known low)) (of_parts c path ps)) (sound_asked 2 (nat_lt p.lit.atom (length c.atoms)) (lt-ltb p.lit.atom (length c.atoms) (row_of-atom c p.lit h.0.0 h.0.1))) ∙ ap (λ f. then_ask (then_ask f low) (of_parts c path ps)) (sound_asked 7 placed (true_both (is_on_path path p.lit) (is_some (row_of c p.lit)) (on.1 h.1) (some.1 h.0))) ∙ ap (λ f. then_ask f (of_parts c path ps)) (sound_asked 4 (not (is_negative p.mult)) (mult.1 h.2)) ∙ rest.1 h.3,
    )

-- ---- sums

below_last : (j n : ℕ) → j < suc n → j ≢ n → j < n
below_last j n less apart = omega (arith, apart)

pub cancel_below-all : (c : Rows) (ps : List Part) (n : ℕ) → (cancel_below c ps n ≡ true) ↔ ((j : ℕ) → j < n → coef_sum c j ps ≡ pos 0)
cancel_below-all c ps zero = (λ e j less. absurd (omega arith), λ h. refl)
cancel_below-all c ps (suc n) =
    let rest = cancel_below-all c ps n in
    let here = Decides-int_eq (coef_sum c n ps) (pos 0) in
    let test : Bool = int_eq (coef_sum c n ps) (pos 0) in (
      λ e j less. last j less (rest.0 (both_true (cancel_below c ps n) test e).0) (here.0 (both_true (cancel_below c ps n) test e).1),
      λ h. true_both (cancel_below c ps n) test (rest.1 (λ j less. h j (omega arith))) (here.1 (h n (omega arith))),
    )
  where
    last : (j : ℕ) → j < suc n → ((j : ℕ) → j < n → coef_sum c j ps ≡ pos 0) → coef_sum c n ps ≡ pos 0 → coef_sum c j ps ≡ pos 0
    last j less before at = by (nat_eq j n) refl
      where
        by : (same : Bool) → nat_eq j n ≡ same → coef_sum c j ps ≡ pos 0
        by true e = ap (λ k. coef_sum c k ps) (eqb-true j n e) ∙ at
        by false e = before j (below_last j n less (λ same. true_not_false (sym (eq-eqb j n same) ∙ e)))

is_strict-strict : (row : Option LitRow) → (is_strict row ≡ true) ↔ (option_map_or (λ r. r.strict) row false ≡ true)
is_strict-strict None = (λ e. e, λ h. h)
is_strict-strict (Some row) = (λ e. e, λ h. h)

some_strict-HasStrict : (c : Rows) (ps : List Part) → (some_strict c ps ≡ true) ↔ HasStrict c ps
some_strict-HasStrict c [] = (λ e. absurd (cc), λ h. absurd h)
some_strict-HasStrict c (p ∷ ps) = by (is_strict (row_of c p.lit)) (is_positive p.mult) refl refl (some_strict-HasStrict c ps)
  where
    strict : (is_strict (row_of c p.lit) ≡ true) ↔ (option_map_or (λ r. r.strict) (row_of c p.lit) false ≡ true)
    strict = is_strict-strict (row_of c p.lit)

    above : (is_positive p.mult ≡ true) ↔ (pos 0 <ℤ p.mult)
    above = is_positive-above p.mult

    by : (s m : Bool) → is_strict (row_of c p.lit) ≡ s → is_positive p.mult ≡ m → (some_strict c ps ≡ true) ↔ HasStrict c ps → ((both s m || some_strict c ps) ≡ true) ↔ HasStrict c (p ∷ ps)
    by true true e f rest = (λ q. inl (strict.0 e, above.0 f), λ h. refl)
    by true false e f rest = (λ q. inr (rest.0 q), λ h. later h)
      where
        later : HasStrict c (p ∷ ps) → some_strict c ps ≡ true
        later (inl two) = absurd (true_not_false (sym (above.1 two.1) ∙ f))
        later (inr h) = rest.1 h
    by false m e f rest = (λ q. inr (rest.0 q), λ h. later h)
      where
        later : HasStrict c (p ∷ ps) → some_strict c ps ≡ true
        later (inl two) = absurd (true_not_false (sym (strict.1 two.0) ∙ e))
        later (inr h) = rest.1 h

is_impossible-either : (sum : ℤ) (strict : Bool) → (is_impossible sum strict ≡ true) ↔ ((sum <ℤ pos 0) ⊎ ((sum ≡ pos 0) × (strict ≡ true)))
is_impossible-either sum strict = by (is_negative sum) refl
  where
    even : (int_eq sum (pos 0) ≡ true) ↔ (sum ≡ pos 0)
    even = Decides-int_eq sum (pos 0)

    low : (is_negative sum ≡ true) ↔ (sum <ℤ pos 0)
    low = is_negative-below sum

    by : (b : Bool) → is_negative sum ≡ b → ((b || both (int_eq sum (pos 0)) strict) ≡ true) ↔ ((sum <ℤ pos 0) ⊎ ((sum ≡ pos 0) × (strict ≡ true)))
    by true e = (λ q. inl (low.0 e), λ h. refl)
    by false e =
        (λ q. let two = both_true (int_eq sum (pos 0)) strict q in inr (even.0 two.0, two.1), λ h. later h)
      where
        later : (sum <ℤ pos 0) ⊎ ((sum ≡ pos 0) × (strict ≡ true)) → both (int_eq sum (pos 0)) strict ≡ true
        later (inl h) = absurd (true_not_false (sym (low.1 h) ∙ e))
        later (inr two) = true_both (int_eq sum (pos 0)) strict (even.1 two.0) two.1

is_contradiction-all : (c : Rows) (path : List Lit) (ps : List Part) → ArePartsOf c path ps → (is_contradiction c ps ≡ true) ↔ IsContradiction c path ps
is_contradiction-all c path ps parts = (
  λ e. let two = both_true cancel impossible e in record { rows = parts; columns = cancelled.0 two.0; bound = bound_of (either.0 two.1) },
  λ h. true_both cancel impossible (cancelled.1 h.columns) (either.1 (test_of h.bound)),
)
  where
    total : ℤ
    total = bound_sum c ps

    cancel : Bool
    cancel = cancel_below c ps c.columns

    impossible : Bool
    impossible = is_impossible total (some_strict c ps)

    cancelled : (cancel ≡ true) ↔ ((j : ℕ) → j < c.columns → coef_sum c j ps ≡ pos 0)
    cancelled = cancel_below-all c ps c.columns

    either : (impossible ≡ true) ↔ ((total <ℤ pos 0) ⊎ ((total ≡ pos 0) × (some_strict c ps ≡ true)))
    either = is_impossible-either total (some_strict c ps)

    strict : (some_strict c ps ≡ true) ↔ HasStrict c ps
    strict = some_strict-HasStrict c ps

    bound_of : (total <ℤ pos 0) ⊎ ((total ≡ pos 0) × (some_strict c ps ≡ true)) → (total <ℤ pos 0) ⊎ ((total ≡ pos 0) × HasStrict c ps)
    bound_of (inl h) = inl h
    bound_of (inr h) = inr (h.0, strict.0 h.1)

    test_of : (total <ℤ pos 0) ⊎ ((total ≡ pos 0) × HasStrict c ps) → (total <ℤ pos 0) ⊎ ((total ≡ pos 0) × (some_strict c ps ≡ true))
    test_of (inl h) = inl h
    test_of (inr h) = inr (h.0, strict.1 h.1)

of_sum-breaks : (column : ℕ) (sum : Option ℤ) (k : ℕ) → of_sum column sum ≡ Breaks k → ⊥
of_sum-breaks column None k e = cc
of_sum-breaks column (Some z) k e = cc

then_breaks : (a b : Found) (k : ℕ) → then_ask a b ≡ Breaks k → (a ≡ Breaks k → ⊥) → (b ≡ Breaks k → ⊥) → ⊥
then_breaks Sound b k e p q = q e
then_breaks (Breaks j) b k e p q = p e
then_breaks (Overflows j) b k e p q = cc

of_sums-breaks : (c : Rows) (ps : List Part) (n k : ℕ) → of_sums c ps n ≡ Breaks k → ⊥
of_sums-breaks c ps zero k e = cc
of_sums-breaks c ps (suc n) k e =
    then_breaks (of_sums c ps n) (of_sum n (running_sum c (number_at c n) (pos 0) ps)) k e (of_sums-breaks c ps n k) (of_sum-breaks n (running_sum c (number_at c n) (pos 0) ps) k)

-- at sums only passing is found
only_overflows : (found next : Found) → ((k : ℕ) → found ≡ Breaks k → ⊥) → StaysWithin (then_ask found next) → found ≡ Sound
only_overflows Sound next never within = refl
only_overflows (Breaks k) next never within = absurd (never k refl)
only_overflows (Overflows k) next never within = absurd (within k refl)

-- ---- nodes

sound_within : (f : Found) → f ≡ Sound → StaysWithin f
sound_within f e column p = cc

of_leaf-contradiction : (c : Rows) (path : List Lit) → NamesOnce (length c.atoms) path → (ps : List Part) → of_leaf c path ps ≡ Sound → IsContradiction c path ps
unfolding of_leaf of_rows
of_leaf-contradiction c path once ps e =
    let sums : Found = of_sums c ps (suc c.columns) in
    let last : Found = asked 3 (is_contradiction c ps) in
    let cut = then_sound (of_parts c path ps) (then_ask sums last) e in
    let parts = of_parts-all c path once ps in
    let contradicts = is_contradiction-all c path ps (parts.0 cut.0) in
    contradicts.0 (asked_sound 3 (is_contradiction c ps) (then_sound sums last cut.1).1)

contradiction-of_leaf : (c : Rows) (path : List Lit) → NamesOnce (length c.atoms) path → (ps : List Part) → IsContradiction c path ps → StaysWithin (of_leaf c path ps) → of_leaf c path ps ≡ Sound
unfolding of_leaf of_rows
contradiction-of_leaf c path once ps is within =
    let sums : Found = of_sums c ps (suc c.columns) in
    let last : Found = asked 3 (is_contradiction c ps) in
    let parts = of_parts-all c path once ps in
    let contradicts = is_contradiction-all c path ps is.rows in
    let sound_parts : of_parts c path ps ≡ Sound = parts.1 is.rows in
    let later : then_ask (of_parts c path ps) (then_ask sums last) ≡ then_ask sums last = ap (λ f. then_ask f (then_ask sums last)) sound_parts in
    let sound_sums : sums ≡ Sound = only_overflows sums last (of_sums-breaks c ps (suc c.columns)) (subst StaysWithin later within) in
    later ∙ ap (λ f. then_ask f last) sound_sums ∙ sound_asked 3 (is_contradiction c ps) (contradicts.1 is)

of_cited-false : (atoms : ℕ) (path : List Lit) → NamesOnce atoms path → (cited : Option (List Lit)) → (of_cited path cited ≡ Sound) ↔ ((lits : List Lit) × (cited ≡ Some lits) × IsFalseOn path lits)
of_cited-false atoms path once None = (λ e. absurd (cc), λ h. absurd (none h))
  where
    none : (lits : List Lit) × (None ≡ Some lits) × IsFalseOn path lits → ⊥
    none h = let e = h.1 in cc
of_cited-false atoms path once (Some lits) =
    let all = is_false_on-all atoms path once lits in
    (λ e. (lits, refl, all.0 (asked_sound 5 (is_false_on path lits) e)), λ h. sound_asked 5 (is_false_on path lits) (all.1 (false_ones h)))
  where
    false_ones : (more : List Lit) × (Some lits ≡ Some more) × IsFalseOn path more → IsFalseOn path lits
    false_ones h = let e = h.1 in let same : h.0 ≡ lits = cc in subst (IsFalseOn path) same h.2

of_split-free : (c : Rows) (path : List Lit) (atom : ℕ) → (of_split c path atom ≡ Sound) ↔ ((atom < length c.atoms) × (HasAtom atom path → ⊥))
of_split-free c path atom =
    let less : Bool = nat_lt atom (length c.atoms) in
    let free = is_free-off path atom in
    let alone : Bool = is_free (truth_on path atom) in (
      λ e. let two = both_true less alone (asked_sound 2 (both less alone) e) in (ltb-true atom (length c.atoms) two.0, free.0 two.1),
      λ h. sound_asked 2 (both less alone) (true_both less alone (lt-ltb atom (length c.atoms) h.0) (free.1 h.1)),
    )

-- ---- trees

founds-close : (c : Rows) (known : List (List Lit)) (path : List Lit) → NamesOnce (length c.atoms) path → (tree : Tree) → Each IsSound (founds c known path tree) → Closes c known tree path
founds-close c known path once (split atom held failed) all =
    let yes : List Lit = record { atom = atom; positive = true } ∷ path in
    let no : List Lit = record { atom = atom; positive = false } ∷ path in
    let free = of_split-free c path atom in
    let here = free.0 all.0 in
    let sides = Each-append IsSound (founds c known yes held) (founds c known no failed) in
    let two = sides.0 all.1 in
    (here.0, here.1, founds-close c known yes (here.0, here.1, once) held two.0, founds-close c known no (here.0, here.1, once) failed two.1)
founds-close c known path once (farkas parts) all = of_leaf-contradiction c path once parts all.0
founds-close c known path once (clause number) all =
    let cites = of_cited-false (length c.atoms) path once (slice_get known number) in cites.0 all.0

close-founds : (c : Rows) (known : List (List Lit)) (path : List Lit) → NamesOnce (length c.atoms) path → (tree : Tree) → Closes c known tree path → Each StaysWithin (founds c known path tree) → Each IsSound (founds c known path tree)
close-founds c known path once (split atom held failed) closes within =
    let yes : List Lit = record { atom = atom; positive = true } ∷ path in
    let no : List Lit = record { atom = atom; positive = false } ∷ path in
    let free = of_split-free c path atom in
    let cut = Each-append StaysWithin (founds c known yes held) (founds c known no failed) in
    let two = cut.0 within.1 in
    let sides = Each-append IsSound (founds c known yes held) (founds c known no failed) in
    let longer : (atom < length c.atoms) × (HasAtom atom path → ⊥) × NamesOnce (length c.atoms) path = (closes.0, closes.1, once) in
    (free.1 (closes.0, closes.1), sides.1 (close-founds c known yes longer held closes.2 two.0, close-founds c known no longer failed closes.3 two.1))
close-founds c known path once (farkas parts) closes within = (contradiction-of_leaf c path once parts closes within.0, tt)
close-founds c known path once (clause number) closes within =
    let cites = of_cited-false (length c.atoms) path once (slice_get known number) in (cites.1 closes, tt)

-- ---- lemmas

events-derive : (c : Rows) (known : List (List Lit)) (lemma : ℕ) (ds : List Derived) → EachFound IsSound (lemma_events c known lemma ds) → Follow c known ds
events-derive c known lemma [] all = tt
events-derive c known lemma (d ∷ ds) all =
    let named : Found = asked 2 (names_once (length c.atoms) d.lits) in
    let nodes : List Found = founds c known (map negation d.lits) d.tree in
    let cut = EachFound-append IsSound (numbered lemma 0 (named ∷ nodes)) (lemma_events c (known ++ d.lits ∷ []) (suc lemma) ds) in
    let two = cut.0 all in
    let one = EachFound-numbered IsSound lemma 0 (named ∷ nodes) in
    let first = one.0 two.0 in
    let once = names_once-all (length c.atoms) d.lits in (
      once.0 (asked_sound 2 (names_once (length c.atoms) d.lits) first.0),
      founds-close c known (map negation d.lits) (negated_once (length c.atoms) d.lits (once.0 (asked_sound 2 (names_once (length c.atoms) d.lits) first.0))) d.tree first.1,
      events-derive c (known ++ d.lits ∷ []) (suc lemma) ds two.1,
    )

derive-events : (c : Rows) (known : List (List Lit)) (lemma : ℕ) (ds : List Derived) → Follow c known ds → EachFound StaysWithin (lemma_events c known lemma ds) → EachFound IsSound (lemma_events c known lemma ds)
derive-events c known lemma [] derived within = tt
derive-events c known lemma (d ∷ ds) derived within =
    let named : Found = asked 2 (names_once (length c.atoms) d.lits) in
    let nodes : List Found = founds c known (map negation d.lits) d.tree in
    let more : List Event = lemma_events c (known ++ d.lits ∷ []) (suc lemma) ds in
    let cut = EachFound-append StaysWithin (numbered lemma 0 (named ∷ nodes)) more in
    let two = cut.0 within in
    let one = EachFound-numbered StaysWithin lemma 0 (named ∷ nodes) in
    let first = one.0 two.0 in
    let once = names_once-all (length c.atoms) d.lits in
    let joined = EachFound-append IsSound (numbered lemma 0 (named ∷ nodes)) more in
    let back = EachFound-numbered IsSound lemma 0 (named ∷ nodes) in
    joined.1 (back.1 (sound_asked 2 (names_once (length c.atoms) d.lits) (once.1 derived.0), close-founds c known (map negation d.lits) (negated_once (length c.atoms) d.lits derived.0) d.tree derived.1 first.1), derive-events c (known ++ d.lits ∷ []) (suc lemma) ds derived.2 two.1)

is_empty-none : (lits : List Lit) → (is_empty lits ≡ true) ↔ (lits ≡ [])
is_empty-none [] = (λ e. refl, λ h. refl)
is_empty-none (l ∷ ls) = (λ e. absurd (cc), λ h. absurd (cc))

end_event-empty : (lemma : ℕ) (ds : List Derived) → IsSound (end_event lemma ds).found ↔ EndsEmpty ds
end_event-empty lemma [] = (λ e. absurd (cc), λ h. absurd h)
end_event-empty lemma (d ∷ []) =
    let none = is_empty-none d.lits in
    (λ e. none.0 (asked_sound 8 (is_empty d.lits) e), λ h. sound_asked 8 (is_empty d.lits) (none.1 h))
end_event-empty lemma (d ∷ e ∷ ds) = end_event-empty (suc lemma) (e ∷ ds)

has_sizes-all : (c : Clauses) (cert : Cert) → (has_sizes c cert ≡ true) ↔ ((cert.columns ≡ c.columns) × (cert.atoms ≡ length c.atoms) × (cert.clauses ≡ length c.clauses))
has_sizes-all c cert =
    let columns : Bool = nat_eq cert.columns c.columns in
    let atoms : Bool = nat_eq cert.atoms (length c.atoms) in
    let clauses : Bool = nat_eq cert.clauses (length c.clauses) in (
      λ e. let two = both_true columns (both atoms clauses) e in let rest = both_true atoms clauses two.1 in (eqb-true cert.columns c.columns two.0, eqb-true cert.atoms (length c.atoms) rest.0, eqb-true cert.clauses (length c.clauses) rest.1),
      λ h. true_both columns (both atoms clauses) (eq-eqb cert.columns c.columns h.0) (true_both atoms clauses (eq-eqb cert.atoms (length c.atoms) h.1) (eq-eqb cert.clauses (length c.clauses) h.2)),
    )

-- ---- certificates

pub events-prove : (c : Clauses) (cert : Cert) → EachFound IsSound (events c cert) → Proves c cert
unfolding events
events-prove c cert all =
    let sizes = has_sizes-all c cert in
    let cut = EachFound-append IsSound (lemma_events (rows_of c) c.clauses 0 (lemmas_of cert)) (end_event 0 (lemmas_of cert) ∷ []) in
    let two = cut.0 all.1 in
    let end = end_event-empty 0 (lemmas_of cert) in
    let three = sizes.0 (asked_sound 1 (has_sizes c cert) all.0) in
    record {
      columns = three.0;
      atoms = three.1;
      clauses = three.2;
      lemmas = events-derive (rows_of c) c.clauses 0 (lemmas_of cert) two.0;
      ends = end.0 two.1.0;
    }

pub prove-events : (c : Clauses) (cert : Cert) → Proves c cert → EachFound StaysWithin (events c cert) → EachFound IsSound (events c cert)
unfolding events
prove-events c cert proves within =
    let sizes = has_sizes-all c cert in
    let cut = EachFound-append StaysWithin (lemma_events (rows_of c) c.clauses 0 (lemmas_of cert)) (end_event 0 (lemmas_of cert) ∷ []) in
    let two = cut.0 within.1 in
    let end = end_event-empty 0 (lemmas_of cert) in
    let joined = EachFound-append IsSound (lemma_events (rows_of c) c.clauses 0 (lemmas_of cert)) (end_event 0 (lemmas_of cert) ∷ []) in
    (sound_asked 1 (has_sizes c cert) (sizes.1 (proves.columns, proves.atoms, proves.clauses)), joined.1 (derive-events (rows_of c) c.clauses 0 (lemmas_of cert) proves.lemmas two.0, (end.1 proves.ends, tt)))

pub within-events : (es : List Event) → EachFound IsSound es → EachFound StaysWithin es
within-events [] all = tt
within-events (e ∷ es) all = (sound_within e.found all.0, within-events es all.1)
