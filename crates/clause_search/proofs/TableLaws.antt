-- The trail's table of truths follows the trail.
use Rattle.std.proofs.Common.{◌≡◌, ◌≢◌, ℕ, zero, suc, ◌+◌, ◌-◌, ◌<◌, ◌≤◌, nat_eq, Bool, true, false, not, inl, inr, List, [], ◌∷◌, ◌++◌, map, length, take, set, get_or, below_more, replicate, Option, None, Some, refl, sym, ◌∙◌, ap, subst, arith}
use Rattle.std.proofs.Math.Bool.{beq}
use Rattle.std.proofs.lemmas.Bool.{eqb-true, eq-eqb}
use Rattle.std.proofs.lemmas.List.{get_or-set_same, get_or-set_other, length-set, length-map, length-append}
use Rattle.farkas_cert.specs.declared.literals.Lit.{Lit}
use Rattle.clause_form.specs.Derivations.{Has, HasAtom, NamesOnce}
use Rattle.clause_form.specs.Journals.{Entry, literals}
use Rattle.learned_clause.specs.Trails.{entries}
use Rattle.learned_clause.specs.declared.trails.Assigned.{Assigned}
use Rattle.clause_search.specs.Answers.{IsAssignment, truth_in}
use Rattle.clause_search.specs.Tables.{Gives, Says, Shows, View, is_true_at}
use Rattle.clause_search.proofs.LiteralLaws.{atom_either, atom_front, has_atom, has_either, has_front, has_last, once_front, once_last, once_more, true_not_false}

abbrev unnamed : Option Bool
unnamed = None

none_at : (n atom : ℕ) → get_or (replicate n unnamed) atom unnamed ≡ unnamed
none_at zero atom = refl
none_at (suc n) zero = refl
none_at (suc n) (suc atom) = none_at n atom

-- nothing is said of an atom
says_none : (lits : List Lit) (atom : ℕ) (said : Option Bool) → said ≡ None → (HasAtom atom lits → ⊥) → Says lits atom said
says_none lits atom None e off = off
says_none lits atom (Some b) e off = absurd (cc)

-- the empty trail
pub shows_none : (n : ℕ) (truths : List (Option Bool)) → truths ≡ replicate n None → Shows [] truths
shows_none n truths e = record {
  once = tt;
  truth = λ atom. says_none [] atom (get_or truths atom None) (ap (λ t. get_or t atom None) e ∙ none_at n atom) (λ h. h);
}

says_more : (lits : List Lit) (l : Lit) (atom : ℕ) (said : Option Bool) → (l.atom ≡ atom → ⊥) → Says lits atom said → Says (lits ++ l ∷ []) atom said
says_more lits l atom None ne off = λ h. elim (atom_either atom l lits h) [ inl k ↦ off k | inr e ↦ ne e ]
says_more lits l atom (Some b) ne has = has_front (record { atom = atom; positive = b }) lits (l ∷ []) has

says_less : (lits : List Lit) (l : Lit) (atom : ℕ) (said : Option Bool) → (l.atom ≡ atom → ⊥) → Says (lits ++ l ∷ []) atom said → Says lits atom said
says_less lits l atom None ne off = λ h. off (atom_front atom lits (l ∷ []) h)
says_less lits l atom (Some b) ne has =
    elim (has_either (record { atom = atom; positive = b }) l lits has) [ inl k ↦ k | inr e ↦ absurd (ne (sym (ap (λ (m : Lit). m.atom) e))) ]

says_at : (lits : List Lit) (l : Lit) (atom : ℕ) (said : Option Bool) → l.atom ≡ atom → said ≡ Some l.positive → Says (lits ++ l ∷ []) atom said
says_at lits l atom None e is = absurd (cc)
says_at lits l atom (Some b) e is =
    let same : b ≡ l.positive = cc in
    subst (λ (m : Lit). Has m (lits ++ l ∷ [])) (ap (λ (a : ℕ). lit a l.positive) e ∙ ap (lit atom) (sym same)) (has_last l lits)
  where
    lit : ℕ → Bool → Lit
    lit a sign = record { atom = a; positive = sign }

other_atom : (a b : ℕ) → nat_eq a b ≡ false → b ≢ a
other_atom a b e same = true_not_false (sym (eq-eqb a b (sym same)) ∙ e)

-- one literal more
pub shows_more : (lits : List Lit) (l : Lit) (truths : List (Option Bool)) → l.atom < length truths → (HasAtom l.atom lits → ⊥) → Shows lits truths
    → Shows (lits ++ l ∷ []) (set truths l.atom (Some l.positive))
shows_more lits l truths less off shows = record {
  once = subst (λ (n : ℕ). NamesOnce n (lits ++ l ∷ [])) (sym (length-set truths l.atom (Some l.positive))) (once_more (length truths) lits l shows.once less off);
  truth = λ atom. by atom (nat_eq l.atom atom) refl;
}
  where
    by : (atom : ℕ) (here : Bool) → nat_eq l.atom atom ≡ here → Says (lits ++ l ∷ []) atom (get_or (set truths l.atom (Some l.positive)) atom None)
    by atom true e =
        says_at lits l atom (get_or (set truths l.atom (Some l.positive)) atom None) (eqb-true l.atom atom e) (ap (λ a. get_or (set truths l.atom (Some l.positive)) a None) (sym (eqb-true l.atom atom e)) ∙ get_or-set_same truths l.atom (Some l.positive) None less)
    by atom false e =
        subst (λ (said : Option Bool). Says (lits ++ l ∷ []) atom said) (sym (get_or-set_other truths l.atom atom (Some l.positive) None (other_atom l.atom atom e))) (says_more lits l atom (get_or truths atom None) (λ same. other_atom l.atom atom e (sym same)) (shows.truth atom))

-- one literal less
pub shows_less : (lits : List Lit) (l : Lit) (truths : List (Option Bool)) → Shows (lits ++ l ∷ []) truths → l.atom < length truths
    → Shows lits (set truths l.atom None)
shows_less lits l truths shows less = record {
  once = subst (λ (n : ℕ). NamesOnce n lits) (sym (length-set truths l.atom None)) (once_front (length truths) lits (l ∷ []) shows.once);
  truth = λ atom. by atom (nat_eq l.atom atom) refl;
}
  where
    by : (atom : ℕ) (here : Bool) → nat_eq l.atom atom ≡ here → Says lits atom (get_or (set truths l.atom None) atom None)
    by atom true e =
        says_none lits atom (get_or (set truths l.atom None) atom None) (ap (λ a. get_or (set truths l.atom None) a None) (sym (eqb-true l.atom atom e)) ∙ get_or-set_same truths l.atom None None less) (λ h. once_last (length truths) lits l shows.once (subst (λ (a : ℕ). HasAtom a lits) (sym (eqb-true l.atom atom e)) h))
    by atom false e =
        subst (λ (said : Option Bool). Says lits atom said) (sym (get_or-set_other truths l.atom atom None None (other_atom l.atom atom e))) (says_less lits l atom (get_or truths atom None) (λ same. other_atom l.atom atom e (sym same)) (shows.truth atom))

-- ---- over what contracts see

pub lits_push : (items : List Assigned) (a : Assigned) → literals (entries (items ++ a ∷ [])) ≡ literals (entries items) ++ a.lit ∷ []
lits_push [] a = refl
lits_push (x ∷ xs) a = ap (λ (ls : List Lit). x.lit ∷ ls) (lits_push xs a)

pub entries_push : (items : List Assigned) (a : Assigned) → entries (items ++ a ∷ []) ≡ entries items ++ record { lit = a.lit; by = a.by } ∷ []
entries_push [] a = refl
entries_push (x ∷ xs) a = ap (λ (es : List Entry). record { lit = x.lit; by = x.by } ∷ es) (entries_push xs a)

pub seen_says : (items : List Assigned) (truths : List (Option Bool)) (view : View) (atom : ℕ) (said : Option Bool) → record { atoms = length truths; entries = entries items } ≡ view → Shows (literals (entries items)) truths → said ≡ get_or truths atom None → Says (literals view.entries) atom said
seen_says items truths view atom said e shows is =
    subst (λ (o : Option Bool). Says (literals view.entries) atom o) (sym is) (subst (λ (v : View). Says (literals v.entries) atom (get_or truths atom None)) e (shows.truth atom))

pub gives_by : (lits : List Lit) (l : Lit) (truth same : Bool) → Has (record { atom = l.atom; positive = truth }) lits → (same ≡ true → truth ≡ l.positive) → (same ≡ false → truth ≡ not l.positive) → Gives lits l (Some same)
gives_by lits l truth true has agrees differs = subst (λ (b : Bool). Has (record { atom = l.atom; positive = b }) lits) (agrees refl) has
gives_by lits l truth false has agrees differs = subst (λ (b : Bool). Has (record { atom = l.atom; positive = b }) lits) (differs refl) has

pub assume_law : (items more : List Assigned) (truths : List (Option Bool)) (value : View) (a : Assigned) → record { atoms = length truths; entries = entries items } ≡ value → Shows (literals (entries items)) truths → a.lit.atom < value.atoms → (HasAtom a.lit.atom (literals value.entries) → ⊥) → more ≡ items ++ a ∷ [] → Shows (literals (entries more)) (set truths a.lit.atom (Some a.lit.positive))
assume_law items more truths value a view shows less free e =
    subst (λ (p : List Lit). Shows p (set truths a.lit.atom (Some a.lit.positive))) (sym (ap (λ (is : List Assigned). literals (entries is)) e ∙ lits_push items a)) (shows_more (literals (entries items)) a.lit truths (subst (λ (n : ℕ). a.lit.atom < n) (sym (ap (λ (v : View). v.atoms) view)) less) (subst (λ (es : List Entry). HasAtom a.lit.atom (literals es) → ⊥) (sym (ap (λ (v : View). v.entries) view)) free) shows)

abbrev seen_as : ℕ → List Entry → View
seen_as atoms es = record { atoms = atoms; entries = es }

pub assume_view : (items more : List Assigned) (truths : List (Option Bool)) (value : View) (a : Assigned) → record { atoms = length truths; entries = entries items } ≡ value → more ≡ items ++ a ∷ [] → ◌≡◌ {A = View} (record { atoms = length (set truths a.lit.atom (Some a.lit.positive)); entries = entries more }) (record { atoms = value.atoms; entries = value.entries ++ record { lit = a.lit; by = a.by } ∷ [] })
assume_view items more truths value a view e =
    ap (λ (n : ℕ). seen_as n (entries more)) (length-set truths a.lit.atom (Some a.lit.positive) ∙ ap (λ (v : View). v.atoms) view) ∙ ap (seen_as value.atoms) (ap entries e ∙ entries_push items a ∙ ap (λ (v : View). v.entries ++ record { lit = a.lit; by = a.by } ∷ []) view)

pub retract_in_range : (items less : List Assigned) (truths : List (Option Bool)) (a : Assigned) → Shows (literals (entries items)) truths
    → items ≡ less ++ a ∷ [] → a.lit.atom < length truths
retract_in_range items less truths a shows e =
    last (length truths) (literals (entries less)) a.lit (subst (λ (ls : List Lit). NamesOnce (length truths) ls) (ap (λ (is : List Assigned). literals (entries is)) e ∙ lits_push less a) shows.once)
  where
    last : (n : ℕ) (xs : List Lit) (l : Lit) → NamesOnce n (xs ++ l ∷ []) → l.atom < n
    last n [] l once = once.0
    last n (x ∷ xs) l once = last n xs l once.2

pub retract_law : (items less : List Assigned) (truths : List (Option Bool)) (a : Assigned) → Shows (literals (entries items)) truths
    → items ≡ less ++ a ∷ [] → Shows (literals (entries less)) (set truths a.lit.atom None)
retract_law items less truths a shows e =
    shows_less (literals (entries less)) a.lit truths (subst (λ (ls : List Lit). Shows ls truths) (ap (λ (is : List Assigned). literals (entries is)) e ∙ lits_push less a) shows) (retract_in_range items less truths a shows e)

pub take_front : (es : List Entry) (e : Entry) → take (length (es ++ e ∷ []) - 1) (es ++ e ∷ []) ≡ es
take_front es e = ap (λ (n : ℕ). take n (es ++ e ∷ [])) size ∙ all es
  where
    size : length (es ++ e ∷ []) - 1 ≡ length es
    size = simp length-append (omega arith)

    all : (xs : List Entry) → take (length xs) (xs ++ e ∷ []) ≡ xs
    all [] = refl
    all (x ∷ xs) = ap (λ (ys : List Entry). x ∷ ys) (all xs)

pub retract_view : (items less : List Assigned) (truths : List (Option Bool)) (value : View) (a : Assigned) → record { atoms = length truths; entries = entries items } ≡ value → items ≡ less ++ a ∷ [] → ◌≡◌ {A = View} (record { atoms = length (set truths a.lit.atom None); entries = entries less }) (record { atoms = value.atoms; entries = take (length value.entries - 1) value.entries })
retract_view items less truths value a view e =
    ap (λ (n : ℕ). seen_as n (entries less)) (length-set truths a.lit.atom None ∙ ap (λ (v : View). v.atoms) view) ∙ ap (seen_as value.atoms) (sym (take_front (entries less) (record { lit = a.lit; by = a.by })) ∙ ap (λ (es : List Entry). take (length es - 1) es) (sym (entries_push less a) ∙ ap entries (sym e) ∙ ap (λ (v : View). v.entries) view))

-- ---- cuts

pub take_less : {T : Type 0} (es : List T) (keep n : ℕ) → keep ≤ n → take keep (take n es) ≡ take keep es
take_less [] zero zero h = refl
take_less [] zero (suc n) h = refl
take_less [] (suc keep) zero h = absurd (omega arith)
take_less [] (suc keep) (suc n) h = refl
take_less (e ∷ es) zero zero h = refl
take_less (e ∷ es) zero (suc n) h = refl
take_less (e ∷ es) (suc keep) zero h = absurd (omega arith)
take_less {T} (e ∷ es) (suc keep) (suc n) h = ap (λ (xs : List T). e ∷ xs) (take_less es keep n (omega arith))

-- ---- a truth of each atom

truth_at : (truths : List (Option Bool)) (atom : ℕ) → truth_in (map is_true_at truths) atom ≡ is_true_at (get_or truths atom None)
truth_at [] atom = refl
truth_at (t ∷ ts) zero = refl
truth_at (t ∷ ts) (suc atom) = truth_at ts atom

said : (lits : List Lit) (atom : ℕ) (said : Option Bool) → Says lits atom said → HasAtom atom lits → Has (record { atom = atom; positive = is_true_at said }) lits
said lits atom None off has = absurd (off has)
said lits atom (Some b) here has = here

pub assignment_law : (items : List Assigned) (truths : List (Option Bool)) (value : View) (out : List Bool) → record { atoms = length truths; entries = entries items } ≡ value → Shows (literals (entries items)) truths → ((atom : ℕ) → atom < value.atoms → HasAtom atom (literals value.entries)) → out ≡ map is_true_at truths → (length out ≡ value.atoms) × IsAssignment out (literals value.entries)
assignment_law items truths value out view shows whole e = (
  size,
  record {
    once = subst (λ (n : ℕ). NamesOnce n (literals value.entries)) (sym size) (subst (λ (v : View). NamesOnce v.atoms (literals v.entries)) view shows.once);
    each = λ atom less. subst (λ (b : Bool). Has (record { atom = atom; positive = b }) (literals value.entries)) (sym (ap (λ (o : List Bool). truth_in o atom) e ∙ truth_at truths atom)) (said (literals value.entries) atom (get_or truths atom None) (subst (λ (v : View). Says (literals v.entries) atom (get_or truths atom None)) view (shows.truth atom)) (whole atom (subst (λ (n : ℕ). atom < n) size less)));
  },
)
  where
    size : length out ≡ value.atoms
    size = ap length e ∙ length-map truths is_true_at ∙ ap (λ (v : View). v.atoms) view

beq_true : (a b : Bool) → beq a b ≡ true → a ≡ b
beq_true true true e = refl
beq_true true false e = absurd (cc)
beq_true false true e = absurd (cc)
beq_true false false e = refl

beq_false : (a b : Bool) → beq a b ≡ false → a ≡ not b
beq_false true true e = absurd (cc)
beq_false true false e = refl
beq_false false true e = refl
beq_false false false e = absurd (cc)

pub value_law : (lits : List Lit) (l : Lit) (truth : Bool) → Says lits l.atom (Some truth) → Gives lits l (Some (beq truth l.positive))
value_law lits l truth has = gives_by lits l truth (beq truth l.positive) has (beq_true truth l.positive) (beq_false truth l.positive)

-- the atoms below a number are named
pub named_more : (lits : List Lit) (atom : ℕ) (truth : Bool) → ((k : ℕ) → k < atom → HasAtom k lits) → Says lits atom (Some truth) → (k : ℕ)
    → k < atom + 1 → HasAtom k lits
named_more lits atom truth below has = below_more (λ k. HasAtom k lits) atom below (has_atom (record { atom = atom; positive = truth }) lits has)
