-- The clauses for which a certificate proves have no model.
use Rattle.std.proofs.Common.{◌≡◌, ℕ, zero, suc, ◌≤◌, List, [], ◌∷◌, ◌++◌, map, ℤ, Bool, true, false, not, ◌⊎◌, inl, inr, Some, slice_get, refl, sym, ◌∙◌, ap, subst}
use Rattle.farkas_cert.specs.Literals.{negation}
use Rattle.farkas_cert.specs.Trees.{Tree, split, farkas, clause, Derived, lemmas_of}
use Rattle.farkas_cert.specs.declared.literals.Lit.{Lit}
use Rattle.clause_form.specs.Derivations.{Rows, rows_of, IsFalseOn, Closes, Follow, EndsEmpty}
use Rattle.clause_form.specs.Models.{HasTrue, Satisfies}
use Rattle.cert_check.specs.NoModel.{HasColumnsBelow, ProvedHaveNoModel}
use Rattle.cert_check.proofs.Columns.{all_cancel}
use Rattle.cert_check.proofs.WeighedRows.{AllTrue, Has-true, Agree, no_contradiction}

not_both : (a b : Bool) → a ≡ b → a ≡ not b → ⊥
not_both a true p q = absurd (cc)
not_both a false p q = absurd (cc)

none_true : (truth : ℕ → Bool) (path : List Lit) → AllTrue truth path → (lits : List Lit) → IsFalseOn path lits → HasTrue truth lits → ⊥
none_true truth path all [] false_ones has = has
none_true truth path all (l ∷ ls) false_ones (inl is) =
    not_both (truth l.atom) l.positive is (Has-true truth path all (negation l) false_ones.0)
none_true truth path all (l ∷ ls) false_ones (inr has) = none_true truth path all ls false_ones.1 has

satisfied_at : (truth : ℕ → Bool) (known : List (List Lit)) → Satisfies truth known → (number : ℕ) (lits : List Lit) → slice_get known number ≡ Some lits → HasTrue truth lits
satisfied_at truth [] all number lits e = absurd (cc)
satisfied_at truth (k ∷ ks) all zero lits e = let same : k ≡ lits = cc in subst (HasTrue truth) same all.0
satisfied_at truth (k ∷ ks) all (suc n) lits e = satisfied_at truth ks all.1 n lits e

-- a path whose literals are all true isn't closed
never_closed : (c : Rows) → HasColumnsBelow c.columns c.forms → (value : ℕ → ℤ) (over : ℕ) (truth : ℕ → Bool) → 1 ≤ over → Agree c value over truth → (known : List (List Lit)) → Satisfies truth known → (path : List Lit) → AllTrue truth path → (tree : Tree) → Closes c known tree path → ⊥
never_closed c less value over truth some agree known holds path all (split atom held failed) closes =
    by (truth atom) refl (λ is. never_closed c less value over truth some agree known holds (record { atom = atom; positive = true } ∷ path) (is, all) held closes.2) (λ is. never_closed c less value over truth some agree known holds (record { atom = atom; positive = false } ∷ path) (is, all) failed closes.3)
  where
    by : (sign : Bool) → truth atom ≡ sign → (truth atom ≡ true → ⊥) → (truth atom ≡ false → ⊥) → ⊥
    by true is if_true if_false = if_true is
    by false is if_true if_false = if_false is
never_closed c less value over truth some agree known holds path all (farkas parts) closes =
    no_contradiction c value over truth path some agree all parts (all_cancel c less path parts closes) closes
never_closed c less value over truth some agree known holds path all (clause number) closes =
    let lits : List Lit = closes.0 in
    none_true truth path all lits closes.2 (satisfied_at truth known holds number lits closes.1)

-- a clause has a true literal, or the negations of its literals are all true
true_or_not : (truth : ℕ → Bool) (lits : List Lit) → HasTrue truth lits ⊎ AllTrue truth (map negation lits)
true_or_not truth [] = inr tt
true_or_not truth (l ∷ ls) = by (truth l.atom) l.positive refl refl (true_or_not truth ls)
  where
    by : (is sign : Bool) → truth l.atom ≡ is → l.positive ≡ sign → HasTrue truth ls ⊎ AllTrue truth (map negation ls) → HasTrue truth (l ∷ ls) ⊎ AllTrue truth (map negation (l ∷ ls))
    by true true p q rest = inl (inl (p ∙ sym q))
    by false false p q rest = inl (inl (p ∙ sym q))
    by true false p q (inl has) = inl (inr has)
    by false true p q (inl has) = inl (inr has)
    by true false p q (inr all) = inr (p ∙ sym (ap not q), all)
    by false true p q (inr all) = inr (p ∙ sym (ap not q), all)

Satisfies-push : (truth : ℕ → Bool) (known : List (List Lit)) (lits : List Lit) → Satisfies truth known → HasTrue truth lits → Satisfies truth (known ++ lits ∷ [])
Satisfies-push truth [] lits all has = (has, tt)
Satisfies-push truth (k ∷ ks) lits all has = (all.0, Satisfies-push truth ks lits all.1 has)

-- each derived clause is true, and so none is empty
never_empty : (c : Rows) → HasColumnsBelow c.columns c.forms → (value : ℕ → ℤ) (over : ℕ) (truth : ℕ → Bool) → 1 ≤ over → Agree c value over truth → (known : List (List Lit)) → Satisfies truth known → (lemmas : List Derived) → Follow c known lemmas → EndsEmpty lemmas → ⊥
never_empty c less value over truth some agree known holds [] derived ends = ends
never_empty c less value over truth some agree known holds (d ∷ []) derived ends = by (true_or_not truth d.lits)
  where
    by : HasTrue truth d.lits ⊎ AllTrue truth (map negation d.lits) → ⊥
    by (inl has) = subst (HasTrue truth) ends has
    by (inr all) = never_closed c less value over truth some agree known holds (map negation d.lits) all d.tree derived.1
never_empty c less value over truth some agree known holds (d ∷ e ∷ es) derived ends =
    by (true_or_not truth d.lits) (λ has. never_empty c less value over truth some agree (known ++ d.lits ∷ []) (Satisfies-push truth known d.lits holds has) (e ∷ es) derived.2 ends)
  where
    by : HasTrue truth d.lits ⊎ AllTrue truth (map negation d.lits) → (HasTrue truth d.lits → ⊥) → ⊥
    by (inl has) next = next has
    by (inr all) next = never_closed c less value over truth some agree known holds (map negation d.lits) all d.tree derived.1

pub no_model : ProvedHaveNoModel
no_model c cert less proves value over truth some model =
    never_empty (rows_of c) less value over truth some model.rows c.clauses model.clauses (lemmas_of cert) proves.lemmas proves.ends
