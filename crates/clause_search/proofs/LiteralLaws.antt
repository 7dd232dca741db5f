-- Literals in lists: which are there, and what is false.
use Rattle.std.proofs.Common.{◌≡◌, ℕ, zero, suc, ◌<◌, ◌≤◌, nat_eq, Bool, true, false, cond, not, ◌⊎◌, inl, inr, List, [], ◌∷◌, ◌++◌, take, length, slice_get, Some, refl, sym, ◌∙◌, ap, subst, arith}
use Rattle.std.proofs.lemmas.Bool.{eqb-true, eq-eqb}
use Rattle.farkas_cert.specs.Literals.{negation}
use Rattle.farkas_cert.specs.declared.literals.Lit.{Lit}
use Rattle.clause_form.specs.Derivations.{Has, HasAtom, IsFalseOn, NamesOnce}
use Rattle.clause_form.specs.Journals.{IsOpenClause, IsSettled, OthersFalse}
use Rattle.clause_form.specs.WellFormed.{Below}

abbrev lit : ℕ → Bool → Lit
lit a sign = record { atom = a; positive = sign }

abbrev lit_of : Bool → ℕ → Lit
lit_of sign a = lit a sign

pub same_lit : (l m : Lit) → l.atom ≡ m.atom → l.positive ≡ m.positive → l ≡ m
same_lit l m p q = ap (lit_of l.positive) p ∙ ap (lit m.atom) q

-- ---- what a list has

pub has_front : (l : Lit) (xs ys : List Lit) → Has l xs → Has l (xs ++ ys)
has_front l [] ys h = absurd h
has_front l (x ∷ xs) ys (inl e) = inl e
has_front l (x ∷ xs) ys (inr h) = inr (has_front l xs ys h)

pub has_last : (l : Lit) (xs : List Lit) → Has l (xs ++ l ∷ [])
has_last l [] = inl refl
has_last l (x ∷ xs) = inr (has_last l xs)

pub has_either : (l m : Lit) (xs : List Lit) → Has l (xs ++ m ∷ []) → Has l xs ⊎ (l ≡ m)
has_either l m [] (inl e) = inr e
has_either l m [] (inr h) = absurd h
has_either l m (x ∷ xs) (inl e) = inl (inl e)
has_either l m (x ∷ xs) (inr h) = elim (has_either l m xs h) [ inl k ↦ inl (inr k) | inr e ↦ inr e ]

pub atom_front : (a : ℕ) (xs ys : List Lit) → HasAtom a xs → HasAtom a (xs ++ ys)
atom_front a [] ys h = absurd h
atom_front a (x ∷ xs) ys (inl e) = inl e
atom_front a (x ∷ xs) ys (inr h) = inr (atom_front a xs ys h)

pub atom_last : (a : ℕ) (l : Lit) (xs : List Lit) → l.atom ≡ a → HasAtom a (xs ++ l ∷ [])
atom_last a l [] e = inl e
atom_last a l (x ∷ xs) e = inr (atom_last a l xs e)

pub atom_either : (a : ℕ) (m : Lit) (xs : List Lit) → HasAtom a (xs ++ m ∷ []) → HasAtom a xs ⊎ (m.atom ≡ a)
atom_either a m [] (inl e) = inr e
atom_either a m [] (inr h) = absurd h
atom_either a m (x ∷ xs) (inl e) = inl (inl e)
atom_either a m (x ∷ xs) (inr h) = elim (atom_either a m xs h) [ inl k ↦ inl (inr k) | inr e ↦ inr e ]

pub has_atom : (l : Lit) (xs : List Lit) → Has l xs → HasAtom l.atom xs
has_atom l [] h = absurd h
has_atom l (x ∷ xs) (inl e) = inl (sym (ap (λ (m : Lit). m.atom) e))
has_atom l (x ∷ xs) (inr h) = inr (has_atom l xs h)

pub below_has : (n : ℕ) (l : Lit) (xs : List Lit) → Below n xs → Has l xs → l.atom < n
below_has n l [] b h = absurd h
below_has n l (x ∷ xs) b (inl e) = subst (λ (a : ℕ). a < n) (sym (ap (λ (m : Lit). m.atom) e)) b.0
below_has n l (x ∷ xs) b (inr h) = below_has n l xs b.1 h

-- ---- lists that name each atom once

pub once_below : (n : ℕ) (xs : List Lit) → NamesOnce n xs → Below n xs
once_below n [] once = tt
once_below n (x ∷ xs) once = (once.0, once_below n xs once.2)

pub once_more : (n : ℕ) (xs : List Lit) (l : Lit) → NamesOnce n xs → l.atom < n → (HasAtom l.atom xs → ⊥) → NamesOnce n (xs ++ l ∷ [])
once_more n [] l once less off = (less, λ h. h, tt)
once_more n (x ∷ xs) l once less off = (
  once.0,
  λ h. elim (atom_either x.atom l xs h) [ inl k ↦ once.1 k | inr e ↦ off (inl (sym e)) ],
  once_more n xs l once.2 less (λ h. off (inr h)),
)

pub once_last : (n : ℕ) (xs : List Lit) (l : Lit) → NamesOnce n (xs ++ l ∷ []) → HasAtom l.atom xs → ⊥
once_last n [] l once h = h
once_last n (x ∷ xs) l once (inl e) = once.1 (atom_last x.atom l xs (sym e))
once_last n (x ∷ xs) l once (inr h) = once_last n xs l once.2 h

pub once_front : (n : ℕ) (xs ys : List Lit) → NamesOnce n (xs ++ ys) → NamesOnce n xs
once_front n [] ys once = tt
once_front n (x ∷ xs) ys once = (once.0, λ h. once.1 (atom_front x.atom xs ys h), once_front n xs ys once.2)

atom_take : (a k : ℕ) (xs : List Lit) → HasAtom a (take k xs) → HasAtom a xs
atom_take a zero [] h = absurd h
atom_take a zero (x ∷ xs) h = absurd h
atom_take a (suc k) [] h = absurd h
atom_take a (suc k) (x ∷ xs) (inl e) = inl e
atom_take a (suc k) (x ∷ xs) (inr h) = inr (atom_take a k xs h)

pub once_take : (n k : ℕ) (xs : List Lit) → NamesOnce n xs → NamesOnce n (take k xs)
once_take n zero [] once = tt
once_take n zero (x ∷ xs) once = tt
once_take n (suc k) [] once = tt
once_take n (suc k) (x ∷ xs) once = (once.0, λ h. once.1 (atom_take x.atom k xs h), once_take n k xs once.2)

pub true_not_false : true ≡ false → ⊥
true_not_false e = cc

not_its_own : (b : Bool) → b ≡ not b → ⊥
not_its_own true e = cc
not_its_own false e = cc

-- a literal and its negation aren't both there
pub opposite : (n : ℕ) (xs : List Lit) (l : Lit) → NamesOnce n xs → Has l xs → Has (negation l) xs → ⊥
opposite n [] l once h k = h
opposite n (x ∷ xs) l once (inl e) (inl f) = not_its_own l.positive (ap (λ (m : Lit). m.positive) (e ∙ sym f))
opposite n (x ∷ xs) l once (inl e) (inr k) = once.1 (subst (λ (a : ℕ). HasAtom a xs) (ap (λ (m : Lit). m.atom) e) (has_atom (negation l) xs k))
opposite n (x ∷ xs) l once (inr h) (inl f) = once.1 (subst (λ (a : ℕ). HasAtom a xs) (ap (λ (m : Lit). m.atom) f) (has_atom l xs h))
opposite n (x ∷ xs) l once (inr h) (inr k) = opposite n xs l once.2 h k

-- ---- false literals

pub false_more : (p xs : List Lit) (l : Lit) → IsFalseOn p xs → Has (negation l) p → IsFalseOn p (xs ++ l ∷ [])
false_more p [] l f h = (h, tt)
false_more p (x ∷ xs) l f h = (f.0, false_more p xs l f.1 h)

pub false_has : (p xs : List Lit) (l : Lit) → IsFalseOn p xs → Has l xs → Has (negation l) p
false_has p [] l f h = absurd h
false_has p (x ∷ xs) l f (inl e) = subst (λ (m : Lit). Has (negation m) p) (sym e) f.0
false_has p (x ∷ xs) l f (inr h) = false_has p xs l f.1 h

pub others_of_false : (p xs : List Lit) (l : Lit) → IsFalseOn p xs → OthersFalse p l xs
others_of_false p [] l f = tt
others_of_false p (x ∷ xs) l f = (inr f.0, others_of_false p xs l f.1)

pub others_more : (p xs : List Lit) (l m : Lit) → OthersFalse p l xs → (m ≡ l) ⊎ Has (negation m) p → OthersFalse p l (xs ++ m ∷ [])
others_more p [] l m o h = (h, tt)
others_more p (x ∷ xs) l m o h = (o.0, others_more p xs l m o.1 h)

pub others_has : (p xs : List Lit) (l m : Lit) → OthersFalse p l xs → Has m xs → (m ≡ l) ⊎ Has (negation m) p
others_has p [] l m o h = absurd h
others_has p (x ∷ xs) l m o (inl e) = subst (λ (k : Lit). (k ≡ l) ⊎ Has (negation k) p) (sym e) o.0
others_has p (x ∷ xs) l m o (inr h) = others_has p xs l m o.1 h

-- the same of each literal
pub others_each : (p xs : List Lit) (l : Lit) → ((m : Lit) → Has m xs → (m ≡ l) ⊎ Has (negation m) p) → OthersFalse p l xs
others_each p [] l each = tt
others_each p (x ∷ xs) l each = (each x (inl refl), others_each p xs l (λ m h. each m (inr h)))

-- ---- clauses that are neither false nor unit

pub settled_at : (known : List (List Lit)) (lits : List Lit) (k : ℕ) (clause : List Lit) → IsSettled known lits → slice_get known k ≡ Some clause
    → IsOpenClause lits clause
settled_at [] lits k clause all e = absurd (cc)
settled_at (x ∷ xs) lits zero clause all e = let same : x ≡ clause = cc in subst (λ (y : List Lit). IsOpenClause lits y) same all.0
settled_at (x ∷ xs) lits (suc k) clause all e = settled_at xs lits k clause all.1 e

pub settled_each : (known : List (List Lit)) (lits : List Lit)
    → ((k : ℕ) (clause : List Lit) → slice_get known k ≡ Some clause → IsOpenClause lits clause) → IsSettled known lits
settled_each [] lits each = tt
settled_each (x ∷ xs) lits each = (each 0 x refl, settled_each xs lits (λ k clause e. each (suc k) clause e))

pub settled_more : (known : List (List Lit)) (lits clause : List Lit) → IsSettled known lits → IsOpenClause lits clause → IsSettled (known ++ clause ∷ []) lits
settled_more [] lits clause all opens = (opens, tt)
settled_more (x ∷ xs) lits clause all opens = (all.0, settled_more xs lits clause all.1 opens)

pub settled_back : (xs ys : List (List Lit)) (lits : List Lit) → IsSettled (xs ++ ys) lits → IsSettled ys lits
settled_back [] ys lits all = all
settled_back (x ∷ xs) ys lits all = settled_back xs ys lits all.1

pub settled_front : (xs ys : List (List Lit)) (lits : List Lit) → IsSettled (xs ++ ys) lits → IsSettled xs lits
settled_front [] ys lits all = tt
settled_front (x ∷ xs) ys lits all = (all.0, settled_front xs ys lits all.1)

-- ---- a list that names each atom once is no longer than there are atoms

without : ℕ → List Lit → List Lit
without a [] = []
without a (x ∷ xs) = cond (nat_eq x.atom a) (without a xs) (x ∷ without a xs)

atom_without : (a n : ℕ) (xs : List Lit) → HasAtom a (without n xs) → HasAtom a xs
unfolding without
atom_without a n [] h = h
atom_without a n (x ∷ xs) h = by (nat_eq x.atom n) (atom_without a n xs) h
  where
    by : (b : Bool) → (HasAtom a (without n xs) → HasAtom a xs) → HasAtom a (cond b (without n xs) (x ∷ without n xs)) → HasAtom a (x ∷ xs)
    by true rest k = inr (rest k)
    by false rest (inl e) = inl e
    by false rest (inr k) = inr (rest k)

none_gone : (n : ℕ) (xs : List Lit) → (HasAtom n xs → ⊥) → length (without n xs) ≡ length xs
unfolding without
none_gone n [] off = refl
none_gone n (x ∷ xs) off = by (nat_eq x.atom n) refl (none_gone n xs (λ h. off (inr h)))
  where
    by : (b : Bool) → nat_eq x.atom n ≡ b → length (without n xs) ≡ length xs → length (cond b (without n xs) (x ∷ without n xs)) ≡ suc (length xs)
    by true e rest = absurd (off (inl (eqb-true x.atom n e)))
    by false e rest = ap suc rest

one_gone : (n : ℕ) (xs : List Lit) → NamesOnce (suc n) xs → length xs ≤ suc (length (without n xs))
unfolding without
one_gone n [] once = omega arith
one_gone n (x ∷ xs) once = by (nat_eq x.atom n) refl (one_gone n xs once.2)
  where
    by : (b : Bool) → nat_eq x.atom n ≡ b → length xs ≤ suc (length (without n xs)) → suc (length xs) ≤ suc (length (cond b (without n xs) (x ∷ without n xs)))
    by true e rest = let same : length (without n xs) ≡ length xs = none_gone n xs (λ h. once.1 (subst (λ (a : ℕ). HasAtom a xs) (sym (eqb-true x.atom n e)) h)) in omega arith
    by false e rest = omega arith

once_without : (n : ℕ) (xs : List Lit) → NamesOnce (suc n) xs → NamesOnce n (without n xs)
unfolding without
once_without n [] once = tt
once_without n (x ∷ xs) once = by (nat_eq x.atom n) refl (once_without n xs once.2)
  where
    below : x.atom < suc n → (x.atom ≡ n → ⊥) → x.atom < n
    below less ne = omega arith

    by : (b : Bool) → nat_eq x.atom n ≡ b → NamesOnce n (without n xs) → NamesOnce n (cond b (without n xs) (x ∷ without n xs))
    by true e rest = rest
    by false e rest = (below once.0 (λ same. true_not_false (sym (eq-eqb x.atom n same) ∙ e)), λ h. once.1 (atom_without x.atom n xs h), rest)

pub once_length : (n : ℕ) (xs : List Lit) → NamesOnce n xs → length xs ≤ n
once_length zero [] once = omega arith
once_length zero (x ∷ xs) once = absurd (let less : x.atom < 0 = once.0 in omega arith)
once_length (suc n) xs once =
    let one : length xs ≤ suc (length (without n xs)) = one_gone n xs once in
    let rest : length (without n xs) ≤ n = once_length n (without n xs) (once_without n xs once) in
    omega arith
