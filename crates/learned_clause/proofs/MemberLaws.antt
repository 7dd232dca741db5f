-- Literals that are in a list.
use Rattle.std.proofs.Common.{◌≡◌, ℕ, Bool, true, false, not, ◌⊎◌, List, [], ◌∷◌, ◌++◌, map, refl, sym, ◌∙◌, ap, subst, inl, inr, if◌then◌else◌}
use Rattle.std.proofs.lemmas.Bool.{true≢false}
use Rattle.farkas_cert.specs.Literals.{negation}
use Rattle.farkas_cert.specs.declared.literals.Lit.{Lit}
use Rattle.clause_form.specs.Derivations.{Has, HasAtom, IsFalseOn, NamesOnce}
use Rattle.clause_form.specs.Journals.{IsFree, OthersFalse}
use Rattle.learned_clause.specs.Resolvents.{held, is_on}

pub Has-front : (l : Lit) (xs ys : List Lit) → Has l xs → Has l (xs ++ ys)
Has-front l [] ys h = absurd h
Has-front l (x ∷ xs) ys h = elim h [ inl e ↦ inl e | inr t ↦ inr (Has-front l xs ys t) ]

pub Has-last : (l : Lit) (xs : List Lit) → Has l (xs ++ l ∷ [])
Has-last l [] = inl refl
Has-last l (x ∷ xs) = inr (Has-last l xs)

pub Has-push : (l x : Lit) (xs : List Lit) → Has l (xs ++ x ∷ []) → Has l xs ⊎ (l ≡ x)
Has-push l x [] h = elim h [ inl e ↦ inr e | inr t ↦ absurd t ]
Has-push l x (y ∷ ys) h = elim h [ inl e ↦ inl (inl e) | inr t ↦ elim (Has-push l x ys t) [ inl u ↦ inl (inr u) | inr e ↦ inr e ] ]

pub HasAtom-Has : (l : Lit) (xs : List Lit) → Has l xs → HasAtom l.atom xs
HasAtom-Has l [] h = absurd h
HasAtom-Has l (x ∷ xs) h = elim h [ inl e ↦ inl (ap (λ (m : Lit). m.atom) (sym e)) | inr t ↦ inr (HasAtom-Has l xs t) ]

pub Has-HasAtom : (a : ℕ) (xs : List Lit) → HasAtom a xs → (l : Lit) × Has l xs × (l.atom ≡ a)
Has-HasAtom a [] h = absurd h
Has-HasAtom a (x ∷ xs) h = elim h [ inl e ↦ (x, inl refl, e) | inr t ↦ let r = Has-HasAtom a xs t in (r.0, inr r.1, r.2) ]

pub HasAtom-front : (a : ℕ) (xs ys : List Lit) → HasAtom a xs → HasAtom a (xs ++ ys)
HasAtom-front a [] ys h = absurd h
HasAtom-front a (x ∷ xs) ys h = elim h [ inl e ↦ inl e | inr t ↦ inr (HasAtom-front a xs ys t) ]

pub HasAtom-last : (a : ℕ) (l : Lit) (xs : List Lit) → l.atom ≡ a → HasAtom a (xs ++ l ∷ [])
HasAtom-last a l [] e = inl e
HasAtom-last a l (x ∷ xs) e = inr (HasAtom-last a l xs e)

pub HasAtom-push : (a : ℕ) (x : Lit) (xs : List Lit) → HasAtom a (xs ++ x ∷ []) → HasAtom a xs ⊎ (x.atom ≡ a)
HasAtom-push a x [] h = elim h [ inl e ↦ inr e | inr t ↦ absurd t ]
HasAtom-push a x (y ∷ ys) h = elim h [ inl e ↦ inl (inl e) | inr t ↦ elim (HasAtom-push a x ys t) [ inl u ↦ inl (inr u) | inr e ↦ inr e ] ]

-- ---- negations

not-not : (b : Bool) → not (not b) ≡ b
not-not true = refl
not-not false = refl

pub negation-negation : (l : Lit) → negation (negation l) ≡ l
negation-negation l = ap (λ (b : Bool). with_sign l.atom b) (not-not l.positive)
  where
    with_sign : ℕ → Bool → Lit
    with_sign a b = record { atom = a; positive = b }

pub map-negation-negation : (xs : List Lit) → map negation (map negation xs) ≡ xs
map-negation-negation [] = refl
map-negation-negation (x ∷ xs) =
    ap (λ (y : Lit). y ∷ map negation (map negation xs)) (negation-negation x) ∙ ap (λ (ys : List Lit). x ∷ ys) (map-negation-negation xs)

pub Has-negation : (l : Lit) (xs : List Lit) → Has l xs → Has (negation l) (map negation xs)
Has-negation l [] h = absurd h
Has-negation l (x ∷ xs) h = elim h [ inl e ↦ inl (ap negation e) | inr t ↦ inr (Has-negation l xs t) ]

-- what a list of negations has
pub negation-Has : (l : Lit) (xs : List Lit) → Has l (map negation xs) → (x : Lit) × Has x xs × (l ≡ negation x)
negation-Has l [] h = absurd h
negation-Has l (x ∷ xs) h = elim h [ inl e ↦ (x, inl refl, e) | inr t ↦ let r = negation-Has l xs t in (r.0, inr r.1, r.2) ]

pub HasAtom-negations : (a : ℕ) (xs : List Lit) → HasAtom a (map negation xs) → HasAtom a xs
HasAtom-negations a [] h = absurd h
HasAtom-negations a (x ∷ xs) h = elim h [ inl e ↦ inl e | inr t ↦ inr (HasAtom-negations a xs t) ]

-- ---- false literals

pub false-at : (path ls : List Lit) (l : Lit) → IsFalseOn path ls → Has l ls → Has (negation l) path
false-at path [] l all h = absurd h
false-at path (x ∷ xs) l all h = elim h [ inl e ↦ subst (λ (m : Lit). Has (negation m) path) (sym e) all.0 | inr t ↦ false-at path xs l all.1 t ]

pub others-at : (path : List Lit) (l : Lit) (ls : List Lit) (m : Lit) → OthersFalse path l ls → Has m ls → (m ≡ l) ⊎ Has (negation m) path
others-at path l [] m all h = absurd h
others-at path l (x ∷ xs) m all h =
    elim h [ inl e ↦ subst (λ (y : Lit). (y ≡ l) ⊎ Has (negation y) path) (sym e) all.0 | inr t ↦ others-at path l xs m all.1 t ]

pub false-negations : (path xs : List Lit) → ((l : Lit) → Has l xs → Has l path) → IsFalseOn path (map negation xs)
false-negations path [] inside = tt
false-negations path (x ∷ xs) inside =
    (subst (λ (m : Lit). Has m path) (sym (negation-negation x)) (inside x (inl refl)), false-negations path xs (λ m h. inside m (inr h)))

pub others-negations : (path : List Lit) (l : Lit) (xs : List Lit) → ((x : Lit) → Has x xs → (x ≡ l) ⊎ Has x path)
    → OthersFalse path (negation l) (map negation xs)
others-negations path l [] each = tt
others-negations path l (x ∷ xs) each = (
  elim (each x (inl refl)) [ inl e ↦ inl (ap negation e) | inr h ↦ inr (subst (λ (m : Lit). Has m path) (sym (negation-negation x)) h) ],
  others-negations path l xs (λ m h. each m (inr h)),
)

-- ---- names

pub once-push : (n : ℕ) (xs : List Lit) (l : Lit) → NamesOnce n xs → IsFree n xs l → NamesOnce n (xs ++ l ∷ [])
once-push n [] l once free = (free.0, (λ h. h), tt)
once-push n (x ∷ xs) l once free = (
  once.0,
  (λ h. elim (HasAtom-push x.atom l xs h) [ inl u ↦ once.1 u | inr e ↦ free.1 (inl (sym e)) ]),
  once-push n xs l once.2 (free.0, λ h. free.1 (inr h)),
)

pub once-negations : (n : ℕ) (xs : List Lit) → NamesOnce n xs → NamesOnce n (map negation xs)
once-negations n [] once = tt
once-negations n (x ∷ xs) once = (once.0, (λ h. once.1 (HasAtom-negations x.atom xs h)), once-negations n xs once.2)

-- ---- the literals whose atoms are on

abbrev pub if_on : Bool → Lit → List Lit → List Lit
if_on b l ls = if b then l ∷ ls else ls

pub Has-held : (on : List Bool) (l : Lit) (xs : List Lit) → Has l xs → is_on on l.atom ≡ true → Has l (held on xs)
Has-held on l [] h is = absurd h
Has-held on l (x ∷ xs) h is = by (λ t. Has-held on l xs t is) (is_on on x.atom) refl
  where
    by : (Has l xs → Has l (held on xs)) → (b : Bool) → is_on on x.atom ≡ b → Has l (if_on b x (held on xs))
    by later true e = elim h [ inl s ↦ inl s | inr t ↦ inr (later t) ]
    by later false e = elim h [ inl s ↦ absurd (true≢false (sym is ∙ ap (λ (m : Lit). is_on on m.atom) s ∙ e)) | inr t ↦ later t ]

pub held-Has : (on : List Bool) (l : Lit) (xs : List Lit) → Has l (held on xs) → Has l xs × (is_on on l.atom ≡ true)
held-Has on l [] h = absurd h
held-Has on l (x ∷ xs) h = by (λ t. let r = held-Has on l xs t in (inr r.0, r.1)) (is_on on x.atom) refl h
  where
    by : (Has l (held on xs) → Has l (x ∷ xs) × (is_on on l.atom ≡ true)) → (b : Bool) → is_on on x.atom ≡ b → Has l (if_on b x (held on xs))
        → Has l (x ∷ xs) × (is_on on l.atom ≡ true)
    by later true e g = elim g [ inl s ↦ (inl s, ap (λ (m : Lit). is_on on m.atom) s ∙ e) | inr t ↦ later t ]
    by later false e g = later g

HasAtom-held : (on : List Bool) (a : ℕ) (xs : List Lit) → HasAtom a (held on xs) → HasAtom a xs
HasAtom-held on a xs h =
    let r = Has-HasAtom a (held on xs) h in
    subst (λ (n : ℕ). HasAtom n xs) r.2 (HasAtom-Has r.0 xs (held-Has on r.0 xs r.1).0)

pub once-held : (n : ℕ) (on : List Bool) (xs : List Lit) → NamesOnce n xs → NamesOnce n (held on xs)
once-held n on [] once = tt
once-held n on (x ∷ xs) once = by (once-held n on xs once.2) (is_on on x.atom)
  where
    by : NamesOnce n (held on xs) → (b : Bool) → NamesOnce n (if_on b x (held on xs))
    by later true = (once.0, (λ h. once.1 (HasAtom-held on x.atom xs h)), later)
    by later false = later

-- one literal more
pub held-push : (on : List Bool) (xs : List Lit) (l : Lit) (b : Bool) → is_on on l.atom ≡ b → held on (xs ++ l ∷ []) ≡ held on xs ++ if_on b l []
held-push on [] l b e = ap (λ (v : Bool). if_on v l []) e
held-push on (x ∷ xs) l b e = by (held-push on xs l b e) (is_on on x.atom)
  where
    by : held on (xs ++ l ∷ []) ≡ held on xs ++ if_on b l [] → (v : Bool) → if_on v x (held on (xs ++ l ∷ [])) ≡ if_on v x (held on xs) ++ if_on b l []
    by later true = ap (λ (ys : List Lit). x ∷ ys) later
    by later false = later
