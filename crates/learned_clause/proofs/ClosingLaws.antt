-- How the tree closes more as the clause is resolved.
use Rattle.std.proofs.Common.{◌≡◌, ℕ, ◌<◌, Bool, true, false, List, [], ◌∷◌, ◌++◌, length, map, take, Some, slice_get, refl, sym, ◌∙◌, ap, subst, inl, inr}
use Rattle.std.proofs.lemmas.Bool.{cases_lt, true≢false}
use Rattle.farkas_cert.specs.Literals.{negation}
use Rattle.farkas_cert.specs.Trees.{Tree, farkas, clause}
use Rattle.farkas_cert.specs.declared.literals.Lit.{Lit}
use Rattle.farkas_cert.specs.declared.trees.Part.{Part}
use Rattle.clause_form.specs.Derivations.{ArePartsOf, Closes, Has, HasAtom, IsContradiction, IsFalseOn, Rows}
use Rattle.clause_form.specs.Journals.{Entry, IsFree, OthersFalse, literals}
use Rattle.learned_clause.specs.Resolvents.{ClosesAll, NoneOn, is_on, resolved}
use Rattle.learned_clause.proofs.MemberLaws.{Has-front, Has-last, Has-push, Has-HasAtom, HasAtom-Has}
use Rattle.learned_clause.proofs.PlaceLaws.{place-Has, front-Has, Has-place, Has-front_place, place_within}

-- ---- the start

-- the literals of a false clause, each of whose atoms is on
pub false_path : (front path : List Lit) (on : List Bool) (ls : List Lit) → ((l : Lit) → Has l front → is_on on l.atom ≡ true → Has l path)
    → ((l : Lit) → Has l ls → is_on on l.atom ≡ true) → IsFalseOn front ls → IsFalseOn path ls
false_path front path on [] has all false_here = tt
false_path front path on (x ∷ xs) has all false_here =
    (has (negation x) false_here.0 (all x (inl refl)), false_path front path on xs has (λ m h. all m (inr h)) false_here.1)

pub closes_clause : (c : Rows) (known : List (List Lit)) (n : ℕ) (on : List Bool) (front lits : List Lit) → slice_get known n ≡ Some lits
    → IsFalseOn front lits → ((l : Lit) → Has l lits → is_on on l.atom ≡ true) → ClosesAll c known (clause n) on front
closes_clause c known n on front lits g false_here all path has inside = (lits, g, false_path front path on lits has all false_here)

parts_path : (c : Rows) (front path : List Lit) (on : List Bool) (ps : List Part) → ((l : Lit) → Has l front → is_on on l.atom ≡ true → Has l path)
    → ((l : Lit) → Has l (map (λ p. p.lit) ps) → is_on on l.atom ≡ true) → ArePartsOf c front ps → ArePartsOf c path ps
parts_path c front path on [] has all parts = tt
parts_path c front path on (p ∷ ps) has all parts =
    (parts.0, has p.lit parts.1 (all p.lit (inl refl)), parts.2, parts_path c front path on ps has (λ m h. all m (inr h)) parts.3)

pub closes_sums : (c : Rows) (known : List (List Lit)) (on : List Bool) (front : List Lit) (parts : List Part) → IsContradiction c front parts
    → ((l : Lit) → Has l (map (λ p. p.lit) parts) → is_on on l.atom ≡ true) → ClosesAll c known (farkas parts) on front
closes_sums c known on front parts against all path has inside =
    record { rows = parts_path c front path on parts has all against.rows; columns = against.columns; bound = against.bound }

-- what is on in the whole trail is on in its front
pub closes_front : (c : Rows) (known : List (List Lit)) (tree : Tree) (on : List Bool) (T : List Entry) (many : ℕ) → NoneOn T on many (length T)
    → ClosesAll c known tree on (literals T) → ClosesAll c known tree on (literals (take many T))
closes_front c known tree on T many none closes path has inside = closes path (λ l h is. here l is (place-Has l T h)) (λ l h. there l (front-Has l many T (inside l h)))
  where
    here : (l : Lit) → is_on on l.atom ≡ true → ((k : ℕ) × (e : Entry) × (slice_get T k ≡ Some e) × (e.lit ≡ l)) → Has l path
    here l is r = elim (cases_lt r.0 many) [
      | inl less ↦ has l (subst (λ (m : Lit). Has m (literals (take many T))) r.3 (Has-front_place T many r.0 r.1 r.2 less)) is
      | inr more ↦ absurd (true≢false (sym is ∙ ap (λ (m : Lit). is_on on m.atom) (sym r.3) ∙ none r.0 r.1 more (place_within T r.0 r.1 r.2) r.2))
    ]

    there : (l : Lit) → ((k : ℕ) × (e : Entry) × (k < many) × (slice_get T k ≡ Some e) × (e.lit ≡ l)) → Has l (literals T)
    there l r = subst (λ (m : Lit). Has m (literals T)) r.4 (Has-place T r.0 r.1 r.3)

-- ---- a step

-- the last atom isn't on
pub closes_skip : (c : Rows) (known : List (List Lit)) (tree : Tree) (on : List Bool) (front : List Lit) (l : Lit) → is_on on l.atom ≡ false
    → ClosesAll c known tree on (front ++ l ∷ []) → ClosesAll c known tree on front
closes_skip c known tree on front l off closes path has inside =
    closes path (λ m h is. elim (Has-push m l front h) [ inl t ↦ has m t is | inr e ↦ absurd (true≢false (sym is ∙ ap (λ (y : Lit). is_on on y.atom) e ∙ off)) ]) (λ m h. Has-front m front (l ∷ []) (inside m h))

-- where the literal is false, so is its clause
reason_path : (front path : List Lit) (on : List Bool) (l : Lit) (ls : List Lit) → ((m : Lit) → Has m front → is_on on m.atom ≡ true → Has m path)
    → ((m : Lit) → Has m ls → is_on on m.atom ≡ true) → OthersFalse front l ls → IsFalseOn (negation l ∷ path) ls
reason_path front path on l [] has all others = tt
reason_path front path on l (x ∷ xs) has all others =
    (elim others.0 [ inl e ↦ inl (ap negation e) | inr h ↦ inr (has (negation x) h (all x (inl refl))) ], reason_path front path on l xs has (λ m h. all m (inr h)) others.1)

pub closes_back : (c : Rows) (known : List (List Lit)) (tree : Tree) (on new : List Bool) (front : List Lit) (l : Lit) (n : ℕ) (reason : List Lit)
    → IsFree (length c.atoms) front l → slice_get known n ≡ Some reason → OthersFalse front l reason
    → ((a : ℕ) → is_on on a ≡ true → is_on new a ≡ true) → ((m : Lit) → Has m reason → is_on new m.atom ≡ true)
    → ClosesAll c known tree on (front ++ l ∷ []) → ClosesAll c known (resolved l n tree) new front
closes_back c known tree on new front l n reason free g others keeps all closes path has inside = by l.positive refl
  where
    off : HasAtom l.atom path → ⊥
    off h = let r = Has-HasAtom l.atom path h in free.1 (subst (λ (a : ℕ). HasAtom a front) r.2 (HasAtom-Has r.0 front (inside r.0 r.1)))

    held : Closes c known tree (l ∷ path)
    held = closes (l ∷ path) (λ m h is. elim (Has-push m l front h) [ inl t ↦ inr (has m t (keeps m.atom is)) | inr e ↦ inl e ]) (λ m h. elim h [ inl e ↦ subst (λ (y : Lit). Has y (front ++ l ∷ [])) (sym e) (Has-last l front) | inr t ↦ Has-front m front (l ∷ []) (inside m t) ])

    failed : Closes c known (clause n) (negation l ∷ path)
    failed = (reason, g, reason_path front path new l reason has all others)

    as_lit : Bool → Lit
    as_lit b = record { atom = l.atom; positive = b }

    by : (b : Bool) → l.positive ≡ b → Closes c known (resolved (as_lit b) n tree) path
    by true e = (
      free.0,
      off,
      subst (λ (m : Lit). Closes c known tree (m ∷ path)) (ap as_lit e) held,
      subst (λ (m : Lit). Closes c known (clause n) (negation m ∷ path)) (ap as_lit e) failed,
    )
    by false e = (
      free.0,
      off,
      subst (λ (m : Lit). Closes c known (clause n) (negation m ∷ path)) (ap as_lit e) failed,
      subst (λ (m : Lit). Closes c known tree (m ∷ path)) (ap as_lit e) held,
    )
