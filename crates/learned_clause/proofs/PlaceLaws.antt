-- Literals by their places on a trail.
use Rattle.std.proofs.Common.{◌≡◌, ℕ, zero, suc, ◌+◌, ◌<◌, ◌≤◌, ◌⊎◌, List, [], ◌∷◌, ◌++◌, length, take, Some, slice_get, refl, sym, ◌∙◌, ap, subst, inl, inr, arith, add-one}
use Rattle.std.proofs.lemmas.Bool.{cases_order}
use Rattle.std.proofs.lemmas.Option.{same_Some, none-some, slice_get_within}
use Rattle.farkas_cert.specs.declared.literals.Lit.{Lit}
use Rattle.clause_form.specs.Derivations.{Has, HasAtom, NamesOnce}
use Rattle.clause_form.specs.Journals.{Entry, literals}
use Rattle.learned_clause.specs.Trails.{IsTrail}
use Rattle.learned_clause.specs.Resolvents.{AreApart}
use Rattle.learned_clause.proofs.MemberLaws.{Has-HasAtom, HasAtom-Has, once-push}

pub place_within : (T : List Entry) (k : ℕ) (e : Entry) → slice_get T k ≡ Some e → k < length T
place_within T k e g = slice_get_within T k e g

pub place-Has : (l : Lit) (T : List Entry) → Has l (literals T) → (k : ℕ) × (e : Entry) × (slice_get T k ≡ Some e) × (e.lit ≡ l)
place-Has l [] h = absurd h
place-Has l (x ∷ xs) h = elim h [ inl s ↦ (zero, x, refl, sym s) | inr t ↦ let r = place-Has l xs t in (suc r.0, r.1, r.2, r.3) ]

pub front-Has : (l : Lit) (n : ℕ) (T : List Entry) → Has l (literals (take n T)) → (k : ℕ) × (e : Entry) × (k < n) × (slice_get T k ≡ Some e) × (e.lit ≡ l)
front-Has l zero T h = absurd h
front-Has l (suc n) [] h = absurd h
front-Has l (suc n) (x ∷ xs) h = elim h [ inl s ↦ (zero, x, omega arith, refl, sym s) | inr t ↦ later (front-Has l n xs t) ]
  where
    less : (k m : ℕ) → k < m → suc k < suc m
    less k m h = omega arith

    later : ((k : ℕ) × (e : Entry) × (k < n) × (slice_get xs k ≡ Some e) × (e.lit ≡ l))
        → (k : ℕ) × (e : Entry) × (k < suc n) × (slice_get (x ∷ xs) k ≡ Some e) × (e.lit ≡ l)
    later r = (suc r.0, r.1, less r.0 n r.2, r.3, r.4)

pub Has-place : (T : List Entry) (k : ℕ) (e : Entry) → slice_get T k ≡ Some e → Has e.lit (literals T)
Has-place [] k e g = absurd (none-some e g)
Has-place (x ∷ xs) zero e g = inl (ap (λ (d : Entry). d.lit) (sym (same_Some x e g)))
Has-place (x ∷ xs) (suc k) e g = inr (Has-place xs k e g)

pub Has-front_place : (T : List Entry) (n k : ℕ) (e : Entry) → slice_get T k ≡ Some e → k < n → Has e.lit (literals (take n T))
Has-front_place [] n k e g less = absurd (none-some e g)
Has-front_place (x ∷ xs) zero k e g less = absurd (omega arith)
Has-front_place (x ∷ xs) (suc n) zero e g less = inl (ap (λ (d : Entry). d.lit) (sym (same_Some x e g)))
Has-front_place (x ∷ xs) (suc n) (suc k) e g less = inr (Has-front_place xs n k e g (omega arith))

-- the front with one entry more
front_suc : (T : List Entry) (k : ℕ) (e : Entry) → slice_get T k ≡ Some e → literals (take (suc k) T) ≡ literals (take k T) ++ e.lit ∷ []
front_suc [] k e g = absurd (none-some e g)
front_suc (x ∷ xs) zero e g = ap (λ (d : Entry). d.lit ∷ []) (same_Some x e g)
front_suc (x ∷ xs) (suc k) e g = ap (λ (ls : List Lit). x.lit ∷ ls) (front_suc xs k e g)

pub front_more : (T : List Entry) (k : ℕ) (e : Entry) → slice_get T k ≡ Some e → literals (take (k + 1) T) ≡ literals (take k T) ++ e.lit ∷ []
front_more T k e g = ap (λ (n : ℕ). literals (take n T)) (add-one k) ∙ front_suc T k e g

pub place_exists : (T : List Entry) (k : ℕ) → k < length T → (e : Entry) × (slice_get T k ≡ Some e)
place_exists [] k less = absurd (omega arith)
place_exists (x ∷ xs) zero less = (x, refl)
place_exists (x ∷ xs) (suc k) less = place_exists xs k (omega arith)

-- ---- trails

pub front_free : (n : ℕ) (known : List (List Lit)) (T : List Entry) → IsTrail n known T → (k : ℕ) (e : Entry) → slice_get T k ≡ Some e
    → HasAtom e.lit.atom (literals (take k T)) → ⊥
front_free n known T trail k e g = (trail.stands k e g).free.1

pub trail_apart : (n : ℕ) (known : List (List Lit)) (T : List Entry) → IsTrail n known T → AreApart n T
trail_apart n known T trail = record {
  in_range = λ k e g. (trail.stands k e g).free.0;
  apart = λ i j d e gi gj s. by i j d e gi gj s (cases_order i j);
}
  where
    earlier : (i j : ℕ) (d e : Entry) → slice_get T i ≡ Some d → slice_get T j ≡ Some e → d.lit.atom ≡ e.lit.atom → i < j → ⊥
    earlier i j d e gi gj s less =
        front_free n known T trail j e gj (subst (λ (a : ℕ). HasAtom a (literals (take j T))) s (HasAtom-Has d.lit (literals (take j T)) (Has-front_place T j i d gi less)))

    by : (i j : ℕ) (d e : Entry) → slice_get T i ≡ Some d → slice_get T j ≡ Some e → d.lit.atom ≡ e.lit.atom → (i ≡ j) ⊎ ((i < j) ⊎ (j < i)) → i ≡ j
    by i j d e gi gj s cases = elim cases [
      | inl same ↦ same
      | inr h ↦ elim h [ inl less ↦ absurd (earlier i j d e gi gj s less) | inr more ↦ absurd (earlier j i e d gj gi (sym s) more) ]
    ]

pub front_once : (n : ℕ) (known : List (List Lit)) (T : List Entry) → IsTrail n known T → (k : ℕ) → k ≤ length T → NamesOnce n (literals (take k T))
front_once n known T trail zero within = tt
front_once n known T trail (suc k) within =
    let here = place_exists T k (omega arith) in
    subst (NamesOnce n) (sym (front_suc T k here.0 here.1)) (once-push n (literals (take k T)) here.0.lit (front_once n known T trail k (omega arith)) (trail.stands k here.0 here.1).free)

-- an atom of the front stands at a place of it
pub front-HasAtom : (a n : ℕ) (T : List Entry) → HasAtom a (literals (take n T)) → (k : ℕ) × (e : Entry) × (k < n) × (slice_get T k ≡ Some e) × (e.lit.atom ≡ a)
front-HasAtom a n T h =
    let l = Has-HasAtom a (literals (take n T)) h in
    let r = front-Has l.0 n T l.1 in
    (r.0, r.1, r.2, r.3, ap (λ (m : Lit). m.atom) r.4 ∙ l.2)

pub off_front : (n : ℕ) (T : List Entry) → AreApart n T → (k j : ℕ) (e : Entry) → slice_get T j ≡ Some e → k ≤ j → HasAtom e.lit.atom (literals (take k T)) → ⊥
off_front n T apart k j e g less h =
    let r = front-HasAtom e.lit.atom k T h in
    let same : r.0 ≡ j = apart.apart r.0 j r.1 e r.3 g r.4 in
    let below : r.0 < k = r.2 in
    absurd (omega arith)
