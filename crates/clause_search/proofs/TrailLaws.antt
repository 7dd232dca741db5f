-- Trails with one entry more, and trails that are cut.
use Rattle.std.proofs.Common.{◌≡◌, ℕ, zero, suc, ◌+◌, ◌<◌, ◌≤◌, ◌^◌, ◌⊎◌, inl, inr, List, [], ◌∷◌, ◌++◌, map, length, take, Option, None, Some, slice_get, refl, sym, ◌∙◌, ap, subst, append_assoc, length-append, arith}
use Rattle.std.proofs.lemmas.List.{append-nil, take-append-le}
use Rattle.farkas_cert.specs.Literals.{negation}
use Rattle.farkas_cert.specs.Trees.{Derived, derived, tree_of}
use Rattle.farkas_cert.specs.declared.certificates.Lemma.{Lemma}
use Rattle.farkas_cert.specs.declared.literals.Lit.{Lit}
use Rattle.clause_form.specs.Derivations.{Closes, EndsEmpty, Follow, NamesOnce, Rows}
use Rattle.clause_form.specs.Journals.{Entry, IsOpenClause, IsSettled, literals}
use Rattle.clause_form.specs.Theories.{HasSolution}
use Rattle.clause_form.specs.WellFormed.{Below}
use Rattle.learned_clause.specs.Trails.{DecidedAt, IsFounded, IsTrail, Stands, known_with}
use Rattle.clause_search.specs.Courses.{AreOpenAtDecisions, AreSolvedAtDecisions, clauses_of}
use Rattle.clause_search.proofs.LiteralLaws.{once_below, settled_more}
use Rattle.clause_search.proofs.TableLaws.{take_less}

-- ---- lists

pub get_front : {T : Type 0} (xs ys : List T) (n : ℕ) (x : T) → slice_get xs n ≡ Some x → slice_get (xs ++ ys) n ≡ Some x
get_front [] ys n x e = absurd (cc)
get_front (y ∷ xs) ys zero x e = e
get_front (y ∷ xs) ys (suc n) x e = get_front xs ys n x e

pub get_within : {T : Type 0} (xs : List T) (n : ℕ) (x : T) → slice_get xs n ≡ Some x → n < length xs
get_within [] n x e = absurd (cc)
get_within (y ∷ xs) zero x e = omega arith
get_within (y ∷ xs) (suc n) x e = let rest : n < length xs = get_within xs n x e in omega arith

pub same_some : {T : Type 0} (x y : T) → ◌≡◌ {A = Option T} (Some x) (Some y) → x ≡ y
same_some x y e = cc

pub get_either : {T : Type 0} (xs : List T) (x : T) (n : ℕ) (y : T) → slice_get (xs ++ x ∷ []) n ≡ Some y
    → (slice_get xs n ≡ Some y) ⊎ ((n ≡ length xs) × (x ≡ y))
get_either [] x zero y e = inr (refl, same_some x y e)
get_either [] x (suc n) y e = absurd (cc)
get_either (z ∷ xs) x zero y e = inl e
get_either (z ∷ xs) x (suc n) y e = elim (get_either xs x n y e) [ inl before ↦ inl before | inr last ↦ inr (ap suc last.0, last.1) ]

pub get_take : {T : Type 0} (xs : List T) (n k : ℕ) (x : T) → slice_get (take n xs) k ≡ Some x → (k < n) × (slice_get xs k ≡ Some x)
get_take [] zero k x e = absurd (cc)
get_take [] (suc n) k x e = absurd (cc)
get_take (y ∷ xs) zero k x e = absurd (cc)
get_take (y ∷ xs) (suc n) zero x e = (omega arith, e)
get_take (y ∷ xs) (suc n) (suc k) x e = let rest = get_take xs n k x e in let less : k < n = rest.0 in (omega arith, rest.1)

pub length_take : {T : Type 0} (xs : List T) (n : ℕ) → n ≤ length xs → length (take n xs) ≡ n
length_take [] zero h = refl
length_take [] (suc n) h = absurd (omega arith)
length_take (x ∷ xs) zero h = refl
length_take (x ∷ xs) (suc n) h = ap suc (length_take xs n (omega arith))

pub take_all : {T : Type 0} (xs ys : List T) → take (length xs) (xs ++ ys) ≡ xs
take_all [] [] = refl
take_all [] (y ∷ ys) = refl
take_all {T} (x ∷ xs) ys = ap (λ (zs : List T). x ∷ zs) (take_all xs ys)

pub lits_more : (trail : List Entry) (e : Entry) → literals (trail ++ e ∷ []) ≡ literals trail ++ e.lit ∷ []
lits_more [] e = refl
lits_more (x ∷ xs) e = ap (λ (ls : List Lit). x.lit ∷ ls) (lits_more xs e)

pub lits_take : (trail : List Entry) (k : ℕ) → literals (take k trail) ≡ take k (literals trail)
lits_take [] zero = refl
lits_take [] (suc k) = refl
lits_take (x ∷ xs) zero = refl
lits_take (x ∷ xs) (suc k) = ap (λ (ls : List Lit). x.lit ∷ ls) (lits_take xs k)

-- ---- one entry more

pub trail_more : (atoms : ℕ) (known : List (List Lit)) (trail : List Entry) (e : Entry) → IsTrail atoms known trail
    → Stands atoms known (literals trail) e → length trail + 1 < 2 ^ 32 → IsTrail atoms known (trail ++ e ∷ [])
trail_more atoms known trail e is stands few = record {
  few = simp length-append few;
  stands = λ k f at. elim (get_either trail e k f at) [
    | inl before ↦ (let less : k < length trail = get_within trail k f before in
        subst (λ (front : List Entry). Stands atoms known (literals front) f) (sym (take-append-le k trail (e ∷ []) (omega arith))) (is.stands k f before))
    | inr last ↦
        subst (λ (front : List Entry). Stands atoms known (literals front) f) (sym (ap (λ (n : ℕ). take n (trail ++ e ∷ [])) last.0 ∙ take_all trail (e ∷ []))) (subst (λ (g : Entry). Stands atoms known (literals trail) g) last.1 stands)
  ];
}

pub decisions_more : (lemmas : List (List Lit)) (trail : List Entry) (e : Entry) → AreOpenAtDecisions lemmas trail
    → (e.by ≡ None → IsSettled lemmas (literals trail)) → AreOpenAtDecisions lemmas (trail ++ e ∷ [])
decisions_more lemmas trail e opens last k decided = elim (get_either trail e k (record { lit = decided.0; by = None }) decided.1) [
  | inl before ↦ (let less : k < length trail = get_within trail k (record { lit = decided.0; by = None }) before in
      subst (λ (front : List Entry). IsSettled lemmas (literals front)) (sym (take-append-le k trail (e ∷ []) (omega arith))) (opens k (decided.0, before)))
  | inr at ↦
      subst (λ (front : List Entry). IsSettled lemmas (literals front)) (sym (ap (λ (n : ℕ). take n (trail ++ e ∷ [])) at.0 ∙ take_all trail (e ∷ []))) (last (ap (λ (g : Entry). g.by) at.1))
]

pub solved_more : (rows : Rows) (trail : List Entry) (e : Entry) → AreSolvedAtDecisions rows trail → (e.by ≡ None → HasSolution rows (literals trail))
    → AreSolvedAtDecisions rows (trail ++ e ∷ [])
solved_more rows trail e solved last k decided = elim (get_either trail e k (record { lit = decided.0; by = None }) decided.1) [
  | inl before ↦ (let less : k < length trail = get_within trail k (record { lit = decided.0; by = None }) before in
      subst (λ (front : List Entry). HasSolution rows (literals front)) (sym (take-append-le k trail (e ∷ []) (omega arith))) (solved k (decided.0, before)))
  | inr at ↦
      subst (λ (front : List Entry). HasSolution rows (literals front)) (sym (ap (λ (n : ℕ). take n (trail ++ e ∷ [])) at.0 ∙ take_all trail (e ∷ []))) (last (ap (λ (g : Entry). g.by) at.1))
]

-- ---- a cut, with more clauses known

reason_more : (known more : List (List Lit)) (lits : List Lit) (l : Lit) (by : Option ℕ) → IsFounded known lits l by → IsFounded (known ++ more) lits l by
reason_more known more lits l None f = tt
reason_more known more lits l (Some n) f = (f.0, get_front known more n f.0 f.1, f.2, f.3)

pub trail_cut : (atoms : ℕ) (known more : List (List Lit)) (trail : List Entry) (keep : ℕ) → keep ≤ length trail → IsTrail atoms known trail
    → IsTrail atoms (known ++ more) (take keep trail)
trail_cut atoms known more trail keep short is = record {
  few = (let n : length (take keep trail) ≡ keep = length_take trail keep short in let few = is.few in omega arith);
  stands = λ k e at.
      let both = get_take trail keep k e at in
      let less : k < keep = both.0 in
      let old = is.stands k e both.1 in
      subst (λ (front : List Entry). Stands atoms (known ++ more) (literals front) e) (sym (take_less trail k keep (omega arith))) (record { free = old.free; founded = reason_more known more (literals (take k trail)) e.lit e.by old.founded });
}

pub decisions_cut : (lemmas : List (List Lit)) (clause : List Lit) (trail : List Entry) (keep : ℕ) → AreOpenAtDecisions lemmas trail
    → ((k : ℕ) → k < keep → DecidedAt trail k → IsOpenClause (literals (take k trail)) clause) → AreOpenAtDecisions (lemmas ++ clause ∷ []) (take keep trail)
decisions_cut lemmas clause trail keep opens before k decided =
    let both = get_take trail keep k (record { lit = decided.0; by = None }) decided.1 in
    let less : k < keep = both.0 in
    subst (λ (front : List Entry). IsSettled (lemmas ++ clause ∷ []) (literals front)) (sym (take_less trail k keep (omega arith))) (settled_more lemmas (literals (take k trail)) clause (opens k (decided.0, both.1)) (before k less (decided.0, both.1)))

pub solved_cut : (rows : Rows) (trail : List Entry) (keep : ℕ) → AreSolvedAtDecisions rows trail → AreSolvedAtDecisions rows (take keep trail)
solved_cut rows trail keep solved k decided =
    let both = get_take trail keep k (record { lit = decided.0; by = None }) decided.1 in
    let less : k < keep = both.0 in
    subst (λ (front : List Entry). HasSolution rows (literals front)) (sym (take_less trail k keep (omega arith))) (solved k (decided.0, both.1))

-- ---- lemmas

pub clauses_more : (lemmas : List Lemma) (lemma : Lemma) → clauses_of (lemmas ++ lemma ∷ []) ≡ clauses_of lemmas ++ lemma.clause ∷ []
clauses_more [] lemma = refl
clauses_more (x ∷ xs) lemma = ap (λ (ls : List (List Lit)). x.clause ∷ ls) (clauses_more xs lemma)

pub known_more : (clauses : List (List Lit)) (lemmas : List Lemma) (lemma : Lemma)
    → known_with clauses (lemmas ++ lemma ∷ []) ≡ known_with clauses lemmas ++ lemma.clause ∷ []
known_more clauses lemmas lemma = ap (λ (ls : List (List Lit)). clauses ++ ls) (clauses_more lemmas lemma) ∙ sym (append_assoc clauses (clauses_of lemmas) (lemma.clause ∷ []))

abbrev lits_of : Derived → List Lit
lits_of d = d.lits

derived_clauses : (lemmas : List Lemma) → map lits_of (map derived lemmas) ≡ clauses_of lemmas
derived_clauses [] = refl
derived_clauses (x ∷ xs) = ap (λ (ls : List (List Lit)). x.clause ∷ ls) (derived_clauses xs)

derived_more : (lemmas : List Lemma) (lemma : Lemma) → map derived (lemmas ++ lemma ∷ []) ≡ map derived lemmas ++ derived lemma ∷ []
derived_more [] lemma = refl
derived_more (x ∷ xs) lemma = ap (λ (ds : List Derived). derived x ∷ ds) (derived_more xs lemma)

follow_last : (c : Rows) (known : List (List Lit)) (ds : List Derived) (d : Derived) → Follow c known ds → NamesOnce (length c.atoms) d.lits
    → Closes c (known ++ map lits_of ds) d.tree (map negation d.lits) → Follow c known (ds ++ d ∷ [])
follow_last c known [] d f once closes = (once, subst (λ (ks : List (List Lit)). Closes c ks d.tree (map negation d.lits)) (append-nil known) closes, tt)
follow_last c known (e ∷ ds) d f once closes =
    (f.0, f.1, follow_last c (known ++ e.lits ∷ []) ds d f.2 once (subst (λ (ks : List (List Lit)). Closes c ks d.tree (map negation d.lits)) (sym (append_assoc known (e.lits ∷ []) (map lits_of ds))) closes))

pub follow_more : (c : Rows) (clauses : List (List Lit)) (lemmas : List Lemma) (lemma : Lemma) → Follow c clauses (map derived lemmas)
    → NamesOnce (length c.atoms) lemma.clause → Closes c (known_with clauses lemmas) (tree_of lemma.proof) (map negation lemma.clause)
    → Follow c clauses (map derived (lemmas ++ lemma ∷ []))
follow_more c clauses lemmas lemma f once closes =
    subst (λ (ds : List Derived). Follow c clauses ds) (sym (derived_more lemmas lemma)) (follow_last c clauses (map derived lemmas) (derived lemma) f once (subst (λ (ks : List (List Lit)). Closes c (clauses ++ ks) (tree_of lemma.proof) (map negation lemma.clause)) (sym (derived_clauses lemmas)) closes))

ends_last : (ds : List Derived) (d : Derived) → d.lits ≡ [] → EndsEmpty (ds ++ d ∷ [])
ends_last [] d e = e
ends_last (x ∷ []) d e = e
ends_last (x ∷ y ∷ ds) d e = ends_last (y ∷ ds) d e

pub ends_more : (lemmas : List Lemma) (lemma : Lemma) → lemma.clause ≡ [] → EndsEmpty (map derived (lemmas ++ lemma ∷ []))
ends_more lemmas lemma e = subst (λ (ds : List Derived). EndsEmpty ds) (sym (derived_more lemmas lemma)) (ends_last (map derived lemmas) (derived lemma) e)

-- ---- what is known is in range

pub lemmas_below : (c : Rows) (known : List (List Lit)) (lemmas : List Lemma) → Follow c known (map derived lemmas) → (k : ℕ) (clause : List Lit)
    → slice_get (clauses_of lemmas) k ≡ Some clause → Below (length c.atoms) clause
lemmas_below c known [] f k clause e = absurd (cc)
lemmas_below c known (x ∷ xs) f zero clause e = subst (λ (ls : List Lit). Below (length c.atoms) ls) (same_some x.clause clause e) (once_below (length c.atoms) x.clause f.0)
lemmas_below c known (x ∷ xs) f (suc k) clause e = lemmas_below c (known ++ x.clause ∷ []) xs f.2 k clause e

get_parts : {T : Type 0} (xs ys : List T) (k : ℕ) (x : T) → slice_get (xs ++ ys) k ≡ Some x → (slice_get xs k ≡ Some x) ⊎ ((j : ℕ) × (slice_get ys j ≡ Some x))
get_parts [] ys k x e = inr (k, e)
get_parts (y ∷ xs) ys zero x e = inl e
get_parts (y ∷ xs) ys (suc k) x e = elim (get_parts xs ys k x e) [ inl a ↦ inl a | inr b ↦ inr b ]

pub known_below : (c : Rows) (clauses : List (List Lit)) (lemmas : List Lemma)
    → ((k : ℕ) (clause : List Lit) → slice_get clauses k ≡ Some clause → Below (length c.atoms) clause) → Follow c clauses (map derived lemmas)
    → (k : ℕ) (clause : List Lit) → slice_get (known_with clauses lemmas) k ≡ Some clause → Below (length c.atoms) clause
known_below c clauses lemmas formed f k clause e = elim (get_parts clauses (clauses_of lemmas) k clause e) [
  | inl first ↦ formed k clause first
  | inr later ↦ lemmas_below c clauses lemmas f later.0 clause later.1
]
