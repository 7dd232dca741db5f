-- What the start has been resolved to, step by step.
use Rattle.std.proofs.Common.{◌≡◌, ◌↔◌, ℕ, ◌+◌, ◌-◌, ◌<◌, ◌≤◌, ◌⊎◌, Bool, true, false, List, [], ◌∷◌, ◌++◌, map, length, take, None, Some, slice_get, slice_index, refl, sym, ◌∙◌, ap, subst, inl, inr, arith}
use Rattle.std.proofs.lemmas.Bool.{cases_eq, cases_lt, true≢false}
use Rattle.std.proofs.lemmas.Option.{same_Some}
use Rattle.farkas_cert.specs.Literals.{negation}
use Rattle.farkas_cert.specs.Trees.{Tree}
use Rattle.farkas_cert.specs.declared.literals.Lit.{Lit}
use Rattle.farkas_cert.specs.declared.trees.Part.{Part}
use Rattle.clause_form.specs.Derivations.{ArePartsOf, Has, HasAtom, IsFalseOn, Rows}
use Rattle.clause_form.specs.Journals.{Entry, OthersFalse, literals}
use Rattle.learned_clause.specs.Learning.{IsFalseStart}
use Rattle.learned_clause.specs.Resolutions.{AreFalseAt, HasNoLevel, HaveSame, IsLevelOf, IsResolvent, LiteralAt, NoneFrom, Resolve, Resolves}
use Rattle.learned_clause.specs.Trails.{DecidedAt, IsTrail}
use Rattle.learned_clause.specs.Resolvents.{AreApart, AreFresh, AreMarked, AreOn, IsLastDecision, IsLastOn, IsResolved, IsWalk, OnAt, held, is_on, so_far}
use Rattle.learned_clause.specs.declared.learning.Start.{Start}
use Rattle.learned_clause.specs.declared.learning.Start.TheVariants.{Clause, Clash}
use Rattle.learned_clause.specs.declared.marks.Marks.{Marks}
use Rattle.learned_clause.proofs.MarkLaws.{part_lit}
use Rattle.learned_clause.proofs.MemberLaws.{Has-HasAtom, Has-held, Has-negation, HasAtom-Has, false-at, false-negations, held-Has, negation-Has, negation-negation, others-at}
use Rattle.learned_clause.proofs.PlaceLaws.{Has-front_place, Has-place, front-Has, place-Has, place_within, trail_apart}
use Rattle.learned_clause.proofs.StepLaws.{clause_without, reason_of}

-- ---- one resolution more

resolves_same : (known : List (List Lit)) (T : List Entry) (level : ℕ) (a b next : List Lit) → HaveSame a b → Resolves known T level b next
    → Resolves known T level a next
resolves_same known T level a b next same r = record {
  place = r.place;
  entry = r.entry;
  number = r.number;
  reason = r.reason;
  stands = r.stands;
  has = (same (negation r.entry.lit)).1 r.has;
  last = λ k from at. r.last k from (at.0, (same at.0).0 at.1, at.2);
  another = (r.another.0, r.another.1, r.another.2, (r.another.3.0, (same r.another.3.0).1 r.another.3.1, r.another.3.2));
  follows = r.follows;
  is = r.is;
  resolvent = λ m. (
    λ h. elim ((r.resolvent m).0 h) [ inl s ↦ inl ((same m).1 s.0, s.1) | inr s ↦ inr s ],
    λ h. (r.resolvent m).1 (elim h [ inl s ↦ inl ((same m).0 s.0, s.1) | inr s ↦ inr s ]),
  );
}

resolve_more : (known : List (List Lit)) (T : List Entry) (level : ℕ) (a : List Lit) (between : List (List Lit)) (b next : List Lit)
    → Resolve known T level a between b → Resolves known T level b next → Resolve known T level a (between ++ next ∷ []) next
resolve_more known T level a [] b next same r = (resolves_same known T level a b next same r, λ m. (λ h. h, λ h. h))
resolve_more known T level a (x ∷ xs) b next chain r = (chain.0, resolve_more known T level x xs b next chain.1 r)

-- ---- the start

pub on_marked : (n : ℕ) (T : List Entry) (old new : Marks) (lits : List Lit) → AreFresh n T old → AreMarked old lits new → IsFalseOn (literals T) lits
    → AreOn T lits new.on
on_marked n T old new lits fresh marked false_here = record {
  false_here = false_here;
  each = marked.each;
  only = λ a is. elim (marked.only a is) [ inl was ↦ absurd (true≢false (sym was ∙ fresh.off a)) | inr h ↦ h ];
}

atom_negated : (a : ℕ) (xs : List Lit) → HasAtom a xs → HasAtom a (map negation xs)
atom_negated a [] h = absurd h
atom_negated a (x ∷ xs) h = elim h [ inl e ↦ inl e | inr t ↦ inr (atom_negated a xs t) ]

parts_inside : (c : Rows) (path : List Lit) (ps : List Part) → ArePartsOf c path ps → (l : Lit) → Has l (map part_lit ps) → Has l path
parts_inside c path [] parts l h = absurd h
parts_inside c path (p ∷ ps) parts l h =
    elim h [ inl e ↦ subst (λ (m : Lit). Has m path) (sym e) parts.1 | inr t ↦ parts_inside c path ps parts.3 l t ]

pub on_parts : (n : ℕ) (c : Rows) (T : List Entry) (old new : Marks) (ps : List Part) → AreFresh n T old → AreMarked old (map part_lit ps) new
    → ArePartsOf c (literals T) ps → AreOn T (map negation (map part_lit ps)) new.on
on_parts n c T old new ps fresh marked parts = record {
  false_here = false-negations (literals T) (map part_lit ps) (parts_inside c (literals T) ps parts);
  each = λ l h. let r = negation-Has l (map part_lit ps) h in ap (λ (m : Lit). is_on new.on m.atom) r.2 ∙ marked.each r.0 r.1;
  only = λ a is. elim (marked.only a is) [ inl was ↦ absurd (true≢false (sym was ∙ fresh.off a)) | inr h ↦ atom_negated a (map part_lit ps) h ];
}

pub start_has : (c : Rows) (known : List (List Lit)) (path : List Lit) (start : Start) → IsFalseStart c known path start
    → (lits : List Lit) × AreFalseAt known start lits
start_has c known path (Clause number) start = (start.0, start.1)
start_has c known path (Clash parts) start = (map negation (map part_lit parts), refl)

-- ---- the level

module _ (n : ℕ) (known : List (List Lit)) (T : List Entry) (lits : List Lit) (old new : Marks) (last level : ℕ) (trail : IsTrail n known T) (are : AreOn T lits old.on) (top : IsLastOn T old.on (length T) last) (decision : IsLastDecision T last level) (on : new.on ≡ old.on) (is_level : new.level ≡ level) where
  on_literal : (k : ℕ) → OnAt T old.on k → LiteralAt T lits k
  on_literal k (e, g, is) = let r = Has-HasAtom e.lit.atom lits (are.only e.lit.atom is) in (r.0, r.1, (e, g, sym r.2))

  none_after : (k : ℕ) → last ≤ k → LiteralAt T lits k → ⊥
  none_after k past (l, h, (e, g, s)) =
      true≢false (sym (ap (is_on old.on) s ∙ are.each l h) ∙ top.none k e past (place_within T k e g) g)

  -- a later decision stands after all literals
  none_later : (later : ℕ) → level ≤ later → DecidedAt T later → NoneFrom T lits later
  none_later later from decided k past at = elim (cases_lt later last) [
    | inl less ↦ decision.none later (record { lit = decided.0; by = None }) from less decided.1 refl
    | inr more ↦ none_after k (omega arith) at
  ]

  inside : (m : Lit) → Has m lits → Has m (so_far T new last)
  inside m h = by (place-Has (negation m) T (false-at (literals T) lits m are.false_here h))
    where
      by : ((k : ℕ) × (e : Entry) × (slice_get T k ≡ Some e) × (e.lit ≡ negation m)) → Has m (so_far T new last)
      by (k, e, g, s) = elim (cases_lt k last) [
        | inl less ↦
            let is : is_on new.on e.lit.atom ≡ true = ap (λ (o : List Bool). is_on o e.lit.atom) on ∙ ap (λ (l : Lit). is_on old.on l.atom) s ∙ are.each m h in
            subst (λ (l : Lit). Has l (so_far T new last)) (ap negation s ∙ negation-negation m) (Has-negation e.lit (held new.on (literals (take last T))) (Has-held new.on e.lit (literals (take last T)) (Has-front_place T last k e g less) is))
        | inr more ↦ absurd (none_after k more (m, h, (e, g, ap (λ (l : Lit). l.atom) s)))
      ]

  outside : (m : Lit) → Has m (so_far T new last) → Has m lits
  outside m h = by (negation-Has m (held new.on (literals (take last T))) h)
    where
      same : (x l : Lit) → Has x (literals T) → Has l lits → l.atom ≡ x.atom → x ≡ negation l
      same x l hx hl s =
          let p = place-Has x T hx in
          let q = place-Has (negation l) T (false-at (literals T) lits l are.false_here hl) in
          let one : p.0 ≡ q.0 = (trail_apart n known T trail).apart p.0 q.0 p.1 q.1 p.2 q.2 (ap (λ (y : Lit). y.atom) p.3 ∙ sym s ∙ ap (λ (y : Lit). y.atom) (sym q.3)) in
          let there : slice_get T q.0 ≡ Some p.1 = subst (λ (i : ℕ). slice_get T i ≡ Some p.1) one p.2 in
          sym p.3 ∙ ap (λ (e : Entry). e.lit) (same_Some p.1 q.1 (sym there ∙ q.2)) ∙ q.3

      by : ((x : Lit) × Has x (held new.on (literals (take last T))) × (m ≡ negation x)) → Has m lits
      by (x, hx, s) =
          let r = held-Has new.on x (literals (take last T)) hx in
          let p = front-Has x last T r.0 in
          let here : Has x (literals T) = subst (λ (l : Lit). Has l (literals T)) p.4 (Has-place T p.0 p.1 p.3) in
          let w = Has-HasAtom x.atom lits (are.only x.atom (ap (λ (o : List Bool). is_on o x.atom) (sym on) ∙ r.1)) in
          subst (λ (l : Lit). Has l lits) (sym (s ∙ ap negation (same x w.0 here w.1 w.2) ∙ negation-negation w.0)) w.1

  pub level_resolved : IsResolved known T lits new last
  level_resolved = elim decision.at [
    | inl none ↦ inl (is_level ∙ none, λ later decided. none_later later (omega (arith, none)) decided)
    | inr r ↦ inr (
      r.0,
      record {
        is = is_level ∙ r.1;
        reached = record {
          decided = r.2;
          reached = (elim top.at [
            | inl none ↦ absurd (omega (arith, decision.within, r.1))
            | inr t ↦ (t.0, omega (arith, decision.within, r.1, t.1), on_literal t.0 t.2)
          ]);
          last = λ later less decided. none_later later (omega (arith, r.1)) decided;
        };
        between = [];
        resolved = λ m. (inside m, outside m);
      },
    )
  ]

-- ---- a step

-- the front is one entry shorter, whose atom isn't on
pub skip_resolved : (known : List (List Lit)) (T : List Entry) (start : List Lit) (m : Marks) (k : ℕ) (e : Entry) → slice_get T k ≡ Some e
    → is_on m.on e.lit.atom ≡ false → IsResolved known T start m (k + 1) → IsResolved known T start m k
skip_resolved known T start m k e g off (inl none) = inl none
skip_resolved known T start m k e g off (inr r) = inr (
  r.0,
  record {
    is = r.1.is;
    reached = r.1.reached;
    between = r.1.between;
    resolved = subst (Resolve known T r.0 start r.1.between) (sym (clause_without m.on T k e (so_far T m k) g off refl)) r.1.resolved;
  },
)

-- a literal of the clause so far by its place
placed : (T : List Entry) (m : Marks) (many : ℕ) (l : Lit) → Has l (so_far T m many)
    → (i : ℕ) × (d : Entry) × (i < many) × (slice_get T i ≡ Some d) × (l ≡ negation d.lit) × (is_on m.on d.lit.atom ≡ true)
placed T m many l h =
    let n = negation-Has l (held m.on (literals (take many T))) h in
    let r = held-Has m.on n.0 (literals (take many T)) n.1 in
    let p = front-Has n.0 many T r.0 in
    (p.0, p.1, p.2, p.3, n.2 ∙ ap negation (sym p.4), ap (λ (x : Lit). is_on m.on x.atom) p.4 ∙ r.1)

named : (T : List Entry) (m : Marks) (many i : ℕ) (d : Entry) → i < many → slice_get T i ≡ Some d → is_on m.on d.lit.atom ≡ true
    → Has (negation d.lit) (so_far T m many)
named T m many i d less g is =
    Has-negation d.lit (held m.on (literals (take many T))) (Has-held m.on d.lit (literals (take many T)) (Has-front_place T many i d g less) is)

module _ (c : Rows) (known : List (List Lit)) (T : List Entry) (old new : Marks) (tree : Tree) (k : ℕ) (e : Entry) (number : ℕ) (reason : List Lit) (trail : IsTrail (length c.atoms) known T) (walk : IsWalk c known T old tree (k + 1)) (above : old.lowest ≤ k) (g : slice_get T k ≡ Some e) (is_on_e : is_on old.on e.lit.atom ≡ true) (by : e.by ≡ Some number) (r : slice_get known number ≡ Some reason) (marked : AreMarked old reason new) where
  apart : AreApart (length c.atoms) T
  apart = trail_apart (length c.atoms) known T trail

  others : OthersFalse (literals (take k T)) e.lit reason
  others =
      let w = reason_of (length c.atoms) known T trail k e number g by in
      subst (OthersFalse (literals (take k T)) e.lit) (same_Some w.0 reason (sym w.1 ∙ r)) w.3

  -- two places of one atom are one
  one_place : (i j : ℕ) (d f : Entry) → slice_get T i ≡ Some d → slice_get T j ≡ Some f → d.lit.atom ≡ f.lit.atom → i ≡ j
  one_place i j d f gi gj s = apart.apart i j d f gi gj s

  one_entry : (i j : ℕ) (d f : Entry) → slice_get T i ≡ Some d → slice_get T j ≡ Some f → i ≡ j → d ≡ f
  one_entry i j d f gi gj s = same_Some d f (sym (subst (λ (p : ℕ). slice_get T p ≡ Some d) s gi) ∙ gj)

  last_here : NoneFrom T (so_far T old (k + 1)) (k + 1)
  last_here j past (l, h, (d, gd, s)) =
      let p = placed T old (k + 1) l h in
      let same : p.0 ≡ j = one_place p.0 j p.1 d p.3 gd (ap (λ (x : Lit). x.atom) (sym p.4) ∙ sym s) in
      let less : p.0 < k + 1 = p.2 in
      absurd (omega arith)

  another : (level : ℕ) → old.level ≡ level + 1 → (j : ℕ) × (level ≤ j) × (j < k) × LiteralAt T (so_far T old (k + 1)) j
  another level is = elim walk.lowest.reached [
    | inl none ↦ absurd (omega (arith, walk.lowest.level))
    | inr f ↦ at f
  ]
    where
      at : ((atom : ℕ) × (is_on old.on atom ≡ true) × (slice_index old.ranks atom ≡ old.lowest))
          → (j : ℕ) × (level ≤ j) × (j < k) × LiteralAt T (so_far T old (k + 1)) j
      at f =
          let some : old.lowest ≡ (old.lowest - 1) + 1 = omega (arith, walk.lowest.level) in
          let p = walk.ranked.only f.0 (old.lowest - 1) (f.2 ∙ some) in
          (old.lowest - 1, omega (arith, walk.lowest.level), omega (arith, walk.lowest.level), (negation p.0.lit, named T old (k + 1) (old.lowest - 1) p.0 (omega arith) p.1 (ap (is_on old.on) p.2 ∙ f.1), (p.0, p.1, refl)))

  abbrev Either : Lit → Type 0
  Either m = (Has m (so_far T old (k + 1)) × (m ≡ negation e.lit → ⊥)) ⊎ (Has m reason × (m ≡ e.lit → ⊥))

  -- an atom before the entry is another than the entry's
  elsewhere : (i : ℕ) (d : Entry) → i < k → slice_get T i ≡ Some d → d.lit.atom ≡ e.lit.atom → ⊥
  elsewhere i d less gd s = let same : i ≡ k = one_place i k d e gd g s in absurd (omega arith)

  falls : (m : Lit) → Has m (so_far T new k) → Either m
  falls m h = from (placed T new k m h)
    where
      from : ((i : ℕ) × (d : Entry) × (i < k) × (slice_get T i ≡ Some d) × (m ≡ negation d.lit) × (is_on new.on d.lit.atom ≡ true)) → Either m
      from (i, d, less, gd, s, is) = elim (marked.only d.lit.atom is) [
        | inl was ↦ inl (
          subst (λ (l : Lit). Has l (so_far T old (k + 1))) (sym s) (named T old (k + 1) i d (omega arith) gd was),
          λ t. elsewhere i d less gd (ap (λ (l : Lit). l.atom) (sym s ∙ t)),
        )
        | inr has ↦ of_reason (Has-HasAtom d.lit.atom reason has)
      ]
        where
          of_reason : ((l : Lit) × Has l reason × (l.atom ≡ d.lit.atom)) → Either m
          of_reason (l, hl, t) = elim (others-at (literals (take k T)) e.lit reason l others hl) [
            | inl u ↦ absurd (elsewhere i d less gd (sym t ∙ ap (λ (x : Lit). x.atom) u))
            | inr f ↦ there (front-Has (negation l) k T f)
          ]
            where
              there : ((j : ℕ) × (f : Entry) × (j < k) × (slice_get T j ≡ Some f) × (f.lit ≡ negation l)) → Either m
              there (j, f, below, gf, u) =
                  let same : f ≡ d = one_entry j i f d gf gd (one_place j i f d gf gd (ap (λ (x : Lit). x.atom) u ∙ t)) in
                  let equal : m ≡ l = s ∙ ap (λ (x : Entry). negation x.lit) (sym same) ∙ ap negation u ∙ negation-negation l in
                  inr (subst (λ (x : Lit). Has x reason) (sym equal) hl, λ v. elsewhere i d less gd (ap (λ (x : Lit). x.atom) (sym s ∙ v)))

  rises : (m : Lit) → Either m → Has m (so_far T new k)
  rises m (inl (h, differs)) = from (placed T old (k + 1) m h)
    where
      from : ((i : ℕ) × (d : Entry) × (i < k + 1) × (slice_get T i ≡ Some d) × (m ≡ negation d.lit) × (is_on old.on d.lit.atom ≡ true)) → Has m (so_far T new k)
      from (i, d, less, gd, s, is) = elim (cases_eq i k) [
        | inl same ↦ absurd (differs (s ∙ ap (λ (x : Entry). negation x.lit) (one_entry i k d e gd g same)))
        | inr other ↦ subst (λ (l : Lit). Has l (so_far T new k)) (sym s) (named T new k i d (omega arith) gd (marked.keeps d.lit.atom is))
      ]
  rises m (inr (h, differs)) = elim (others-at (literals (take k T)) e.lit reason m others h) [
    | inl u ↦ absurd (differs u)
    | inr f ↦
        subst (λ (l : Lit). Has l (so_far T new k)) (negation-negation m) (Has-negation (negation m) (held new.on (literals (take k T))) (Has-held new.on (negation m) (literals (take k T)) f (marked.each m h)))
  ]

  resolves : (level : ℕ) → old.level ≡ level + 1 → Resolves known T level (so_far T old (k + 1)) (so_far T new k)
  resolves level is = record {
    place = k;
    entry = e;
    number = number;
    reason = reason;
    stands = g;
    has = named T old (k + 1) k e (omega arith) g is_on_e;
    last = last_here;
    another = another level is;
    follows = by;
    is = r;
    resolvent = λ m. (falls m, rises m);
  }

  pub step_resolved : (start : List Lit) → IsResolved known T start old (k + 1) → IsResolved known T start new k
  step_resolved start (inl none) = inl (marked.level ∙ none.0, none.1)
  step_resolved start (inr s) = inr (
    s.0,
    record {
      is = marked.level ∙ s.1.is;
      reached = s.1.reached;
      between = s.1.between ++ so_far T new k ∷ [];
      resolved = resolve_more known T s.0 start s.1.between (so_far T old (k + 1)) (so_far T new k) s.1.resolved (resolves s.0 s.1.is);
    },
  )
