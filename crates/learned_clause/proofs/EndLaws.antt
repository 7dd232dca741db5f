-- What is learned where the walk ends.
use Rattle.std.proofs.Common.{◌≡◌, ℕ, ◌+◌, ◌-◌, ◌<◌, ◌≤◌, ◌⊎◌, Bool, true, List, [], map, length, take, None, Some, slice_get, slice_index, refl, sym, ◌∙◌, ap, subst, inl, inr, arith}
use Rattle.std.proofs.lemmas.Bool.{cases_eq, cases_lt, true≢false}
use Rattle.std.proofs.lemmas.Option.{same_Some}
use Rattle.farkas_cert.specs.Literals.{negation}
use Rattle.farkas_cert.specs.Trees.{Tree}
use Rattle.farkas_cert.specs.declared.literals.Lit.{Lit}
use Rattle.clause_form.specs.Derivations.{Closes, Has, HasAtom, Rows}
use Rattle.clause_form.specs.Journals.{Entry, IsOpenClause, OthersFalse, literals}
use Rattle.learned_clause.specs.Learning.{CutsTo, IsLearnedFrom}
use Rattle.learned_clause.specs.Resolutions.{AreFalseAt, AtomAt, HasOneFrom, IsLearnedBy, IsLearnedClause, KeepsOthers}
use Rattle.learned_clause.specs.Trails.{DecidedAt, IsTrail}
use Rattle.learned_clause.specs.Resolvents.{AreApart, IsFirstDecision, IsLastOn, IsLeastCut, IsResolved, IsWalk, OnAt, held, is_on}
use Rattle.learned_clause.specs.declared.learning.Start.{Start}
use Rattle.learned_clause.specs.declared.marks.Marks.{Marks}
use Rattle.learned_clause.proofs.MemberLaws.{Has-held, Has-negation, HasAtom-Has, false-at, false-negations, held-Has, map-negation-negation, negation-Has, once-held, once-negations, others-at, others-negations}
use Rattle.learned_clause.proofs.PlaceLaws.{Has-front_place, Has-place, front-Has, front_once, off_front, place_within, trail_apart}

-- ---- the cut

pub least_cut_law : (T : List Entry) (on : List Bool) (decision from keep : ℕ) → DecidedAt T decision → IsLastOn T on decision from
    → IsFirstDecision T from decision keep → IsLeastCut T on decision keep
least_cut_law T on decision from keep decided last first = record {
  within = first.within;
  decided = elim first.at [ inl e ↦ subst (DecidedAt T) (sym e) decided | inr d ↦ d ];
  none = λ k e after less g. last.none k e (let h : from ≤ keep = first.after in omega arith) less g;
  earlier = λ k less d. earlier k less d;
}
  where
    before : (k : ℕ) → k < keep → DecidedAt T k → k < from
    before k less d = elim (cases_lt k from) [
      | inl h ↦ h
      | inr more ↦ absurd (first.none k (record { lit = d.0; by = None }) more less d.1 refl)
    ]

    earlier : (k : ℕ) → k < keep → DecidedAt T k → (j : ℕ) × (k ≤ j) × (j < keep) × OnAt T on j
    earlier k less d =
        let below : k < from = before k less d in
        elim last.at [
          | inl none ↦ absurd (omega arith)
          | inr r ↦ let last_is : from ≡ r.0 + 1 = r.1 in let under : from ≤ keep = first.after in (r.0, omega arith, omega arith, r.2)
        ]

-- ---- the end

module _ (c : Rows) (known : List (List Lit)) (T : List Entry) (m : Marks) (tree : Tree) (trail : IsTrail (length c.atoms) known T) (walk : IsWalk c known T m tree m.lowest) where
  abbrev learned : List Lit
  learned = map negation (held m.on (literals (take m.lowest T)))

  apart : AreApart (length c.atoms) T
  apart = trail_apart (length c.atoms) known T trail

  -- a literal of the clause by its place
  in_place : (x : Lit) → Has x (held m.on (literals (take m.lowest T)))
      → (k : ℕ) × (e : Entry) × (k < m.lowest) × (slice_get T k ≡ Some e) × (e.lit ≡ x) × (is_on m.on e.lit.atom ≡ true)
  in_place x h =
      let r = held-Has m.on x (literals (take m.lowest T)) h in
      let p = front-Has x m.lowest T r.0 in
      (p.0, p.1, p.2, p.3, p.4, ap (λ (l : Lit). is_on m.on l.atom) p.4 ∙ r.1)

  inside : (x : Lit) → Has x (held m.on (literals (take m.lowest T))) → Has x (literals T)
  inside x h = let r = in_place x h in subst (λ (l : Lit). Has l (literals T)) r.4 (Has-place T r.0 r.1 r.3)

  -- an atom that is on names a literal of the clause
  named : (k : ℕ) (e : Entry) → k < m.lowest → slice_get T k ≡ Some e → is_on m.on e.lit.atom ≡ true → Has (negation e.lit) learned
  named k e less g is =
      Has-negation e.lit (held m.on (literals (take m.lowest T))) (Has-held m.on e.lit (literals (take m.lowest T)) (Has-front_place T m.lowest k e g less) is)

  late_place : (decision : ℕ) → m.level ≡ decision + 1 → (k : ℕ) × (e : Entry) × (m.lowest ≡ k + 1) × (slice_get T k ≡ Some e) × (is_on m.on e.lit.atom ≡ true)
  late_place decision level = elim walk.lowest.reached [
    | inl none ↦ absurd (omega (arith, walk.lowest.level))
    | inr r ↦ at r
  ]
    where
      at : ((atom : ℕ) × (is_on m.on atom ≡ true) × (slice_index m.ranks atom ≡ m.lowest))
          → (k : ℕ) × (e : Entry) × (m.lowest ≡ k + 1) × (slice_get T k ≡ Some e) × (is_on m.on e.lit.atom ≡ true)
      at r =
          let some : m.lowest ≡ (m.lowest - 1) + 1 = omega (arith, walk.lowest.level) in
          let p = walk.ranked.only r.0 (m.lowest - 1) (r.2 ∙ some) in
          (m.lowest - 1, p.0, some, p.1, ap (is_on m.on) p.2 ∙ r.1)

  module _ (decision keep : ℕ) (level : m.level ≡ decision + 1) (cut : IsLeastCut T m.on decision keep) (low : ℕ) (late : Entry) (low_is : m.lowest ≡ low + 1) (late_at : slice_get T low ≡ Some late) (late_on : is_on m.on late.lit.atom ≡ true) where
    above : decision ≤ low
    above = omega (arith, walk.lowest.level)

    late_in : Has (negation late.lit) learned
    late_in = named low late (omega arith) late_at late_on

    -- any other literal stands before the cut
    other : (x : Lit) → Has x (held m.on (literals (take m.lowest T))) → (x ≡ late.lit) ⊎ Has x (literals (take keep T))
    other x h = by (in_place x h)
      where
        early : (k : ℕ) (e : Entry) → k < m.lowest → slice_get T k ≡ Some e → is_on m.on e.lit.atom ≡ true → (k ≡ low → ⊥) → k < keep
        early k e less g is differs =
            let rank : slice_index m.ranks e.lit.atom ≡ k + 1 = walk.ranked.each k e (place_within T k e g) g in
            elim (cases_lt k decision) [
              | inl below ↦ elim (cases_lt k keep) [
                | inl first ↦ first
                | inr more ↦ absurd (true≢false (sym is ∙ cut.none k e more below g))
              ]
              | inr more ↦
                  let counts : m.level ≤ slice_index m.ranks e.lit.atom = omega arith in
                  let least : m.lowest ≤ slice_index m.ranks e.lit.atom = walk.lowest.least e.lit.atom is counts in
                  absurd (differs (omega arith))
            ]

        by : ((k : ℕ) × (e : Entry) × (k < m.lowest) × (slice_get T k ≡ Some e) × (e.lit ≡ x) × (is_on m.on e.lit.atom ≡ true))
            → (x ≡ late.lit) ⊎ Has x (literals (take keep T))
        by r = elim (cases_eq r.0 low) [
          | inl same ↦
              let at_low : slice_get T low ≡ Some r.1 = subst (λ (i : ℕ). slice_get T i ≡ Some r.1) same r.3 in
              inl (sym r.4 ∙ ap (λ (e : Entry). e.lit) (same_Some r.1 late (sym at_low ∙ late_at)))
          | inr differs ↦
              inr (subst (λ (l : Lit). Has l (literals (take keep T))) r.4 (Has-front_place T keep r.0 r.1 r.3 (early r.0 r.1 r.2 r.3 r.5 differs)))
        ]

    off_late : (k : ℕ) → k ≤ low → HasAtom late.lit.atom (literals (take k T)) → ⊥
    off_late k less = off_front (length c.atoms) T apart k low late late_at less

    opens : (k : ℕ) → k < keep → DecidedAt T k → IsOpenClause (literals (take k T)) learned
    opens k less decided = by (cut.earlier k less decided)
      where
        by : ((j : ℕ) × (k ≤ j) × (j < keep) × OnAt T m.on j) → IsOpenClause (literals (take k T)) learned
        by r = record {
          not_false = λ h. off_late k (omega (arith, above, cut.within)) (HasAtom-Has (negation (negation late.lit)) (literals (take k T)) (false-at (literals (take k T)) learned (negation late.lit) h late_in));
          not_unit = λ l has off others. not_unit l others;
        }
          where
            j_below : r.0 < low
            j_below = omega (arith, above, cut.within, r.2)

            other_in : Has (negation r.3.0.lit) learned
            other_in = named r.0 r.3.0 (omega (arith, j_below)) r.3.1 r.3.2

            is_late : (l : Lit) → OthersFalse (literals (take k T)) l learned → negation late.lit ≡ l
            is_late l others = elim (others-at (literals (take k T)) l learned (negation late.lit) others late_in) [
              | inl e ↦ e
              | inr h ↦ absurd (off_late k (omega (arith, above, cut.within)) (HasAtom-Has (negation (negation late.lit)) (literals (take k T)) h))
            ]

            is_other : (l : Lit) → OthersFalse (literals (take k T)) l learned → negation r.3.0.lit ≡ l
            is_other l others = elim (others-at (literals (take k T)) l learned (negation r.3.0.lit) others other_in) [
              | inl e ↦ e
              | inr h ↦ absurd (off_front (length c.atoms) T apart k r.0 r.3.0 r.3.1 r.1 (HasAtom-Has (negation (negation r.3.0.lit)) (literals (take k T)) h))
            ]

            not_unit : (l : Lit) → OthersFalse (literals (take k T)) l learned → ⊥
            not_unit l others =
                let same : r.0 ≡ low = apart.apart r.0 low r.3.0 late r.3.1 late_at (ap (λ (x : Lit). x.atom) (is_other l others ∙ sym (is_late l others))) in
                absurd (omega (arith, j_below))

    cuts : CutsTo T learned keep
    cuts = record {
      within = let h = place_within T low late late_at in omega (arith, above, cut.within);
      decided = cut.decided;
      unit_after = record {
        late = negation late.lit;
        has = late_in;
        off = off_late keep (omega (arith, above, cut.within));
        others = others-negations (literals (take keep T)) late.lit (held m.on (literals (take m.lowest T))) other;
      };
      open_before = opens;
    }

    -- ---- the cut keeps the others, and no earlier one does

    keeps : KeepsOthers T learned (negation late.lit) keep
    keeps = record { decided = cut.decided; others = λ l h differs. kept l (negation-Has l (held m.on (literals (take m.lowest T))) h) differs }
      where
        kept : (l : Lit) → ((x : Lit) × Has x (held m.on (literals (take m.lowest T))) × (l ≡ negation x)) → (l ≡ negation late.lit → ⊥)
            → HasAtom l.atom (literals (take keep T))
        kept l (x, h, s) differs = elim (other x h) [
          | inl same ↦ absurd (differs (s ∙ ap negation same))
          | inr before ↦ subst (λ (a : ℕ). HasAtom a (literals (take keep T))) (ap (λ (y : Lit). y.atom) (sym s)) (HasAtom-Has x (literals (take keep T)) before)
        ]

    least : (k : ℕ) → k < keep → KeepsOthers T learned (negation late.lit) k → ⊥
    least k less kept = by (cut.earlier k less kept.decided)
      where
        by : ((j : ℕ) × (k ≤ j) × (j < keep) × OnAt T m.on j) → ⊥
        by (j, from, to, (e, g, is)) = off_front (length c.atoms) T apart k j e g from (kept.others (negation e.lit) (named j e (omega (arith, above, cut.within)) g is) differs)
          where
            differs : negation e.lit ≡ negation late.lit → ⊥
            differs s =
                let same : j ≡ low = apart.apart j low e late g late_at (ap (λ (x : Lit). x.atom) s) in
                absurd (omega (arith, above, cut.within))

    one : HasOneFrom T decision learned (negation late.lit)
    one = record { has = late_in; stands = (low, above, (late, late_at, refl)); only = λ l k h from at. only l k from at (negation-Has l (held m.on (literals (take m.lowest T))) h) }
      where
        only : (l : Lit) (k : ℕ) → decision ≤ k → AtomAt T k l.atom → ((x : Lit) × Has x (held m.on (literals (take m.lowest T))) × (l ≡ negation x))
            → l ≡ negation late.lit
        only l k from (d, gd, t) (x, h, s) =
            let p = in_place x h in
            let same : k ≡ p.0 = apart.apart k p.0 d p.1 gd p.3 (t ∙ ap (λ (y : Lit). y.atom) s ∙ ap (λ (y : Lit). y.atom) (sym p.4)) in
            let rank : slice_index m.ranks p.1.lit.atom ≡ p.0 + 1 = walk.ranked.each p.0 p.1 (place_within T p.0 p.1 p.3) p.3 in
            let least : m.lowest ≤ slice_index m.ranks p.1.lit.atom = walk.lowest.least p.1.lit.atom p.5 (omega arith) in
            let at_low : p.0 ≡ low = omega (arith, p.2) in
            let there : slice_get T low ≡ Some p.1 = subst (λ (i : ℕ). slice_get T i ≡ Some p.1) at_low p.3 in
            s ∙ ap negation (sym p.4) ∙ ap (λ (e : Entry). negation e.lit) (same_Some p.1 late (sym there ∙ late_at))

  ended : (keep : ℕ) → ((k : ℕ) → m.level ≡ k + 1 → DecidedAt T k → IsLeastCut T m.on k keep) → (learned ≡ []) ⊎ CutsTo T learned keep
  ended keep cut = elim walk.level [
    | inl none ↦ inl (ap (λ (n : ℕ). map negation (held m.on (literals (take n T)))) none.1)
    | inr r ↦
        let late = late_place r.0 r.1 in
        inr (cuts r.0 keep r.1 (cut r.0 r.1 r.2) late.0 late.1 late.2 late.3 late.4)
  ]

  pub learned_law : (clause : List Lit) (keep : ℕ) → clause ≡ map negation (held m.on (literals (take m.lowest T)))
      → ((k : ℕ) → m.level ≡ k + 1 → DecidedAt T k → IsLeastCut T m.on k keep) → IsLearnedFrom c known T clause tree keep
  learned_law clause keep e cut = subst (λ (ls : List Lit). IsLearnedFrom c known T ls tree keep) (sym e) (record {
    once = once-negations (length c.atoms) (held m.on (literals (take m.lowest T))) (once-held (length c.atoms) m.on (literals (take m.lowest T)) (front_once (length c.atoms) known T trail m.lowest walk.within));
    false_here = false-negations (literals T) (held m.on (literals (take m.lowest T))) inside;
    follows = subst (Closes c known tree) (sym (map-negation-negation (held m.on (literals (take m.lowest T))))) (walk.closes (held m.on (literals (take m.lowest T))) (λ l h is. Has-held m.on l (literals (take m.lowest T)) h is) (λ l h. (held-Has m.on l (literals (take m.lowest T)) h).0));
    light = record { shallow = omega (arith, walk.shallow); leaves = walk.leaves };
    cut = ended keep cut;
  })

  -- and it is the first unique implication point
  point : (start : List Lit) (keep : ℕ) → ((k : ℕ) → m.level ≡ k + 1 → DecidedAt T k → IsLeastCut T m.on k keep) → IsResolved known T start m m.lowest
      → IsLearnedClause known T start learned keep
  point start keep cut (inl none) = elim walk.level [
    | inl zero ↦ inl (none.1, ap (λ (n : ℕ). map negation (held m.on (literals (take n T)))) zero.1)
    | inr r ↦ absurd (omega (arith, none.0, r.1))
  ]
  point start keep cut (inr s) =
      let late = late_place s.0 s.1.is in
      let least_cut = cut s.0 s.1.is s.1.reached.decided in
      inr (
        s.0,
        s.1.reached,
        record {
          between = s.1.between;
          resolved = s.1.resolved;
          late = negation late.1.lit;
          one = one s.0 keep s.1.is least_cut late.0 late.1 late.2 late.3 late.4;
          keeps = keeps s.0 keep s.1.is least_cut late.0 late.1 late.2 late.3 late.4;
          least = least s.0 keep s.1.is least_cut late.0 late.1 late.2 late.3 late.4;
        },
      )

  pub exact_law : (start : Start) (lits clause : List Lit) (keep : ℕ) → clause ≡ map negation (held m.on (literals (take m.lowest T)))
      → ((k : ℕ) → m.level ≡ k + 1 → DecidedAt T k → IsLeastCut T m.on k keep) → AreFalseAt known start lits → IsResolved known T lits m m.lowest
      → IsLearnedBy known T start clause keep
  exact_law start lits clause keep e cut are resolved = (lits, are, subst (λ (ls : List Lit). IsLearnedClause known T lits ls keep) (sym e) (point lits keep cut resolved))
