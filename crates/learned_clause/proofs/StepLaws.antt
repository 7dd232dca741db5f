-- The walk's state, from the start on to its end.
use Rattle.std.proofs.Common.{◌≡◌, ℕ, zero, suc, ◌+◌, ◌-◌, ◌<◌, ◌≤◌, ◌⊎◌, Bool, true, false, List, [], ◌∷◌, ◌++◌, map, length, take, replicate, Option, None, Some, slice_get, slice_set, slice_index, refl, sym, ◌∙◌, ap, subst, inl, inr, arith}
use Rattle.std.proofs.lemmas.Bool.{cases_eq, cases_lt, true≢false}
use Rattle.std.proofs.lemmas.List.{get_or-set_same, get_or-set_other, length-set, length-replicate, length-map, map-append, append-nil}
use Rattle.std.proofs.lemmas.Option.{same_Some, slice_get_within}
use Rattle.farkas_cert.specs.Literals.{negation}
use Rattle.farkas_cert.specs.Trees.{Tree, farkas, clause}
use Rattle.farkas_cert.specs.declared.literals.Lit.{Lit}
use Rattle.farkas_cert.specs.declared.trees.Part.{Part}
use Rattle.clause_form.specs.Derivations.{ArePartsOf, Has, IsContradiction, IsFalseOn, Rows, SumsFit}
use Rattle.clause_form.specs.Journals.{Entry, IsReason, OthersFalse, literals}
use Rattle.clause_form.specs.WellFormed.{Below}
use Rattle.learned_clause.specs.Learning.{IsFalseStart}
use Rattle.learned_clause.specs.LightTrees.{AreWithin, HasLightLeaves, depth}
use Rattle.learned_clause.specs.Trails.{DecidedAt, IsFounded, IsTrail, entries, entry}
use Rattle.learned_clause.specs.Resolvents.{AreApart, AreFresh, AreMarked, AreRanked, ClosesAll, IsBegun, IsFirstOn, IsLastDecision, IsLastOn, IsLevel, IsLowest, IsLowestRank, IsWalk, NoneNegative, OnAt, held, is_on, resolved}
use Rattle.learned_clause.specs.declared.learning.Start.TheVariants.{Clash, Clause}
use Rattle.learned_clause.specs.declared.marks.Marks.{Marks}
use Rattle.learned_clause.specs.declared.trails.Assigned.{Assigned}
use Rattle.learned_clause.proofs.MemberLaws.{held-push}
use Rattle.learned_clause.proofs.PlaceLaws.{front-Has, front_more, place-Has, place_within, trail_apart}
use Rattle.learned_clause.proofs.ClosingLaws.{closes_back, closes_clause, closes_front, closes_skip, closes_sums}

-- ---- ranks

pub ranked_none : (T : List Entry) (ranks : List ℕ) → ((a : ℕ) → slice_index ranks a ≡ 0) → AreRanked T 0 ranks
ranked_none T ranks zeros = record {
  each = λ k e less g. absurd (omega arith);
  only = λ a k is. let h = zeros a in absurd (omega arith);
}

pub ranked_more : (n : ℕ) (T : List Entry) (ranks : List ℕ) (k : ℕ) (e : Entry) → AreApart n T → length ranks ≡ n → slice_get T k ≡ Some e
    → AreRanked T k ranks → AreRanked T (k + 1) (slice_set ranks e.lit.atom (k + 1))
ranked_more n T ranks k e apart sized g ranked = record {
  each = λ j d less h. each j d less h (cases_eq j k);
  only = λ a j is. only a j is (cases_eq a e.lit.atom);
}
  where
    within : e.lit.atom < length ranks
    within = let h = apart.in_range k e g in omega arith

    here : slice_index (slice_set ranks e.lit.atom (k + 1)) e.lit.atom ≡ k + 1
    here = get_or-set_same ranks e.lit.atom (k + 1) 0 within

    there : (a : ℕ) → (a ≡ e.lit.atom → ⊥) → slice_index (slice_set ranks e.lit.atom (k + 1)) a ≡ slice_index ranks a
    there a differs = get_or-set_other ranks e.lit.atom a (k + 1) 0 differs

    each : (j : ℕ) (d : Entry) → j < k + 1 → slice_get T j ≡ Some d → (j ≡ k) ⊎ (j ≡ k → ⊥)
        → slice_index (slice_set ranks e.lit.atom (k + 1)) d.lit.atom ≡ j + 1
    each j d less h cases = elim cases [
      | inl same ↦
          let at_k : slice_get T k ≡ Some d = subst (λ (i : ℕ). slice_get T i ≡ Some d) same h in
          ap (λ (x : Entry). slice_index (slice_set ranks e.lit.atom (k + 1)) x.lit.atom) (same_Some d e (sym at_k ∙ g)) ∙ here ∙ ap (λ (i : ℕ). i + 1) (sym same)
      | inr differs ↦ there d.lit.atom (λ s. differs (apart.apart j k d e h g s)) ∙ ranked.each j d (omega arith) h
    ]

    only : (a j : ℕ) → slice_index (slice_set ranks e.lit.atom (k + 1)) a ≡ j + 1 → (a ≡ e.lit.atom) ⊎ (a ≡ e.lit.atom → ⊥)
        → (d : Entry) × (slice_get T j ≡ Some d) × (d.lit.atom ≡ a) × (j < k + 1)
    only a j is cases = elim cases [
      | inl same ↦
          let there : k + 1 ≡ j + 1 = sym here ∙ ap (λ (b : ℕ). slice_index (slice_set ranks e.lit.atom (k + 1)) b) (sym same) ∙ is in
          let equal : k ≡ j = omega arith in
          (e, subst (λ (i : ℕ). slice_get T i ≡ Some e) equal g, sym same, omega arith)
      | inr differs ↦
          let r = ranked.only a j (sym (there a differs) ∙ is) in
          let less : j < k = r.3 in
          (r.0, r.1, r.2, omega arith)
    ]

-- ---- the start

-- the literals whose negations are on the trail are in range
pub below_false : (n : ℕ) (T : List Entry) (ls : List Lit) → AreApart n T → IsFalseOn (literals T) ls → Below n ls
below_false n T [] apart false_here = tt
below_false n T (x ∷ xs) apart false_here =
    let r = place-Has (negation x) T false_here.0 in
    (subst (λ (l : Lit). l.atom < n) r.3 (apart.in_range r.0 r.1 r.2), below_false n T xs apart false_here.1)

pub below_parts : (n : ℕ) (c : Rows) (T : List Entry) (ps : List Part) → AreApart n T → ArePartsOf c (literals T) ps → Below n (map (λ p. p.lit) ps)
below_parts n c T [] apart parts = tt
below_parts n c T (p ∷ ps) apart parts =
    let r = place-Has p.lit T parts.1 in
    (subst (λ (l : Lit). l.atom < n) r.3 (apart.in_range r.0 r.1 r.2), below_parts n c T ps apart parts.3)

same_ranks : (T : List Entry) (n : ℕ) (ranks new : List ℕ) → new ≡ ranks → AreRanked T n ranks → AreRanked T n new
same_ranks T n ranks new e ranked = subst (AreRanked T n) (sym e) ranked

pub begun_clause : (c : Rows) (known : List (List Lit)) (T : List Entry) (old new : Marks) (n : ℕ) (tree : Tree) (lits : List Lit)
    → AreFresh (length c.atoms) T old → slice_get known n ≡ Some lits → IsFalseOn (literals T) lits → AreMarked old lits new → tree ≡ clause n
    → IsBegun c known T new tree
begun_clause c known T old new n tree lits fresh g false_here marked e = subst (IsBegun c known T new) (sym e) (record {
  sized = marked.sized ∙ fresh.sized;
  ranked = same_ranks T (length T) old.ranks new.ranks marked.ranks fresh.ranked;
  closes = closes_clause c known n new.on (literals T) lits g false_here marked.each;
  shallow = refl;
  leaves = tt;
})

pub begun_sums : (c : Rows) (known : List (List Lit)) (T : List Entry) (old new : Marks) (tree : Tree) (parts : List Part)
    → AreFresh (length c.atoms) T old → length parts ≤ 2049 → IsContradiction c (literals T) parts → SumsFit c parts → AreWithin parts
    → AreMarked old (map (λ p. p.lit) parts) new → tree ≡ farkas parts → IsBegun c known T new tree
begun_sums c known T old new tree parts fresh few against fits within marked e = subst (IsBegun c known T new) (sym e) (record {
  sized = marked.sized ∙ fresh.sized;
  ranked = same_ranks T (length T) old.ranks new.ranks marked.ranks fresh.ranked;
  closes = closes_sums c known new.on (literals T) parts against marked.each;
  shallow = refl;
  leaves = record { few = few; fits = fits; within = within };
})

-- ---- the level

lowest_at : (c : Rows) (known : List (List Lit)) (T : List Entry) (old new : Marks) (tree : Tree) (last : ℕ)
    → IsLastOn T old.on (length T) last → new.on ≡ old.on → new.ranks ≡ old.ranks → IsBegun c known T old tree
    → (from first : ℕ) → new.level ≡ from + 1 → new.lowest ≡ first + 1 → new.level ≤ last → IsFirstOn T old.on from last first
    → IsLowest new × (new.lowest ≤ last)
lowest_at c known T old new tree last top on ranks begun from first level lowest counts is_first =
    let r = found is_first.at in (
      record { least = λ a is above. least a is above; reached = inr (r.0.lit.atom, r.2, r.3); level = omega (arith, is_first.after) },
      omega (arith, r.4),
    )
  where
    stays : (a : ℕ) → is_on new.on a ≡ is_on old.on a
    stays a = ap (λ (o : List Bool). is_on o a) on

    rank_same : (a : ℕ) → slice_index new.ranks a ≡ slice_index old.ranks a
    rank_same a = ap (λ (rs : List ℕ). slice_index rs a) ranks

    by_place : (a j : ℕ) → is_on old.on a ≡ true → slice_index old.ranks a ≡ j + 1 → new.level ≤ j + 1 → first ≤ j
    by_place a j is rank above =
        let r = begun.ranked.only a j rank in
        let lit_on : is_on old.on r.0.lit.atom ≡ true = ap (is_on old.on) r.2 ∙ is in
        elim (cases_lt j first) [
          | inl less ↦ absurd (true≢false (sym lit_on ∙ is_first.none j r.0 (omega arith) less r.1))
          | inr more ↦ more
        ]

    least : (a : ℕ) → is_on new.on a ≡ true → new.level ≤ slice_index new.ranks a → new.lowest ≤ slice_index new.ranks a
    least a is above =
        let same = rank_same a in
        let place : slice_index old.ranks a ≡ (slice_index old.ranks a - 1) + 1 = omega (arith, same, above, level) in
        omega (arith, same, place, lowest, by_place a (slice_index old.ranks a - 1) (sym (stays a) ∙ is) place (omega (arith, same, above, place)))

    Found : Type 0
    Found = (e : Entry) × (slice_get T first ≡ Some e) × (is_on new.on e.lit.atom ≡ true) × (slice_index new.ranks e.lit.atom ≡ new.lowest) × (first < last)

    at_first : first < last → OnAt T old.on first → Found
    at_first less r = (
      r.0,
      r.1,
      stays r.0.lit.atom ∙ r.2,
      rank_same r.0.lit.atom ∙ begun.ranked.each first r.0 (place_within T first r.0 r.1) r.1 ∙ sym lowest,
      less,
    )

    past : first ≡ last → ⊥
    past e = elim top.at [
      | inl none ↦ absurd (omega arith)
      | inr r ↦ true≢false (sym r.2.2 ∙ is_first.none r.0 r.2.0 (omega (arith, r.1)) (omega (arith, r.1)) r.2.1)
    ]

    found : (first ≡ last) ⊎ OnAt T old.on first → Found
    found h = elim h [
      | inl e ↦ absurd (past e)
      | inr r ↦ elim (cases_lt first last) [ inl less ↦ at_first less r | inr more ↦ absurd (past (omega (arith, is_first.within))) ]
    ]

pub level_law : (T : List Entry) (old new : Marks) (last level lowest : ℕ)
    → IsLastOn T old.on (length T) last → IsLastDecision T last level → IsLowestRank T old.on level last lowest
    → new.on ≡ old.on → new.ranks ≡ old.ranks → new.level ≡ level → new.lowest ≡ lowest
    → (c : Rows) (known : List (List Lit)) (tree : Tree) → IsBegun c known T old tree → IsWalk c known T new tree last
level_law T old new last level lowest top decision rank on ranks is_level is_lowest c known tree begun = elim rank [
  | inl none ↦ whole (record {
    least = λ a is above. omega (arith, none.1, is_lowest);
    reached = inl (is_lowest ∙ none.1);
    level = omega (arith, none.0, is_level);
  }) (inl (is_level ∙ none.0, is_lowest ∙ none.1)) (omega (arith, none.1, is_lowest))
  | inr r ↦
      let low = lowest_at c known T old new tree last top on ranks begun r.0 r.1 (is_level ∙ r.2) (is_lowest ∙ r.3) (omega (arith, decision.within)) r.4 in
      whole low.0 (decided r.0 r.2 decision.at) low.1
]
  where
    decided : (from : ℕ) → level ≡ from + 1 → (level ≡ 0) ⊎ ((k : ℕ) × (level ≡ k + 1) × DecidedAt T k) → IsLevel T new
    decided from e h = elim h [ inl none ↦ absurd (omega arith) | inr r ↦ inr (r.0, is_level ∙ r.1, r.2) ]

    whole : IsLowest new → IsLevel T new → new.lowest ≤ last → IsWalk c known T new tree last
    whole low at above = record {
      sized = ap (λ (o : List Bool). length o) on ∙ begun.sized;
      ranked = same_ranks T (length T) old.ranks new.ranks ranks begun.ranked;
      lowest = low;
      level = at;
      within = top.within;
      above = above;
      follow = λ k e from less g is. decision.none k e (omega arith) less g is;
      closes = subst (λ (o : List Bool). ClosesAll c known tree o (literals (take last T))) (sym on) (closes_front c known tree old.on T last top.none begun.closes);
      shallow = omega (arith, begun.shallow, top.within);
      leaves = begun.leaves;
    }

-- ---- a step

pub walk_skip : (c : Rows) (known : List (List Lit)) (T : List Entry) (m : Marks) (tree : Tree) (k : ℕ) (e : Entry) → IsWalk c known T m tree (k + 1)
    → m.lowest ≤ k → slice_get T k ≡ Some e → is_on m.on e.lit.atom ≡ false → IsWalk c known T m tree k
walk_skip c known T m tree k e walk above g off = record {
  sized = walk.sized;
  ranked = walk.ranked;
  lowest = walk.lowest;
  level = walk.level;
  within = omega (arith, walk.within);
  above = above;
  follow = λ j d from less h is. walk.follow j d from (omega arith) h is;
  closes = closes_skip c known tree m.on (literals (take k T)) e.lit off (subst (ClosesAll c known tree m.on) (front_more T k e g) walk.closes);
  shallow = omega (arith, walk.shallow);
  leaves = walk.leaves;
}

-- the entry at a place of the walk isn't a decision
pub walk_follows : (c : Rows) (known : List (List Lit)) (T : List Entry) (m : Marks) (tree : Tree) (k : ℕ) (e : Entry) → IsWalk c known T m tree (k + 1)
    → m.lowest ≤ k → slice_get T k ≡ Some e → e.by ≡ None → ⊥
walk_follows c known T m tree k e walk above g is = walk.follow k e (omega (arith, walk.lowest.level)) (omega arith) g is

pub reason_of : (n : ℕ) (known : List (List Lit)) (T : List Entry) → IsTrail n known T → (k : ℕ) (e : Entry) (number : ℕ) → slice_get T k ≡ Some e
    → e.by ≡ Some number → IsReason known (literals (take k T)) e.lit number
reason_of n known T trail k e number g is = by e.by is (trail.stands k e g).founded
  where
    by : (o : Option ℕ) → o ≡ Some number → IsFounded known (literals (take k T)) e.lit o → IsReason known (literals (take k T)) e.lit number
    by None s founded = absurd (cc)
    by (Some m) s founded = subst (λ (i : ℕ). IsReason known (literals (take k T)) e.lit i) (same_Some m number s) founded

pub below_others : (n : ℕ) (T : List Entry) (k : ℕ) (e : Entry) (ls : List Lit) → AreApart n T → slice_get T k ≡ Some e
    → OthersFalse (literals (take k T)) e.lit ls → Below n ls
below_others n T k e [] apart g others = tt
below_others n T k e (x ∷ xs) apart g others = (first others.0, below_others n T k e xs apart g others.1)
  where
    first : (x ≡ e.lit) ⊎ Has (negation x) (literals (take k T)) → x.atom < n
    first h = elim h [
      | inl s ↦ subst (λ (l : Lit). l.atom < n) (sym s) (apart.in_range k e g)
      | inr t ↦ let r = front-Has (negation x) k T t in subst (λ (l : Lit). l.atom < n) r.4 (apart.in_range r.0 r.1 r.3)
    ]

deeper : (l : Lit) (n : ℕ) (tree : Tree) → depth (resolved l n tree) ≡ depth tree + 1
deeper l n tree = by l.positive
  where
    by : (b : Bool) → depth (resolved (record { atom = l.atom; positive = b }) n tree) ≡ depth tree + 1
    by true = omega arith
    by false = omega arith

light_still : (c : Rows) (l : Lit) (n : ℕ) (tree : Tree) → HasLightLeaves c tree → HasLightLeaves c (resolved l n tree)
light_still c l n tree light = by l.positive
  where
    by : (b : Bool) → HasLightLeaves c (resolved (record { atom = l.atom; positive = b }) n tree)
    by true = (light, tt)
    by false = (tt, light)

pub walk_back : (c : Rows) (known : List (List Lit)) (T : List Entry) (old new : Marks) (tree next : Tree) (k : ℕ) (e : Entry) (number : ℕ) (reason : List Lit)
    → IsTrail (length c.atoms) known T → IsWalk c known T old tree (k + 1) → old.lowest ≤ k → slice_get T k ≡ Some e → e.by ≡ Some number
    → slice_get known number ≡ Some reason → AreMarked old reason new → next ≡ resolved e.lit number tree → IsWalk c known T new next k
walk_back c known T old new tree next k e number reason trail walk above g is r marked made =
    subst (λ (t : Tree). IsWalk c known T new t k) (sym made) (record {
      sized = marked.sized ∙ walk.sized;
      ranked = same_ranks T (length T) old.ranks new.ranks marked.ranks walk.ranked;
      lowest = marked.lowest walk.lowest;
      level = levels walk.level;
      within = omega (arith, walk.within);
      above = omega (arith, marked.lower);
      follow = λ j d from less h s. walk.follow j d (omega (arith, marked.level)) (omega arith) h s;
      closes = closes_back c known tree old.on new.on (literals (take k T)) e.lit number reason (trail.stands k e g).free r others marked.keeps marked.each (subst (ClosesAll c known tree old.on) (front_more T k e g) walk.closes);
      shallow = omega (arith, walk.shallow, deeper e.lit number tree);
      leaves = light_still c e.lit number tree walk.leaves;
    })
  where
    others : OthersFalse (literals (take k T)) e.lit reason
    others =
        let w = reason_of (length c.atoms) known T trail k e number g is in
        subst (OthersFalse (literals (take k T)) e.lit) (same_Some w.0 reason (sym w.1 ∙ r)) w.3

    levels : IsLevel T old → IsLevel T new
    levels h = elim h [
      | inl none ↦ inl (marked.level ∙ none.0, omega (arith, marked.lower, none.1))
      | inr d ↦ inr (d.0, marked.level ∙ d.1, d.2)
    ]

-- ---- for the code

none_on : (n a : ℕ) → is_on (replicate n false) a ≡ false
none_on zero a = refl
none_on (suc n) zero = refl
none_on (suc n) (suc a) = none_on n a

fresh_law : (n : ℕ) (T : List Entry) (m : Marks) (k : ℕ) → m.on ≡ replicate n false → AreRanked T k m.ranks → length T ≤ k → m.level ≡ 0 → m.lowest ≡ 0
    → AreFresh n T m
fresh_law n T m k on ranked past level lowest = record {
  sized = ap (λ (o : List Bool). length o) on ∙ length-replicate n false;
  off = λ a. ap (λ (o : List Bool). is_on o a) on ∙ none_on n a;
  ranked = record {
    each = λ j e less g. ranked.each j e (omega arith) g;
    only = λ a j is. let r = ranked.only a j is in (r.0, r.1, r.2, slice_get_within T j r.0 r.1);
  };
  level = level;
  lowest = lowest;
}

pub started : (n : ℕ) (trail : List Assigned) (on : List Bool) (ranks : List ℕ) (k : ℕ) → on ≡ replicate n false → AreRanked (entries trail) k ranks → length trail ≤ k → AreFresh n (entries trail) (record { on = on; ranks = ranks; level = 0; lowest = 0 })
started n trail on ranks k is ranked past =
    fresh_law n (entries trail) (record { on = on; ranks = ranks; level = 0; lowest = 0 }) k is ranked (omega (arith, length-map trail entry)) refl refl

pub ranked_next : (n : ℕ) (T : List Entry) (ranks new : List ℕ) (k : ℕ) (e : Entry) → AreApart n T → length ranks ≡ n → slice_get T k ≡ Some e
    → AreRanked T k ranks → new ≡ slice_set ranks e.lit.atom (k + 1) → (length new ≡ n) × AreRanked T (k + 1) new
ranked_next n T ranks new k e apart sized g ranked is =
    (ap (λ (rs : List ℕ). length rs) is ∙ length-set ranks e.lit.atom (k + 1) ∙ sized, subst (AreRanked T (k + 1)) (sym is) (ranked_more n T ranks k e apart sized g ranked))

pub start_false : (c : Rows) (known : List (List Lit)) (path lits : List Lit) (number : ℕ) → IsFalseStart c known path (Clause number)
    → slice_get known number ≡ Some lits → IsFalseOn path lits
start_false c known path lits number start g = subst (IsFalseOn path) (same_Some start.0 lits (sym start.1 ∙ g)) start.2

pub start_below : (c : Rows) (known : List (List Lit)) (T : List Entry) (m : Marks) (lits : List Lit) (number : ℕ) → IsTrail (length c.atoms) known T
    → AreFresh (length c.atoms) T m → IsFalseStart c known (literals T) (Clause number) → slice_get known number ≡ Some lits → Below (length m.on) lits
start_below c known T m lits number trail fresh start g =
    subst (λ (n : ℕ). Below n lits) (sym fresh.sized) (below_false (length c.atoms) T lits (trail_apart (length c.atoms) known T trail) (start_false c known (literals T) lits number start g))

pub clash_below : (c : Rows) (known : List (List Lit)) (T : List Entry) (m : Marks) (parts slice : List Part) → IsTrail (length c.atoms) known T
    → AreFresh (length c.atoms) T m → IsContradiction c (literals T) parts → slice ≡ parts → Below (length m.on) (map (λ p. p.lit) slice)
clash_below c known T m parts slice trail fresh against is =
    subst (λ (n : ℕ). Below n (map (λ p. p.lit) slice)) (sym fresh.sized) (subst (λ (ps : List Part). Below (length c.atoms) (map (λ p. p.lit) ps)) (sym is) (below_parts (length c.atoms) c T parts (trail_apart (length c.atoms) known T trail) against.rows))

none_negative : (c : Rows) (path : List Lit) (ps : List Part) → ArePartsOf c path ps → NoneNegative ps
none_negative c path [] parts = tt
none_negative c path (p ∷ ps) parts = (parts.2, none_negative c path ps parts.3)

pub clash_mults : (c : Rows) (path : List Lit) (parts slice : List Part) → IsContradiction c path parts → slice ≡ parts → NoneNegative slice
clash_mults c path parts slice against is = subst NoneNegative (sym is) (none_negative c path parts against.rows)

pub begun_clash : (c : Rows) (known : List (List Lit)) (T : List Entry) (old new : Marks) (tree : Tree) (parts slice : List Part)
    → AreFresh (length c.atoms) T old → IsFalseStart c known (literals T) (Clash parts) → slice ≡ parts → AreWithin slice
    → AreMarked old (map (λ p. p.lit) slice) new → tree ≡ farkas parts → IsBegun c known T new tree
begun_clash c known T old new tree parts slice fresh start is within marked made =
    begun_sums c known T old new tree parts fresh start.0 start.1 start.2 (subst AreWithin is within) (subst (λ (ps : List Part). AreMarked old (map (λ p. p.lit) ps) new) is marked) made

pub step_known : (n : ℕ) (known : List (List Lit)) (T : List Entry) → IsTrail n known T → (k : ℕ) (e : Entry) (number : ℕ) → slice_get T k ≡ Some e
    → e.by ≡ Some number → number < length known
step_known n known T trail k e number g is = let w = reason_of n known T trail k e number g is in slice_get_within known number w.0 w.1

pub step_below : (c : Rows) (known : List (List Lit)) (T : List Entry) (m : Marks) (k : ℕ) (e : Entry) (number : ℕ) (reason : List Lit)
    → IsTrail (length c.atoms) known T → length m.on ≡ length c.atoms → slice_get T k ≡ Some e → e.by ≡ Some number → slice_get known number ≡ Some reason
    → Below (length m.on) reason
step_below c known T m k e number reason trail sized g is r =
    let w = reason_of (length c.atoms) known T trail k e number g is in
    subst (λ (n : ℕ). Below n reason) (sym sized) (below_others (length c.atoms) T k e reason (trail_apart (length c.atoms) known T trail) g (subst (OthersFalse (literals (take k T)) e.lit) (same_Some w.0 reason (sym w.1 ∙ r)) w.3))

-- the clause with the literal of one entry more
pub clause_with : (on : List Bool) (T : List Entry) (k : ℕ) (e : Entry) (clause : List Lit) → slice_get T k ≡ Some e → is_on on e.lit.atom ≡ true
    → clause ≡ map negation (held on (literals (take k T))) → clause ++ negation e.lit ∷ [] ≡ map negation (held on (literals (take (k + 1) T)))
clause_with on T k e made g is so_far =
    ap (λ (ls : List Lit). ls ++ negation e.lit ∷ []) so_far ∙ sym (ap (λ (ls : List Lit). map negation (held on ls)) (front_more T k e g) ∙ ap (map negation) (held-push on (literals (take k T)) e.lit true is) ∙ map-append negation (held on (literals (take k T))) (e.lit ∷ []))

pub clause_without : (on : List Bool) (T : List Entry) (k : ℕ) (e : Entry) (clause : List Lit) → slice_get T k ≡ Some e → is_on on e.lit.atom ≡ false
    → clause ≡ map negation (held on (literals (take k T))) → clause ≡ map negation (held on (literals (take (k + 1) T)))
clause_without on T k e made g is so_far =
    so_far ∙ sym (ap (λ (ls : List Lit). map negation (held on ls)) (front_more T k e g) ∙ ap (map negation) (held-push on (literals (take k T)) e.lit false is ∙ append-nil (held on (literals (take k T)))))

pub whole_trail : (trail : List Assigned) (on : List Bool) (last : ℕ) → IsLastOn (entries trail) on (length trail) last
    → IsLastOn (entries trail) on (length (entries trail)) last
whole_trail trail on last top = subst (λ (n : ℕ). IsLastOn (entries trail) on n last) (sym (length-map trail entry)) top
