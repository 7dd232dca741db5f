-- Atoms that are turned on.
use Rattle.std.proofs.Common.{◌≡◌, ℕ, zero, suc, ◌+◌, ◌<◌, ◌≤◌, ◌⊎◌, Bool, true, false, List, [], ◌∷◌, ◌++◌, map, length, take, slice_get, slice_set, slice_index, Some, refl, sym, ◌∙◌, ap, subst, inl, inr, arith, option_map, pos, ◌≤ℤ◌, unsigned_abs, ◌^◌, ℤ, FitsSigned}
use Rattle.std.specs.Int.{w128}
use Rattle.std.proofs.lemmas.Bool.{cases_eq}
use Rattle.std.proofs.lemmas.Int.{ints}
use Rattle.std.proofs.lemmas.List.{get_or-set_same, get_or-set_other, length-set, take_all, take_more}
use Rattle.std.proofs.lemmas.Option.{get_or_from_slice_get, slice_get-map, slice_get_within}
use Rattle.farkas_cert.specs.declared.literals.Lit.{Lit}
use Rattle.farkas_cert.specs.declared.trees.Part.{Part}
use Rattle.clause_form.specs.WellFormed.{Below}
use Rattle.learned_clause.specs.LightTrees.{AreWithin}
use Rattle.learned_clause.specs.Resolvents.{AreMarked, IsLower, IsLowest, IsMarked, NoneNegative, is_on}
use Rattle.learned_clause.specs.declared.marks.Marks.{Marks}
use Rattle.learned_clause.proofs.MemberLaws.{Has-push, HasAtom-front, HasAtom-last}

on-same : (on : List Bool) (atom : ℕ) → atom < length on → is_on (slice_set on atom true) atom ≡ true
on-same on atom less = get_or-set_same on atom true false less

on-other : (on : List Bool) (atom a : ℕ) → (a ≡ atom → ⊥) → is_on (slice_set on atom true) a ≡ is_on on a
on-other on atom a differs = get_or-set_other on atom a true false differs

-- ---- one atom

marked_keeps : (old : Marks) (atom : ℕ) (new : Marks) → IsMarked old atom new → atom < length old.on → (a : ℕ) → is_on old.on a ≡ true → is_on new.on a ≡ true
marked_keeps old atom new m less a is = elim (cases_eq a atom) [
  | inl same ↦ ap (λ (on : List Bool). is_on on a) m.on ∙ subst (λ (b : ℕ). is_on (slice_set old.on atom true) b ≡ true) (sym same) (on-same old.on atom less)
  | inr differs ↦ ap (λ (on : List Bool). is_on on a) m.on ∙ on-other old.on atom a differs ∙ is
]

marked_here : (old : Marks) (atom : ℕ) (new : Marks) → IsMarked old atom new → atom < length old.on → is_on new.on atom ≡ true
marked_here old atom new m less = ap (λ (on : List Bool). is_on on atom) m.on ∙ on-same old.on atom less

marked_only : (old : Marks) (atom : ℕ) (new : Marks) → IsMarked old atom new → (a : ℕ) → is_on new.on a ≡ true → (is_on old.on a ≡ true) ⊎ (atom ≡ a)
marked_only old atom new m a is = elim (cases_eq a atom) [
  | inl same ↦ inr (sym same)
  | inr differs ↦ inl (sym (on-other old.on atom a differs) ∙ ap (λ (on : List Bool). is_on on a) (sym m.on) ∙ is)
]

lower_least : (level lowest rank new : ℕ) → IsLower level lowest rank new → new ≤ lowest
lower_least level lowest rank new h = elim h [ inl s ↦ omega (arith, s.0) | inr s ↦ omega (arith, s.0, s.2) ]

lower_counts : (level lowest rank new : ℕ) → IsLower level lowest rank new → level ≤ rank → new ≤ rank
lower_counts level lowest rank new h counts = elim h [ inl s ↦ omega (arith, s.0, s.1 counts) | inr s ↦ omega (arith, s.0) ]

lower_level : (level lowest rank new : ℕ) → IsLower level lowest rank new → level ≤ lowest → level ≤ new
lower_level level lowest rank new h above = elim h [ inl s ↦ omega (arith, s.0) | inr s ↦ omega (arith, s.0, s.1) ]

marked_lowest : (old : Marks) (atom : ℕ) (new : Marks) → IsMarked old atom new → atom < length old.on → IsLowest old → IsLowest new
marked_lowest old atom new m less low = record {
  least = λ a is counts. least a is counts;
  reached = reached;
  level = subst (λ (n : ℕ). n ≤ new.lowest) (sym m.level) (lower_level old.level old.lowest (slice_index old.ranks atom) new.lowest m.lowest low.level);
}
  where
    rank_same : (a : ℕ) → slice_index new.ranks a ≡ slice_index old.ranks a
    rank_same a = ap (λ (ranks : List ℕ). slice_index ranks a) m.ranks

    least : (a : ℕ) → is_on new.on a ≡ true → new.level ≤ slice_index new.ranks a → new.lowest ≤ slice_index new.ranks a
    least a is counts =
        let same = rank_same a in
        let still : old.level ≤ slice_index old.ranks a = omega (arith, same, m.level) in
        elim (marked_only old atom new m a is) [
          | inl was ↦ omega (arith, same, lower_least old.level old.lowest (slice_index old.ranks atom) new.lowest m.lowest, low.least a was still)
          | inr here ↦ omega (arith, same, subst (λ (b : ℕ). new.lowest ≤ slice_index old.ranks b) here (lower_counts old.level old.lowest (slice_index old.ranks atom) new.lowest m.lowest (subst (λ (b : ℕ). old.level ≤ slice_index old.ranks b) (sym here) still)))
        ]

    stays : new.lowest ≡ old.lowest → (new.lowest ≡ 0) ⊎ ((a : ℕ) × (is_on new.on a ≡ true) × (slice_index new.ranks a ≡ new.lowest))
    stays e = elim low.reached [
      | inl none ↦ inl (e ∙ none)
      | inr r ↦ inr (r.0, marked_keeps old atom new m less r.0 r.1, rank_same r.0 ∙ r.2 ∙ sym e)
    ]

    reached : (new.lowest ≡ 0) ⊎ ((a : ℕ) × (is_on new.on a ≡ true) × (slice_index new.ranks a ≡ new.lowest))
    reached = elim m.lowest [ inl s ↦ stays s.0 | inr s ↦ inr (atom, marked_here old atom new m less, rank_same atom ∙ sym s.0) ]

-- ---- some literals

pub marked_none : (m : Marks) → AreMarked m [] m
marked_none m = record {
  sized = refl;
  ranks = refl;
  level = refl;
  lowest = λ h. h;
  lower = omega arith;
  keeps = λ a is. is;
  each = λ l h. absurd h;
  only = λ a is. inl is;
}

pub marked_more : (old now new : Marks) (lits : List Lit) (l : Lit) → l.atom < length old.on → AreMarked old lits now → IsMarked now l.atom new
    → AreMarked old (lits ++ l ∷ []) new
marked_more old now new lits l less all m = record {
  sized = ap (λ (on : List Bool). length on) m.on ∙ length-set now.on l.atom true ∙ all.sized;
  ranks = m.ranks ∙ all.ranks;
  level = m.level ∙ all.level;
  lowest = λ h. marked_lowest now l.atom new m within (all.lowest h);
  lower = omega (arith, lower_least now.level now.lowest (slice_index now.ranks l.atom) new.lowest m.lowest, all.lower);
  keeps = λ a is. marked_keeps now l.atom new m within a (all.keeps a is);
  each = λ x h. elim (Has-push x l lits h) [
    | inl t ↦ marked_keeps now l.atom new m within x.atom (all.each x t)
    | inr e ↦ subst (λ (y : Lit). is_on new.on y.atom ≡ true) (sym e) (marked_here now l.atom new m within)
  ];
  only = λ a is. elim (marked_only now l.atom new m a is) [
    | inl was ↦ elim (all.only a was) [ inl first ↦ inl first | inr h ↦ inr (HasAtom-front a lits (l ∷ []) h) ]
    | inr e ↦ inr (HasAtom-last a l lits e)
  ];
}
  where
    within : l.atom < length now.on
    within = omega (arith, all.sized)

pub below_at : (n : ℕ) (lits : List Lit) (k : ℕ) (l : Lit) → Below n lits → slice_get lits k ≡ Some l → l.atom < n
below_at n [] k l below g = absurd (cc)
below_at n (x ∷ xs) zero l below g = let e : x ≡ l = cc in subst (λ (m : Lit). m.atom < n) e below.0
below_at n (x ∷ xs) (suc k) l below g = below_at n xs k l below.1 g

-- ---- a loop over literals

pub take_next : {X : Type 0} (xs : List X) (k : ℕ) (x : X) → slice_get xs k ≡ Some x → take (k + 1) xs ≡ take k xs ++ x ∷ []
take_next {X} xs k x g = take_more xs k x (slice_get_within xs k x g) ∙ ap (λ (y : X). take k xs ++ y ∷ []) (get_or_from_slice_get xs k x x g)

pub marks_room : (old now : Marks) (done lits : List Lit) (k : ℕ) (l : Lit) → AreMarked old done now → Below (length old.on) lits
    → slice_get lits k ≡ Some l → l.atom < length now.on
marks_room old now done lits k l marked below g = let h = below_at (length old.on) lits k l below g in omega (arith, marked.sized)

pub marks_next : (old now new : Marks) (lits : List Lit) (k : ℕ) (l : Lit) → Below (length old.on) lits → slice_get lits k ≡ Some l
    → AreMarked old (take k lits) now → IsMarked now l.atom new → AreMarked old (take (k + 1) lits) new
marks_next old now new lits k l below g marked m =
    subst (λ (ls : List Lit). AreMarked old ls new) (sym (take_next lits k l g)) (marked_more old now new (take k lits) l (below_at (length old.on) lits k l below g) marked m)

pub marks_all : (old now : Marks) (lits : List Lit) (k : ℕ) → length lits ≤ k → AreMarked old (take k lits) now → AreMarked old lits now
marks_all old now lits k past marked = subst (λ (ls : List Lit). AreMarked old ls now) (take_all k lits past) marked

-- ---- and over parts

abbrev pub part_lit : Part → Lit
part_lit p = p.lit

pub part_at : (parts : List Part) (k : ℕ) (p : Part) → slice_get parts k ≡ Some p → slice_get (map part_lit parts) k ≡ Some p.lit
part_at parts k p g = slice_get-map part_lit parts k ∙ ap (option_map part_lit) g

within_push : (ps : List Part) (p : Part) → AreWithin ps → unsigned_abs p.mult < 2 ^ 127 → AreWithin (ps ++ p ∷ [])
within_push [] p within small = (small, tt)
within_push (q ∷ qs) p within small = (within.0, within_push qs p within.1 small)

pub within_next : (ps : List Part) (k : ℕ) (p : Part) → slice_get ps k ≡ Some p → unsigned_abs p.mult < 2 ^ 127 → AreWithin (take k ps)
    → AreWithin (take (k + 1) ps)
within_next ps k p g small within = subst AreWithin (sym (take_next ps k p g)) (within_push (take k ps) p within small)

pub within_all : (ps : List Part) (k : ℕ) → length ps ≤ k → AreWithin (take k ps) → AreWithin ps
within_all ps k past within = subst AreWithin (take_all k ps past) within

pub negative_at : (ps : List Part) (k : ℕ) (p : Part) → NoneNegative ps → slice_get ps k ≡ Some p → pos 0 ≤ℤ p.mult
negative_at [] k p none g = absurd (cc)
negative_at (q ∷ qs) zero p none g = let e : q ≡ p = cc in subst (λ (r : Part). pos 0 ≤ℤ r.mult) e none.0
negative_at (q ∷ qs) (suc k) p none g = negative_at qs k p none.1 g

-- a multiplier of the code fits 128 bits
pub small_mult : (z : ℤ) → FitsSigned w128 z → pos 0 ≤ℤ z → unsigned_abs z < 2 ^ 127
small_mult z fits above = omega (arith, ints)
