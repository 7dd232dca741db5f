-- Which limits are in force once one more is put, and what follows from their order.
use Rattle.std.proofs.Common.{◌≡◌, ℕ, Bool, true, false, not, ◌&&◌, cond, eqb, List, [], ◌∷◌, ◌++◌, map, Option, None, Some, option_map, ◌⊎◌, inl, inr, refl, sym, ap, subst, ◌∙◌}
use Rattle.std.specs.Option.{IfSome, IsSomeAnd}
use Rattle.std.proofs.lemmas.Bool.{eqb-true, eq-eqb, ne_eqb}
use Rattle.std.proofs.lemmas.List.{append-nil, append_assoc}
use Rattle.ordered_field.specs.Rational.{ℚ}
use Rattle.ordered_field.specs.Delta.{DeltaValue, delta_value, delta_at_most, ◌≤δ◌, ◌<δ◌}
use Rattle.ordered_field.specs.declared.delta.Delta.{Delta}
use Rattle.ordered_field.proofs.DeltaOrder.{≤δ_refl, ≤δ_trans, <δ-≤δ, <δ_from_not_≥, <δ-not_≥}
use Rattle.simplex.specs.declared.limits.Limit.{Limit}
use Rattle.simplex.specs.Limits.{limit_value, concerns, last_of, in_force, IsTooLow, IsTooHigh, IsWithin, IsMet, IsMetOn, IsImplied, IsNoStronger, Contradicts, Excludes, AreOrderly}

-- ---- the order

at_most_by : (x y : DeltaValue) (s : Bool) → delta_at_most x y ≡ s → (y <δ x → ⊥) → x ≤δ y
at_most_by x y true e n = e
at_most_by x y false e n = absurd (n e)

pub ≤δ_from_not_> : (x y : DeltaValue) → (y <δ x → ⊥) → x ≤δ y
≤δ_from_not_> x y n = at_most_by x y (delta_at_most x y) refl n

-- ---- which limits a limit concerns

both_true : (s t : Bool) → (s && t) ≡ true → (s ≡ true) × (t ≡ true)
both_true true true e = (refl, refl)
both_true true false e = absurd (cc)
both_true false t e = absurd (cc)

same_side : (u w : Bool) → cond u w (not w) ≡ true → w ≡ u
same_side true true e = refl
same_side true false e = e
same_side false true e = absurd (cc)
same_side false false e = refl

side_same : (u : Bool) → cond u u (not u) ≡ true
side_same true = refl
side_same false = refl

pub concerns-true : {N : Type 0} (u : Bool) (v : ℕ) (l : Limit N) → concerns u v l ≡ true → (l.upper ≡ u) × (v ≡ l.var)
concerns-true u v l e =
    let both = both_true (cond u l.upper (not l.upper)) (eqb v l.var) e in
    (same_side u l.upper both.0, eqb-true v l.var both.1)

pub concerns_own : {N : Type 0} (l : Limit N) → concerns l.upper l.var l ≡ true
concerns_own l = ap (λ s. s && eqb l.var l.var) (side_same l.upper) ∙ eq-eqb l.var l.var refl

-- ---- one more limit

pub last_of-append : {N : Type 0} (u : Bool) (v : ℕ) (before : Option (Limit N)) (ls : List (Limit N)) (l : Limit N) → last_of u v before (ls ++ l ∷ []) ≡ cond (concerns u v l) (Some l) (last_of u v before ls)
last_of-append u v before [] l = refl
last_of-append u v before (m ∷ ms) l = last_of-append u v (cond (concerns u v m) (Some m) before) ms l

pub in_force-append : {N : Type 0} (u : Bool) (v : ℕ) (ls : List (Limit N)) (l : Limit N) → in_force u v (ls ++ l ∷ []) ≡ cond (concerns u v l) (Some l) (in_force u v ls)
unfolding in_force
in_force-append u v ls l = last_of-append u v None ls l

pub in_force-here : {N : Type 0} (u : Bool) (v : ℕ) (ls : List (Limit N)) (l : Limit N) → concerns u v l ≡ true → in_force u v (ls ++ l ∷ []) ≡ Some l
in_force-here u v ls l e = in_force-append u v ls l ∙ ap (λ b. cond b (Some l) (in_force u v ls)) e

pub in_force-there : {N : Type 0} (u : Bool) (v : ℕ) (ls : List (Limit N)) (l : Limit N) → concerns u v l ≡ false → in_force u v (ls ++ l ∷ []) ≡ in_force u v ls
in_force-there u v ls l e = in_force-append u v ls l ∙ ap (λ b. cond b (Some l) (in_force u v ls)) e

pub concerns_either : {N : Type 0} (u : Bool) (v : ℕ) (l : Limit N) → (concerns u v l ≡ true) ⊎ (concerns u v l ≡ false)
concerns_either u v l = by (concerns u v l)
  where
    by : (b : Bool) → (b ≡ true) ⊎ (b ≡ false)
    by true = inl refl
    by false = inr refl

-- ---- what a limit in force is

some_of : {N : Type 0} (b : Bool) (m l : Limit N) (before : Option (Limit N)) → cond b (Some m) before ≡ Some l → ((b ≡ true) × (m ≡ l)) ⊎ (before ≡ Some l)
some_of true m l before e = inl (refl, cc)
some_of false m l before e = inr e

pub last_of-fact : {N : Type 0} (u : Bool) (v : ℕ) (Q : Limit N → Type 0) → ((m : Limit N) → concerns u v m ≡ true → Q m) → (before : Option (Limit N)) → ((m : Limit N) → before ≡ Some m → Q m) → (ls : List (Limit N)) (l : Limit N) → last_of u v before ls ≡ Some l → Q l
last_of-fact u v Q each before first [] l e = first l e
last_of-fact u v Q each before first (m ∷ ms) l e =
    last_of-fact u v Q each (cond (concerns u v m) (Some m) before) (λ k h. by k (some_of (concerns u v m) m k before h)) ms l e
  where
    by : (k : Limit _) → ((concerns u v m ≡ true) × (m ≡ k)) ⊎ (before ≡ Some k) → Q k
    by k (inl h) = subst Q h.1 (each m h.0)
    by k (inr h) = first k h

pub in_force-side : {N : Type 0} (u : Bool) (v : ℕ) (ls : List (Limit N)) (l : Limit N) → in_force u v ls ≡ Some l → (l.upper ≡ u) × (v ≡ l.var)
unfolding in_force
in_force-side u v ls l e =
    last_of-fact u v (λ m. (m.upper ≡ u) × (v ≡ m.var)) (λ m h. concerns-true u v m h) None (λ m h. absurd (cc)) ls l e

-- ---- limits of the code, and what they mean

option_map-cond : {A B : Type 0} (f : A → B) (b : Bool) (x : A) (o : Option A) → option_map f (cond b (Some x) o) ≡ cond b (Some (f x)) (option_map f o)
option_map-cond f true x o = refl
option_map-cond f false x o = refl

last_of-map : {F : Type 0} (value : F → ℚ) (u : Bool) (v : ℕ) (before : Option (Limit (Delta F))) (ls : List (Limit (Delta F))) → option_map (limit_value value) (last_of u v before ls) ≡ last_of u v (option_map (limit_value value) before) (map (limit_value value) ls)
last_of-map value u v before [] = refl
last_of-map value u v before (l ∷ ls) =
    last_of-map value u v (cond (concerns u v l) (Some l) before) ls
    ∙ ap (λ b. last_of u v b (map (limit_value value) ls)) (option_map-cond (limit_value value) (concerns u v l) l before)

pub in_force-map : {F : Type 0} (value : F → ℚ) (u : Bool) (v : ℕ) (ls : List (Limit (Delta F))) → option_map (limit_value value) (in_force u v ls) ≡ in_force u v (map (limit_value value) ls)
unfolding in_force
in_force-map value u v ls = last_of-map value u v None ls

-- ---- limits in order

-- no two limits in force of v contradict
Agree : ℕ → List (Limit DeltaValue) → Type 0
Agree v ls = (l h : Limit DeltaValue) → in_force false v ls ≡ Some l → in_force true v ls ≡ Some h → l.at ≤δ h.at

is_some_and : {A : Type 0} (P : A → Type 0) (o : Option A) (x : A) → o ≡ Some x → P x → IsSomeAnd o P
is_some_and P o x e h = subst (λ o'. IsSomeAnd o' P) (sym e) h

some_injective : {A : Type 0} (x y : A) (o : Option A) → o ≡ Some x → o ≡ Some y → x ≡ y
some_injective x y o e f = let h : Some x ≡ Some y = sym e ∙ f in cc

-- what "contradicts none" says of the limit in force on the other side
excludes_not : (ls : List (Limit DeltaValue)) (l h : Limit DeltaValue) (u : Bool) → l.upper ≡ u → in_force (not u) l.var ls ≡ Some h → (Contradicts ls l → ⊥) → Excludes u l.at h.at → ⊥
excludes_not ls l h u side e n x =
    n (is_some_and (λ h. Excludes l.upper l.at h.at) _ h (ap (λ w. in_force (not w) l.var ls) side ∙ e) (subst (λ w. Excludes w l.at h.at) (sym side) x))

agree-append : (v : ℕ) (ls : List (Limit DeltaValue)) (l : Limit DeltaValue) → Agree v ls → (Contradicts ls l → ⊥) → Agree v (ls ++ l ∷ [])
unfolding Agree
agree-append v ls l agree n low high is_low is_high = by (concerns_either false v l) (concerns_either true v l)
  where
    by : (concerns false v l ≡ true) ⊎ (concerns false v l ≡ false) → (concerns true v l ≡ true) ⊎ (concerns true v l ≡ false) → low.at ≤δ high.at
    by (inl p) (inl q) =
        let e = (concerns-true false v l p).0 in
        let f = (concerns-true true v l q).0 in
        absurd (cc)
    by (inl p) (inr q) =
        let own = concerns-true false v l p in
        let same : l ≡ low = some_injective l low _ (in_force-here false v ls l p) is_low in
        let other : in_force true l.var ls ≡ Some high = subst (λ w. in_force true w ls ≡ Some high) own.1 (sym (in_force-there true v ls l q) ∙ is_high) in
        subst (λ m. m.at ≤δ high.at) same (≤δ_from_not_> l.at high.at (excludes_not ls l high false own.0 other n))
    by (inr p) (inl q) =
        let own = concerns-true true v l q in
        let same : l ≡ high = some_injective l high _ (in_force-here true v ls l q) is_high in
        let other : in_force false l.var ls ≡ Some low = subst (λ w. in_force false w ls ≡ Some low) own.1 (sym (in_force-there false v ls l p) ∙ is_low) in
        subst (λ m. low.at ≤δ m.at) same (≤δ_from_not_> low.at l.at (excludes_not ls l low true own.0 other n))
    by (inr p) (inr q) =
        agree low high (sym (in_force-there false v ls l p) ∙ is_low) (sym (in_force-there true v ls l q) ∙ is_high)

agree-all : (v : ℕ) (before ls : List (Limit DeltaValue)) → Agree v before → AreOrderly before ls → Agree v (before ++ ls)
agree-all v before [] agree orderly = subst (λ ks. Agree v ks) (sym (append-nil before)) agree
agree-all v before (l ∷ ls) agree orderly =
    subst (λ ks. Agree v ks) (append_assoc before (l ∷ []) ls) (agree-all v (before ++ l ∷ []) ls (agree-append v before l agree orderly.1) orderly.2)

-- a lower limit in force is at most the upper one
pub orderly_agree : (v : ℕ) (ls : List (Limit DeltaValue)) (l h : Limit DeltaValue) → AreOrderly [] ls → in_force false v ls ≡ Some l → in_force true v ls ≡ Some h → l.at ≤δ h.at
unfolding Agree in_force
orderly_agree v ls l h orderly is_low is_high = agree-all v [] ls (λ a b none _. absurd (cc)) orderly l h is_low is_high

pub AreOrderly-append : (before ls : List (Limit DeltaValue)) (l : Limit DeltaValue) → AreOrderly before ls → (IsImplied (before ++ ls) l → ⊥) → (Contradicts (before ++ ls) l → ⊥) → AreOrderly before (ls ++ l ∷ [])
AreOrderly-append before [] l orderly n m =
    (subst (λ ks. IsImplied ks l → ⊥) (append-nil before) n, subst (λ ks. Contradicts ks l → ⊥) (append-nil before) m, tt)
AreOrderly-append before (k ∷ ks) l orderly n m =
    (orderly.0, orderly.1, AreOrderly-append (before ++ k ∷ []) ks l orderly.2 (subst (λ xs. IsImplied xs l → ⊥) (sym (append_assoc before (k ∷ []) ks)) n) (subst (λ xs. Contradicts xs l → ⊥) (sym (append_assoc before (k ∷ []) ks)) m))

pub AreOrderly-first : (before ls ms : List (Limit DeltaValue)) → AreOrderly before (ls ++ ms) → AreOrderly before ls
AreOrderly-first before [] ms orderly = tt
AreOrderly-first before (l ∷ ls) ms orderly = (orderly.0, orderly.1, AreOrderly-first (before ++ l ∷ []) ls ms orderly.2)

AreOrderly-last : (before ls ms : List (Limit DeltaValue)) → AreOrderly before (ls ++ ms) → AreOrderly (before ++ ls) ms
AreOrderly-last before [] ms orderly = subst (λ ks. AreOrderly ks ms) (sym (append-nil before)) orderly
AreOrderly-last before (l ∷ ls) ms orderly =
    subst (λ ks. AreOrderly ks ms) (append_assoc before (l ∷ []) ls) (AreOrderly-last (before ++ l ∷ []) ls ms orderly.2)

-- ---- within

if_some : {A : Type 0} (P : A → Type 0) (o : Option A) → ((x : A) → o ≡ Some x → P x) → IfSome o P
if_some P None each = tt
if_some P (Some x) each = each x refl

pub if_some-at : {A : Type 0} (P : A → Type 0) (o : Option A) (x : A) → o ≡ Some x → IfSome o P → P x
if_some-at P o x e h = subst (λ o'. IfSome o' P) e h

-- what "not implied" says of the limit in force on its side
stronger : (ls : List (Limit DeltaValue)) (l h : Limit DeltaValue) (u : Bool) → l.upper ≡ u → in_force u l.var ls ≡ Some h → (IsImplied ls l → ⊥) → IsNoStronger u l.at h.at → ⊥
stronger ls l h u side e n x =
    n (is_some_and (λ h. IsNoStronger l.upper l.at h.at) _ h (ap (λ w. in_force w l.var ls) side ∙ e) (subst (λ w. IsNoStronger w l.at h.at) (sym side) x))

within-one_less : (ls : List (Limit DeltaValue)) (l : Limit DeltaValue) (v : ℕ) (x : DeltaValue) → (IsImplied ls l → ⊥) → IsWithin (ls ++ l ∷ []) v x → IsWithin ls v x
within-one_less ls l v x n within = record {
  lower = if_some (λ m. m.at ≤δ x) _ (λ m e. low m e (concerns_either false v l));
  upper = if_some (λ m. x ≤δ m.at) _ (λ m e. high m e (concerns_either true v l));
}
  where
    low : (m : Limit DeltaValue) → in_force false v ls ≡ Some m → (concerns false v l ≡ true) ⊎ (concerns false v l ≡ false) → m.at ≤δ x
    low m e (inl p) =
        let own = concerns-true false v l p in
        let met : l.at ≤δ x = if_some-at (λ m. m.at ≤δ x) _ l (in_force-here false v ls l p) within.lower in
        let less : m.at <δ l.at = <δ_from_not_≥ m.at l.at (stronger ls l m false own.0 (subst (λ w. in_force false w ls ≡ Some m) own.1 e) n) in
        ≤δ_trans _ _ _ (<δ-≤δ _ _ less) met
    low m e (inr p) = if_some-at (λ m. m.at ≤δ x) _ m (in_force-there false v ls l p ∙ e) within.lower

    high : (m : Limit DeltaValue) → in_force true v ls ≡ Some m → (concerns true v l ≡ true) ⊎ (concerns true v l ≡ false) → x ≤δ m.at
    high m e (inl p) =
        let own = concerns-true true v l p in
        let met : x ≤δ l.at = if_some-at (λ m. x ≤δ m.at) _ l (in_force-here true v ls l p) within.upper in
        let more : l.at <δ m.at = <δ_from_not_≥ l.at m.at (stronger ls l m true own.0 (subst (λ w. in_force true w ls ≡ Some m) own.1 e) n) in
        ≤δ_trans _ _ _ met (<δ-≤δ _ _ more)
    high m e (inr p) = if_some-at (λ m. x ≤δ m.at) _ m (in_force-there true v ls l p ∙ e) within.upper

-- what is within limits in order is within the first of them
pub within-first : (ls ms : List (Limit DeltaValue)) (v : ℕ) (x : DeltaValue) → AreOrderly ls ms → IsWithin (ls ++ ms) v x → IsWithin ls v x
within-first ls [] v x orderly within = subst (λ ks. IsWithin ks v x) (append-nil ls) within
within-first ls (m ∷ ms) v x orderly within =
    within-one_less ls m v x orderly.0 (within-first (ls ++ m ∷ []) ms v x orderly.2 (subst (λ ks. IsWithin ks v x) (sym (append_assoc ls (m ∷ []) ms)) within))

pub within-undone : (ls ms : List (Limit DeltaValue)) (v : ℕ) (x : DeltaValue) → AreOrderly [] (ls ++ ms) → IsWithin (ls ++ ms) v x → IsWithin ls v x
within-undone ls ms v x orderly within = within-first ls ms v x (AreOrderly-last [] ls ms orderly) within

-- a value within its limits and within one more, where that is its own
pub within-append : (ls : List (Limit DeltaValue)) (l : Limit DeltaValue) (v : ℕ) (x : DeltaValue) → IsWithin ls v x → (v ≡ l.var → IsMet x l) → IsWithin (ls ++ l ∷ []) v x
within-append ls l v x within met = record {
  lower = if_some (λ m. m.at ≤δ x) _ (λ m e. low m e (concerns_either false v l));
  upper = if_some (λ m. x ≤δ m.at) _ (λ m e. high m e (concerns_either true v l));
}
  where
    low : (m : Limit DeltaValue) → in_force false v (ls ++ l ∷ []) ≡ Some m → (concerns false v l ≡ true) ⊎ (concerns false v l ≡ false) → m.at ≤δ x
    low m e (inl p) =
        let own = concerns-true false v l p in
        subst (λ k. k.at ≤δ x) (some_injective l m _ (in_force-here false v ls l p) e) (subst (λ w. IsMetOn w x l.at) own.0 (met own.1))
    low m e (inr p) = if_some-at (λ m. m.at ≤δ x) _ m (sym (in_force-there false v ls l p) ∙ e) within.lower

    high : (m : Limit DeltaValue) → in_force true v (ls ++ l ∷ []) ≡ Some m → (concerns true v l ≡ true) ⊎ (concerns true v l ≡ false) → x ≤δ m.at
    high m e (inl p) =
        let own = concerns-true true v l p in
        subst (λ k. x ≤δ k.at) (some_injective l m _ (in_force-here true v ls l p) e) (subst (λ w. IsMetOn w x l.at) own.0 (met own.1))
    high m e (inr p) = if_some-at (λ m. x ≤δ m.at) _ m (sym (in_force-there true v ls l p) ∙ e) within.upper

-- a variable that moved to a new limit is within all
pub within-at : (ls : List (Limit DeltaValue)) (l : Limit DeltaValue) → (Contradicts ls l → ⊥) → IsWithin (ls ++ l ∷ []) l.var l.at
within-at ls l n = record {
  lower = if_some (λ m. m.at ≤δ l.at) _ (λ m e. low m e (concerns_either false l.var l));
  upper = if_some (λ m. l.at ≤δ m.at) _ (λ m e. high m e (concerns_either true l.var l));
}
  where
    side : (u : Bool) → concerns u l.var l ≡ false → l.upper ≡ not u
    side true p = by l.upper refl
      where
        by : (w : Bool) → l.upper ≡ w → l.upper ≡ false
        by true e = absurd (let h : concerns true l.var l ≡ true = subst (λ w. concerns w l.var l ≡ true) e (concerns_own l) in cc)
        by false e = e
    side false p = by l.upper refl
      where
        by : (w : Bool) → l.upper ≡ w → l.upper ≡ true
        by true e = e
        by false e = absurd (let h : concerns false l.var l ≡ true = subst (λ w. concerns w l.var l ≡ true) e (concerns_own l) in cc)

    low : (m : Limit DeltaValue) → in_force false l.var (ls ++ l ∷ []) ≡ Some m → (concerns false l.var l ≡ true) ⊎ (concerns false l.var l ≡ false) → m.at ≤δ l.at
    low m e (inl p) = subst (λ k. k.at ≤δ l.at) (some_injective l m _ (in_force-here false l.var ls l p) e) (≤δ_refl l.at)
    low m e (inr p) = ≤δ_from_not_> m.at l.at (excludes_not ls l m true (side false p) (sym (in_force-there false l.var ls l p) ∙ e) n)

    high : (m : Limit DeltaValue) → in_force true l.var (ls ++ l ∷ []) ≡ Some m → (concerns true l.var l ≡ true) ⊎ (concerns true l.var l ≡ false) → l.at ≤δ m.at
    high m e (inl p) = subst (λ k. l.at ≤δ k.at) (some_injective l m _ (in_force-here true l.var ls l p) e) (≤δ_refl l.at)
    high m e (inr p) = ≤δ_from_not_> l.at m.at (excludes_not ls l m false (side true p) (sym (in_force-there true l.var ls l p) ∙ e) n)

-- a basic variable that stands at a violated limit is within both
pub within-limit : (ls : List (Limit DeltaValue)) (u : Bool) (v : ℕ) (l : Limit DeltaValue) → AreOrderly [] ls → in_force u v ls ≡ Some l → IsWithin ls v l.at
within-limit ls true v l orderly e = record {
  lower = if_some (λ m. m.at ≤δ l.at) _ (λ m h. orderly_agree v ls m l orderly h e);
  upper = if_some (λ m. l.at ≤δ m.at) _ (λ m h. subst (λ k. l.at ≤δ k.at) (some_injective l m _ e h) (≤δ_refl l.at));
}
within-limit ls false v l orderly e = record {
  lower = if_some (λ m. m.at ≤δ l.at) _ (λ m h. subst (λ k. k.at ≤δ l.at) (some_injective l m _ e h) (≤δ_refl l.at));
  upper = if_some (λ m. l.at ≤δ m.at) _ (λ m h. orderly_agree v ls l m orderly e h);
}
