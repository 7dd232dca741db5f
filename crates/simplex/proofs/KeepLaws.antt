-- How limits are kept once one more is put, and once the last is taken back.
use Rattle.std.proofs.Common.{◌≡◌, ℕ, zero, suc, ◌+◌, ◌<◌, ◌^◌, Bool, true, false, not, ◌&&◌, eqb, List, [], ◌∷◌, ◌++◌, map, length, get_or, Option, None, Some, slice_get, ◌⊎◌, inl, inr, refl, sym, ap, subst, ◌∙◌, arith}
use Rattle.std.proofs.Math.ListN.{set}
use Rattle.std.proofs.lemmas.Bool.{eq-eqb, ne_eqb}
use Rattle.std.proofs.lemmas.List.{append-nil, append_assoc, length-append, map-append, length-set, get_or-set_same, get_or-set_other}
use Rattle.std.proofs.lemmas.Option.{slice_get-get_or}
use Rattle.field_rows.proofs.SumLaws.{same_or_apart}
use Rattle.ordered_field.specs.declared.delta.Delta.{Delta}
use Rattle.simplex.specs.declared.limits.Limit.{Limit}
use Rattle.simplex.specs.declared.limits.Sides.{Sides}
use Rattle.simplex.specs.declared.limits.Put.{Put}
use Rattle.simplex.specs.Limits.{concerns, in_force}
use Rattle.simplex.specs.Keeping.{limits_of, side_of, with_side, sides_at, AreUndoable, AreKept}
use Rattle.simplex.proofs.LimitLaws.{in_force-append, in_force-here, in_force-there, concerns_own}

-- ---- lists

pub slice_get-set_same : {A : Type 0} (xs : List A) (i k : ℕ) (y : A) → k ≡ i → i < length xs → slice_get (set xs i y) k ≡ Some y
slice_get-set_same xs i k y e within =
    ap (λ n. slice_get (set xs i y) n) e ∙ slice_get-get_or (set xs i y) i y (omega (arith, length-set xs i y)) ∙ ap Some (get_or-set_same xs i y y within)

pub slice_get-set_other : {A : Type 0} (xs : List A) (i k : ℕ) (y : A) → (k ≡ i → ⊥) → k < length xs → slice_get (set xs i y) k ≡ slice_get xs k
slice_get-set_other xs i k y apart within =
    slice_get-get_or (set xs i y) k y (omega (arith, length-set xs i y)) ∙ ap Some (get_or-set_other xs i k y y apart) ∙ sym (slice_get-get_or xs k y within)

pub limits_of-append : {F : Type 0} (puts : List (Put F)) (p : Put F) → limits_of (puts ++ p ∷ []) ≡ limits_of puts ++ p.limit ∷ []
limits_of-append puts p = map-append (λ q. q.limit) puts (p ∷ [])

pub length-limits_of : {F : Type 0} (puts : List (Put F)) → length (limits_of puts) ≡ length puts
length-limits_of [] = refl
length-limits_of (p ∷ ps) = ap suc (length-limits_of ps)

-- ---- the limits in force of a variable

same_sides : {F : Type 0} (s t : Sides F) → s.lower ≡ t.lower → s.upper ≡ t.upper → s ≡ t
same_sides s t e f = λ i. record { lower = e i; upper = f i }

false_and : (b : Bool) → (b && false) ≡ false
false_and true = refl
false_and false = refl

concerns-apart : {N : Type 0} (u : Bool) (v : ℕ) (l : Limit N) → (v ≡ l.var → ⊥) → concerns u v l ≡ false
concerns-apart true v l n = ap (λ b. l.upper && b) (ne_eqb v l.var n) ∙ false_and l.upper
concerns-apart false v l n = ap (λ b. not l.upper && b) (ne_eqb v l.var n) ∙ false_and (not l.upper)

pub sides_at-apart : {F : Type 0} (v : ℕ) (ls : List (Limit (Delta F))) (l : Limit (Delta F)) → (v ≡ l.var → ⊥) → sides_at v (ls ++ l ∷ []) ≡ sides_at v ls
sides_at-apart v ls l n =
    same_sides _ _ (in_force-there false v ls l (concerns-apart false v l n)) (in_force-there true v ls l (concerns-apart true v l n))

own_side : {N : Type 0} (u : Bool) (v : ℕ) (l : Limit N) → l.upper ≡ u → v ≡ l.var → concerns u v l ≡ true
own_side u v l e f = subst (λ w. concerns w v l ≡ true) e (subst (λ n. concerns l.upper n l ≡ true) (sym f) (concerns_own l))

other_side : {N : Type 0} (u : Bool) (v : ℕ) (l : Limit N) → l.upper ≡ u → concerns (not u) v l ≡ false
other_side true v l e = ap (λ b. not b && eqb v l.var) e
other_side false v l e = ap (λ b. b && eqb v l.var) e

-- one more, by the side that it is on
pub sides_at-put : {F : Type 0} (u : Bool) (v : ℕ) (ls : List (Limit (Delta F))) (l : Limit (Delta F)) → l.upper ≡ u → v ≡ l.var → sides_at v (ls ++ l ∷ []) ≡ with_side u (sides_at v ls) (Some l)
sides_at-put true v ls l e f =
    same_sides _ _ (in_force-there false v ls l (other_side true v l e)) (in_force-here true v ls l (own_side true v l e f))
sides_at-put false v ls l e f =
    same_sides _ _ (in_force-here false v ls l (own_side false v l e f)) (in_force-there true v ls l (other_side false v l e))

-- the one before it, again
pub sides_at-undone : {F : Type 0} (u : Bool) (v : ℕ) (ls : List (Limit (Delta F))) (l : Limit (Delta F)) → l.upper ≡ u → with_side u (sides_at v (ls ++ l ∷ [])) (in_force u v ls) ≡ sides_at v ls
sides_at-undone true v ls l e = same_sides _ _ (in_force-there false v ls l (other_side true v l e)) refl
sides_at-undone false v ls l e = same_sides _ _ refl (in_force-there true v ls l (other_side false v l e))

pub side_of-sides_at : {F : Type 0} (u : Bool) (v : ℕ) (ls : List (Limit (Delta F))) → side_of u (sides_at v ls) ≡ in_force u v ls
side_of-sides_at true v ls = refl
side_of-sides_at false v ls = refl

-- ---- what was put can be undone

AreUndoable-append : {F : Type 0} (n : ℕ) (before : List (Limit (Delta F))) (ps : List (Put F)) (p : Put F) → AreUndoable n before ps → p.limit.var < n → p.before ≡ in_force p.limit.upper p.limit.var (before ++ limits_of ps) → AreUndoable n before (ps ++ p ∷ [])
AreUndoable-append n before [] p all within e =
    (within, e ∙ ap (in_force p.limit.upper p.limit.var) (append-nil before), tt)
AreUndoable-append n before (q ∷ qs) p all within e =
    (all.0, all.1, AreUndoable-append n (before ++ q.limit ∷ []) qs p all.2 within (e ∙ ap (in_force p.limit.upper p.limit.var) (sym (append_assoc before (q.limit ∷ []) (limits_of qs)))))

AreUndoable-first : {F : Type 0} (n : ℕ) (before : List (Limit (Delta F))) (ps : List (Put F)) (p : Put F) → AreUndoable n before (ps ++ p ∷ []) → AreUndoable n before ps
AreUndoable-first n before [] p all = tt
AreUndoable-first n before (q ∷ qs) p all = (all.0, all.1, AreUndoable-first n (before ++ q.limit ∷ []) qs p all.2)

AreUndoable-last : {F : Type 0} (n : ℕ) (before : List (Limit (Delta F))) (ps : List (Put F)) (p : Put F) → AreUndoable n before (ps ++ p ∷ []) → (p.limit.var < n) × (p.before ≡ in_force p.limit.upper p.limit.var (before ++ limits_of ps))
AreUndoable-last n before [] p all = (all.0, all.1 ∙ ap (in_force p.limit.upper p.limit.var) (sym (append-nil before)))
AreUndoable-last n before (q ∷ qs) p all =
    let rest = AreUndoable-last n (before ++ q.limit ∷ []) qs p all.2 in
    (rest.0, rest.1 ∙ ap (in_force p.limit.upper p.limit.var) (append_assoc before (q.limit ∷ []) (limits_of qs)))

-- ---- kept

pub AreKept-put : {F : Type 0} (sides : List (Sides F)) (puts : List (Put F)) (p : Put F) (s t : Sides F) → AreKept sides puts → length puts + 1 < 2 ^ 32 → p.limit.var < length sides → slice_get sides p.limit.var ≡ Some s → p.before ≡ side_of p.limit.upper s → t ≡ with_side p.limit.upper s (Some p.limit) → AreKept (set sides p.limit.var t) (puts ++ p ∷ [])
AreKept-put sides puts p s t kept room within here before is = record {
  few = omega (arith, length-append puts (p ∷ []), room);
  sides = λ v below. at v (omega (arith, length-set sides p.limit.var t, below)) (same_or_apart p.limit.var v);
  undoable = subst (λ n. AreUndoable n [] (puts ++ p ∷ [])) (sym (length-set sides p.limit.var t)) (AreUndoable-append (length sides) [] puts p kept.undoable within (before ∙ ap (side_of p.limit.upper) own ∙ side_of-sides_at p.limit.upper p.limit.var (limits_of puts)));
}
  where
    own : s ≡ sides_at p.limit.var (limits_of puts)
    own = let e : Some s ≡ Some (sides_at p.limit.var (limits_of puts)) = sym here ∙ kept.sides p.limit.var within in cc

    at : (v : ℕ) → v < length sides → (v ≡ p.limit.var) ⊎ (v ≡ p.limit.var → ⊥) → slice_get (set sides p.limit.var t) v ≡ Some (sides_at v (limits_of (puts ++ p ∷ [])))
    at v below (inl e) =
        slice_get-set_same sides p.limit.var v t e within
        ∙ ap Some (is ∙ ap (λ x. with_side p.limit.upper x (Some p.limit)) (own ∙ ap (λ n. sides_at n (limits_of puts)) (sym e)) ∙ sym (sides_at-put p.limit.upper v (limits_of puts) p.limit refl e) ∙ ap (sides_at v) (sym (limits_of-append puts p)))
    at v below (inr n) =
        slice_get-set_other sides p.limit.var v t n below ∙ kept.sides v below
        ∙ ap Some (sym (sides_at-apart v (limits_of puts) p.limit n) ∙ ap (sides_at v) (sym (limits_of-append puts p)))

pub AreKept-undone : {F : Type 0} (sides : List (Sides F)) (puts : List (Put F)) (p : Put F) (s t : Sides F) → AreKept sides (puts ++ p ∷ []) → slice_get sides p.limit.var ≡ Some s → t ≡ with_side p.limit.upper s p.before → AreKept (set sides p.limit.var t) puts
AreKept-undone sides puts p s t kept here is = record {
  few = omega (arith, length-append puts (p ∷ []), kept.few);
  sides = λ v below. at v (omega (arith, length-set sides p.limit.var t, below)) (same_or_apart p.limit.var v);
  undoable = subst (λ n. AreUndoable n [] puts) (sym (length-set sides p.limit.var t)) (AreUndoable-first (length sides) [] puts p kept.undoable);
}
  where
    last : (p.limit.var < length sides) × (p.before ≡ in_force p.limit.upper p.limit.var (limits_of puts))
    last = AreUndoable-last (length sides) [] puts p kept.undoable

    own : s ≡ sides_at p.limit.var (limits_of puts ++ p.limit ∷ [])
    own = let e : Some s ≡ Some (sides_at p.limit.var (limits_of puts ++ p.limit ∷ [])) = sym here ∙ kept.sides p.limit.var last.0 ∙ ap (λ ls. Some (sides_at p.limit.var ls)) (limits_of-append puts p) in cc

    at : (v : ℕ) → v < length sides → (v ≡ p.limit.var) ⊎ (v ≡ p.limit.var → ⊥) → slice_get (set sides p.limit.var t) v ≡ Some (sides_at v (limits_of puts))
    at v below (inl e) =
        slice_get-set_same sides p.limit.var v t e last.0
        ∙ ap Some (is ∙ ap (λ x. with_side p.limit.upper x p.before) own ∙ ap (λ b. with_side p.limit.upper (sides_at p.limit.var (limits_of puts ++ p.limit ∷ [])) b) last.1 ∙ sides_at-undone p.limit.upper p.limit.var (limits_of puts) p.limit refl ∙ ap (λ n. sides_at n (limits_of puts)) (sym e))
    at v below (inr n) =
        slice_get-set_other sides p.limit.var v t n below ∙ kept.sides v below
        ∙ ap (λ ls. Some (sides_at v ls)) (limits_of-append puts p) ∙ ap Some (sides_at-apart v (limits_of puts) p.limit n)

pub AreKept-within : {F : Type 0} (sides : List (Sides F)) (puts : List (Put F)) (p : Put F) → AreKept sides (puts ++ p ∷ []) → p.limit.var < length sides
AreKept-within sides puts p kept = (AreUndoable-last (length sides) [] puts p kept.undoable).0

-- ---- none yet

no_sides : {F : Type 0} (v : ℕ) → sides_at {F = F} v [] ≡ record { lower = None; upper = None }
unfolding in_force
no_sides v = refl

slice_get-push : {A : Type 0} (xs : List A) (x : A) (k : ℕ) → k < length (xs ++ x ∷ []) → (slice_get (xs ++ x ∷ []) k ≡ Some x) ⊎ ((k < length xs) × (slice_get (xs ++ x ∷ []) k ≡ slice_get xs k))
slice_get-push [] x zero within = inl refl
slice_get-push [] x (suc k) within = absurd (omega arith)
slice_get-push (y ∷ ys) x zero within = inr (omega arith, refl)
slice_get-push (y ∷ ys) x (suc k) within = by (slice_get-push ys x k (omega arith))
  where
    by : (slice_get (ys ++ x ∷ []) k ≡ Some x) ⊎ ((k < length ys) × (slice_get (ys ++ x ∷ []) k ≡ slice_get ys k)) → (slice_get (ys ++ x ∷ []) k ≡ Some x) ⊎ ((suc k < suc (length ys)) × (slice_get (ys ++ x ∷ []) k ≡ slice_get ys k))
    by (inl e) = inl e
    by (inr h) = inr (omega (arith, h.0), h.1)

pub no_sides-more : {F : Type 0} (xs : List (Sides F)) → ((v : ℕ) → v < length xs → slice_get xs v ≡ Some (sides_at v [])) → (v : ℕ) → v < length (xs ++ record { lower = None; upper = None } ∷ []) → slice_get (xs ++ record { lower = None; upper = None } ∷ []) v ≡ Some (sides_at v [])
no_sides-more xs none v within = by (slice_get-push xs (record { lower = None; upper = None }) v within)
  where
    by : (slice_get (xs ++ record { lower = None; upper = None } ∷ []) v ≡ Some (record { lower = None; upper = None })) ⊎ ((v < length xs) × (slice_get (xs ++ record { lower = None; upper = None } ∷ []) v ≡ slice_get xs v)) → slice_get (xs ++ record { lower = None; upper = None } ∷ []) v ≡ Some (sides_at v [])
    by (inl e) = e ∙ ap Some (sym (no_sides v))
    by (inr h) = h.1 ∙ none v h.0
