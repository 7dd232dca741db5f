-- What the pass over sorted terms keeps: the list so far is reduced, ends below the open run's column, and has with the run the sum of the terms that were read.
use Rattle.std.proofs.Common.{◌≡◌, ◌≢◌, ℕ, ◌+◌, ◌*◌, ◌^◌, ◌<◌, ◌≤◌, nat_eq, List, [], ◌∷◌, ◌++◌, length, take, slice_index_or, All, ℤ, pos, ◌+ℤ◌, unsigned_abs, to_z, of_z, Bool, true, false, cond, refl, sym, ◌∙◌, ap, subst, arith}
use Rattle.std.specs.Prelude.{sum_by}
use Rattle.std.specs.Int.{w128}
use Rattle.std.specs.Ordering.{int_eq}
use Rattle.std.specs.List.Sorted.{IsNonDecreasingBy, IsPermutation}
use Rattle.std.proofs.lemmas.List.{take_more, take_all, get_or_default}
use Rattle.std.proofs.lemmas.List.Elements.{All-push}
use Rattle.std.proofs.lemmas.List.Sorted.{sum_by-IsPermutation}
use Rattle.std.proofs.lemmas.List.Sums.{sum_by-cons}
use borrow.Author.Differences.{up, down, sum_is_lem, same_in}
use Rattle.whole.proofs.Integers.{unsigned_abs-+ℤ}
use Rattle.std.proofs.lemmas.Bool.Decides.{Decides-int_eq}
use Rattle.std.proofs.Math.IntN.{+ℤ_idl, +ℤ_idr, +ℤ_assoc}
use Rattle.linear_form.proofs.Running.{same_bits}
use Rattle.linear_form.specs.declared.lists.Term.{Term}
use Rattle.linear_form.specs.Sums.{coef_at}
use Rattle.linear_form.specs.Reduced.{closed, reduced, StartsAbove, IsReduced}
use Rattle.linear_form.proofs.ReducedLists.{same_reduced, IsReduced-reduced, coef_at-reduced, joined_at, true_not_false}

-- each column is below this one
abbrev pub EndsBelow : ℕ → List Term → Type 0
EndsBelow column [] = Unit {0}
EndsBelow column (t ∷ ts) = (t.column < column) × EndsBelow column ts

pub record Keeps (read : List Term) (count : ℕ) (done : List Term) (run : Term) : Type 0 where
  pub is_reduced : IsReduced done
  pub below : EndsBelow run.column done
  pub sums : (j : ℕ) → coef_at j (done ++ run ∷ []) ≡ coef_at j read
  pub run_small : unsigned_abs run.coef ≤ count * 10 ^ 13
  pub small : All (λ t. unsigned_abs t.coef ≤ 128 * 10 ^ 13) done

-- the terms from an index on have no lower column
abbrev pub Follows : List Term → ℕ → Term → Type 0
Follows sorted i run = (k : ℕ) (d : Term) → i ≤ k → k < length sorted → run.column ≤ (slice_index_or sorted k d).column

coef_at-append : (j : ℕ) (xs ys : List Term) → coef_at j (xs ++ ys) ≡ coef_at j xs +ℤ coef_at j ys
coef_at-append j [] ys = sym (+ℤ_idl (coef_at j ys))
coef_at-append j (x ∷ xs) ys = by (nat_eq x.column j) (coef_at-append j xs ys)
  where
    by : (here : Bool) → coef_at j (xs ++ ys) ≡ coef_at j xs +ℤ coef_at j ys → cond here (x.coef +ℤ coef_at j (xs ++ ys)) (coef_at j (xs ++ ys)) ≡ cond here (x.coef +ℤ coef_at j xs) (coef_at j xs) +ℤ coef_at j ys
    by true e = ap (λ z. x.coef +ℤ z) e ∙ sym (+ℤ_assoc x.coef (coef_at j xs) (coef_at j ys))
    by false e = e

coef_at-closed : (j : ℕ) (ts : List Term) (t : Term) → coef_at j (closed ts t) ≡ coef_at j (ts ++ t ∷ [])
coef_at-closed j ts t = by (int_eq t.coef (pos 0)) refl
  where
    none_at : (here : Bool) → t.coef ≡ pos 0 → cond here (t.coef +ℤ pos 0) (pos 0) ≡ pos 0
    none_at true e = ap (λ z. z +ℤ pos 0) e
    none_at false e = refl

    by : (b : Bool) → int_eq t.coef (pos 0) ≡ b → coef_at j (cond b ts (ts ++ t ∷ [])) ≡ coef_at j (ts ++ t ∷ [])
    by true e =
        sym (coef_at-append j ts (t ∷ []) ∙ ap (λ z. coef_at j ts +ℤ z) (none_at (nat_eq t.column j) ((Decides-int_eq t.coef (pos 0)).0 e)) ∙ +ℤ_idr (coef_at j ts))
    by false e = refl

StartsAbove-push : (n : ℕ) (ts : List Term) (t : Term) → n < t.column → StartsAbove n ts → StartsAbove n (ts ++ t ∷ [])
StartsAbove-push n [] t less above = less
StartsAbove-push n (u ∷ us) t less above = above

IsReduced-push : (ts : List Term) (t : Term) → IsReduced ts → EndsBelow t.column ts → t.coef ≢ pos 0 → IsReduced (ts ++ t ∷ [])
IsReduced-push [] t is below some = (some, tt, tt)
IsReduced-push (u ∷ us) t is below some =
    (is.0, StartsAbove-push u.column us t below.0 is.1, IsReduced-push us t is.2 below.1 some)

IsReduced-closed : (ts : List Term) (t : Term) → IsReduced ts → EndsBelow t.column ts → IsReduced (closed ts t)
IsReduced-closed ts t is below = by (int_eq t.coef (pos 0)) refl
  where
    by : (b : Bool) → int_eq t.coef (pos 0) ≡ b → IsReduced (cond b ts (ts ++ t ∷ []))
    by true e = is
    by false e =
        IsReduced-push ts t is below (λ none. true_not_false (sym ((Decides-int_eq t.coef (pos 0)).1 none) ∙ e))

EndsBelow-weaker : (m n : ℕ) (ts : List Term) → m ≤ n → EndsBelow m ts → EndsBelow n ts
EndsBelow-weaker m n [] le below = tt
EndsBelow-weaker m n (t ∷ ts) le below = (omega arith, EndsBelow-weaker m n ts le below.1)

EndsBelow-push : (n : ℕ) (ts : List Term) (t : Term) → EndsBelow n ts → t.column < n → EndsBelow n (ts ++ t ∷ [])
EndsBelow-push n [] t below less = (less, tt)
EndsBelow-push n (u ∷ us) t below less = (below.0, EndsBelow-push n us t below.1 less)

EndsBelow-closed : (n : ℕ) (ts : List Term) (t : Term) → EndsBelow n ts → t.column < n → EndsBelow n (closed ts t)
EndsBelow-closed n ts t below less =
    elim (int_eq t.coef (pos 0)) as (λ b. EndsBelow n (cond b ts (ts ++ t ∷ []))) [ true ↦ below | false ↦ EndsBelow-push n ts t below less ]

small-closed : (ts : List Term) (t : Term) → unsigned_abs t.coef ≤ 128 * 10 ^ 13 → All (λ u. unsigned_abs u.coef ≤ 128 * 10 ^ 13) ts → All (λ u. unsigned_abs u.coef ≤ 128 * 10 ^ 13) (closed ts t)
small-closed ts t small all = by (int_eq t.coef (pos 0))
  where
    by : (b : Bool) → All (λ u. unsigned_abs u.coef ≤ 128 * 10 ^ 13) (cond b ts (ts ++ t ∷ []))
    by true = all
    by false = All-push (λ u. unsigned_abs u.coef ≤ 128 * 10 ^ 13) ts t all small

-- ---- the steps

-- the code's sum onto the run
pub joined_bits : (a b : ℤ) → unsigned_abs a ≤ 128 * 10 ^ 13 → unsigned_abs b ≤ 10 ^ 13 → to_z w128 (of_z w128 (to_z w128 (of_z w128 a) +ℤ to_z w128 (of_z w128 b))) ≡ a +ℤ b
joined_bits a b p q =
    let step : unsigned_abs (a +ℤ b) ≤ unsigned_abs a + unsigned_abs b = unsigned_abs-+ℤ a b in
    ap (λ z. to_z w128 (of_z w128 (z +ℤ to_z w128 (of_z w128 b)))) (same_bits a (omega arith)) ∙ ap (λ z. to_z w128 (of_z w128 (a +ℤ z))) (same_bits b (omega arith)) ∙ same_bits (a +ℤ b) (omega arith)

one_more_sum : (j : ℕ) (sorted : List Term) (i : ℕ) (d : Term) (ts : List Term) → i < length sorted → coef_at j ts ≡ coef_at j (take i sorted) → coef_at j ts +ℤ coef_at j (slice_index_or sorted i d ∷ []) ≡ coef_at j (take (i + 1) sorted)
one_more_sum j sorted i d ts there e =
    ap (λ z. z +ℤ coef_at j (slice_index_or sorted i d ∷ [])) e ∙ sym (coef_at-append j (take i sorted) (slice_index_or sorted i d ∷ [])) ∙ sym (ap (coef_at j) (take_more sorted i d there))

-- a term of the run's column goes into the run
pub keeps_joined : (sorted : List Term) (i : ℕ) (d : Term) (done : List Term) (run : Term) → i < length sorted → All (λ t. unsigned_abs t.coef ≤ 10 ^ 13) sorted → (slice_index_or sorted i d).column ≡ run.column → Keeps (take i sorted) i done run → Follows sorted i run → Keeps (take (i + 1) sorted) (i + 1) done (record { column = run.column; coef = run.coef +ℤ (slice_index_or sorted i d).coef }) × Follows sorted (i + 1) (record { column = run.column; coef = run.coef +ℤ (slice_index_or sorted i d).coef })
keeps_joined sorted i d done run there small same keeps follows =
    let t = slice_index_or sorted i d in
    let more : Term = record { column = run.column; coef = run.coef +ℤ t.coef } in
    let t_small : unsigned_abs t.coef ≤ 10 ^ 13 = small i d there in
    let step : unsigned_abs (run.coef +ℤ t.coef) ≤ unsigned_abs run.coef + unsigned_abs t.coef = unsigned_abs-+ℤ run.coef t.coef in (
      record {
        is_reduced = keeps.is_reduced;
        below = keeps.below;
        sums =
            λ j. coef_at-append j done (more ∷ []) ∙ ap (λ z. coef_at j done +ℤ z) (joined_at j run.column run.coef t.coef [] ∙ coef_at-append j (run ∷ []) (record { column = run.column; coef = t.coef } ∷ [])) ∙ sym (+ℤ_assoc (coef_at j done) (coef_at j (run ∷ [])) (coef_at j (record { column = run.column; coef = t.coef } ∷ []))) ∙ ap (λ z. z +ℤ coef_at j (record { column = run.column; coef = t.coef } ∷ [])) (sym (coef_at-append j done (run ∷ []))) ∙ ap (λ n. coef_at j (done ++ run ∷ []) +ℤ coef_at j (record { column = n; coef = t.coef } ∷ [])) (sym same) ∙ one_more_sum j sorted i d (done ++ run ∷ []) there (keeps.sums j);
        run_small = omega (arith, step, t_small, keeps.run_small);
        small = keeps.small;
      },
      λ k e after within. follows k e (omega arith) within,
    )

-- a term of a later column closes the run and begins the next
pub keeps_closed : (sorted : List Term) (i : ℕ) (d : Term) (done : List Term) (run : Term) → length sorted ≤ 128 → i < length sorted → All (λ t. unsigned_abs t.coef ≤ 10 ^ 13) sorted → IsNonDecreasingBy (λ t. t.column) sorted → (slice_index_or sorted i d).column ≢ run.column → Keeps (take i sorted) i done run → Follows sorted i run → Keeps (take (i + 1) sorted) (i + 1) (closed done run) (slice_index_or sorted i d) × Follows sorted (i + 1) (slice_index_or sorted i d)
keeps_closed sorted i d done run few there small order apart keeps follows =
    let t = slice_index_or sorted i d in
    let t_small : unsigned_abs t.coef ≤ 10 ^ 13 = small i d there in
    let at_least : run.column ≤ t.column = follows i d (omega arith) there in
    let less : run.column < t.column = omega (arith, apart) in (
      record {
        is_reduced = IsReduced-closed done run keeps.is_reduced keeps.below;
        below = EndsBelow-closed t.column done run (EndsBelow-weaker run.column t.column done at_least keeps.below) less;
        sums =
            λ j. coef_at-append j (closed done run) (t ∷ []) ∙ one_more_sum j sorted i d (closed done run) there (coef_at-closed j done run ∙ keeps.sums j);
        run_small = omega (arith, t_small);
        small = small-closed done run (omega (arith, keeps.run_small)) keeps.small;
      },
      λ k e after within. subst (λ (u : Term). u.column ≤ (slice_index_or sorted k e).column) (get_or_default sorted i e d there) (order i k e (omega arith) within),
    )

-- where no term is left, the list with the last run closed is the reduced one
pub closed_is_reduced : (sorted : List Term) (i : ℕ) (done : List Term) (run : Term) → length sorted ≤ i → Keeps (take i sorted) i done run → closed done run ≡ reduced sorted
closed_is_reduced sorted i done run over keeps =
    same_reduced (closed done run) (reduced sorted) (IsReduced-closed done run keeps.is_reduced keeps.below) (IsReduced-reduced sorted) (λ j. coef_at-closed j done run ∙ keeps.sums j ∙ ap (coef_at j) (take_all i sorted over) ∙ sym (coef_at-reduced j sorted))

pub closed_small : (sorted : List Term) (i : ℕ) (done : List Term) (run : Term) → length sorted ≤ 128 → i ≤ length sorted → Keeps (take i sorted) i done run → All (λ t. unsigned_abs t.coef ≤ 128 * 10 ^ 13) (closed done run)
closed_small sorted i done run few within keeps = small-closed done run (omega (arith, keeps.run_small)) keeps.small

-- ---- the order of the terms

ups : ℕ → Term → ℕ
ups j t = cond (nat_eq t.column j) (up t.coef) 0

downs : ℕ → Term → ℕ
downs j t = cond (nat_eq t.column j) (down t.coef) 0

parted : (j : ℕ) (ts : List Term) → up (coef_at j ts) + sum_by (downs j) ts ≡ down (coef_at j ts) + sum_by (ups j) ts
unfolding ups downs
parted j [] = refl
parted j (t ∷ ts) = simp sum_by-cons (by (nat_eq t.column j) (parted j ts))
  where
    by : (here : Bool) → up (coef_at j ts) + sum_by (downs j) ts ≡ down (coef_at j ts) + sum_by (ups j) ts → up (cond here (t.coef +ℤ coef_at j ts) (coef_at j ts)) + (cond here (down t.coef) 0 + sum_by (downs j) ts) ≡ down (cond here (t.coef +ℤ coef_at j ts) (coef_at j ts)) + (cond here (up t.coef) 0 + sum_by (ups j) ts)
    by true e = omega (arith, sum_is_lem t.coef (coef_at j ts))
    by false e = omega arith

coef_at-permutation : (j : ℕ) (xs ys : List Term) → IsPermutation xs ys → coef_at j ys ≡ coef_at j xs
coef_at-permutation j xs ys moved =
    let same_ups = sum_by-IsPermutation (ups j) xs ys moved in
    let same_downs = sum_by-IsPermutation (downs j) xs ys moved in
    same_in (coef_at j ys) (coef_at j xs) (omega (arith, parted j xs, parted j ys, same_ups, same_downs))

-- the reduced list is the same in whatever order the terms come
pub reduced-permutation : (xs ys : List Term) → IsPermutation xs ys → reduced ys ≡ reduced xs
reduced-permutation xs ys moved =
    same_reduced (reduced ys) (reduced xs) (IsReduced-reduced ys) (IsReduced-reduced xs) (λ j. coef_at-reduced j ys ∙ coef_at-permutation j xs ys moved ∙ sym (coef_at-reduced j xs))
