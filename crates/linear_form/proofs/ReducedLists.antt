-- A reduced list has the sum of the terms that it was made of, and no other reduced list has.
use Rattle.std.proofs.Common.{◌≡◌, ◌≢◌, ℕ, ◌<◌, ◌≤◌, nat_eq, List, [], ◌∷◌, ℤ, pos, ◌+ℤ◌, ◌*ℤ◌, Bool, true, false, cond, ◌⊎◌, inl, inr, refl, sym, ◌∙◌, ap, arith}
use Rattle.std.specs.Prelude.{nat_lt}
use Rattle.std.specs.Ordering.{int_eq}
use Rattle.std.proofs.lemmas.Int.{ints}
use Rattle.std.proofs.lemmas.Bool.{eqb-true, eqb-false, eq-eqb, ne_eqb, ltb-true, ltb-false, cases_order, cases_eq}
use Rattle.std.proofs.lemmas.Bool.Decides.{Decides-int_eq}
use Rattle.std.proofs.Math.IntN.{+ℤ_idl, +ℤ_idr, +ℤ_assoc, zero-*ℤ}
use Rattle.whole.proofs.Integers.{+ℤ-*ℤ}
use Rattle.linear_form.specs.declared.lists.Term.{Term}
use Rattle.linear_form.specs.Sums.{sum_of, coef_at}
use Rattle.linear_form.specs.Reduced.{put, add_term, reduced, StartsAbove, IsReduced}

-- ---- what adding a term does to the sum

sum_of-put : (value : ℕ → ℤ) (t : Term) (ts : List Term) → sum_of value (put t ts) ≡ t.coef *ℤ value t.column +ℤ sum_of value ts
sum_of-put value t ts = by (int_eq t.coef (pos 0)) refl
  where
    by : (b : Bool) → int_eq t.coef (pos 0) ≡ b → sum_of value (cond b ts (t ∷ ts)) ≡ t.coef *ℤ value t.column +ℤ sum_of value ts
    by true e =
        let none : t.coef ≡ pos 0 = (Decides-int_eq t.coef (pos 0)).0 e in
        sym (ap (λ z. z *ℤ value t.column +ℤ sum_of value ts) none ∙ ap (λ z. z +ℤ sum_of value ts) (zero-*ℤ (value t.column)) ∙ +ℤ_idl (sum_of value ts))
    by false e = refl

swapped : (a b c : ℤ) → a +ℤ (b +ℤ c) ≡ b +ℤ (a +ℤ c)
swapped a b c = omega (arith, ints)

sum_of-add_term : (value : ℕ → ℤ) (t : Term) (us : List Term) → sum_of value (add_term t us) ≡ t.coef *ℤ value t.column +ℤ sum_of value us
sum_of-add_term value t [] = sum_of-put value t []
sum_of-add_term value t (u ∷ us) = by (nat_lt t.column u.column) (nat_eq t.column u.column) refl (sum_of-add_term value t us)
  where
    by : (less same : Bool) → nat_eq t.column u.column ≡ same → sum_of value (add_term t us) ≡ t.coef *ℤ value t.column +ℤ sum_of value us → sum_of value (cond less (put t (u ∷ us)) (cond same (put (record { column = u.column; coef = t.coef +ℤ u.coef }) us) (u ∷ add_term t us))) ≡ t.coef *ℤ value t.column +ℤ (u.coef *ℤ value u.column +ℤ sum_of value us)
    by true same e more = sum_of-put value t (u ∷ us)
    by false true e more =
        sum_of-put value (record { column = u.column; coef = t.coef +ℤ u.coef }) us ∙ ap (λ z. z +ℤ sum_of value us) (+ℤ-*ℤ t.coef u.coef (value u.column)) ∙ +ℤ_assoc (t.coef *ℤ value u.column) (u.coef *ℤ value u.column) (sum_of value us) ∙ sym (ap (λ n. t.coef *ℤ value n +ℤ (u.coef *ℤ value u.column +ℤ sum_of value us)) (eqb-true t.column u.column e))
    by false false e more = ap (λ z. u.coef *ℤ value u.column +ℤ z) more ∙ swapped (u.coef *ℤ value u.column) (t.coef *ℤ value t.column) (sum_of value us)

-- the sum of the terms is that of the reduced list
pub sum_of-reduced : (value : ℕ → ℤ) (ts : List Term) → sum_of value (reduced ts) ≡ sum_of value ts
sum_of-reduced value [] = refl
sum_of-reduced value (t ∷ ts) = sum_of-add_term value t (reduced ts) ∙ ap (λ z. t.coef *ℤ value t.column +ℤ z) (sum_of-reduced value ts)

-- ---- and to the coefficient of each column

coef_at-put : (j : ℕ) (t : Term) (ts : List Term) → coef_at j (put t ts) ≡ coef_at j (t ∷ ts)
coef_at-put j t ts = by (int_eq t.coef (pos 0)) refl
  where
    none_at : (here : Bool) → t.coef ≡ pos 0 → coef_at j ts ≡ cond here (t.coef +ℤ coef_at j ts) (coef_at j ts)
    none_at true e = sym (ap (λ z. z +ℤ coef_at j ts) e ∙ +ℤ_idl (coef_at j ts))
    none_at false e = refl

    by : (b : Bool) → int_eq t.coef (pos 0) ≡ b → coef_at j (cond b ts (t ∷ ts)) ≡ coef_at j (t ∷ ts)
    by true e = none_at (nat_eq t.column j) ((Decides-int_eq t.coef (pos 0)).0 e)
    by false e = refl

pub joined_at : (j column : ℕ) (a b : ℤ) (us : List Term) → coef_at j (record { column = column; coef = a +ℤ b } ∷ us) ≡ coef_at j (record { column = column; coef = a } ∷ record { column = column; coef = b } ∷ us)
joined_at j column a b us = by (nat_eq column j)
  where
    by : (here : Bool) → cond here (a +ℤ b +ℤ coef_at j us) (coef_at j us) ≡ cond here (a +ℤ cond here (b +ℤ coef_at j us) (coef_at j us)) (cond here (b +ℤ coef_at j us) (coef_at j us))
    by true = +ℤ_assoc a b (coef_at j us)
    by false = refl

exchanged_at : (j : ℕ) (t u : Term) (us : List Term) → coef_at j (u ∷ t ∷ us) ≡ coef_at j (t ∷ u ∷ us)
exchanged_at j t u us = by (nat_eq t.column j) (nat_eq u.column j)
  where
    by : (here there : Bool) → cond there (u.coef +ℤ cond here (t.coef +ℤ coef_at j us) (coef_at j us)) (cond here (t.coef +ℤ coef_at j us) (coef_at j us)) ≡ cond here (t.coef +ℤ cond there (u.coef +ℤ coef_at j us) (coef_at j us)) (cond there (u.coef +ℤ coef_at j us) (coef_at j us))
    by true true = swapped u.coef t.coef (coef_at j us)
    by true false = refl
    by false true = refl
    by false false = refl

behind_at : (j : ℕ) (u : Term) (xs ys : List Term) → coef_at j xs ≡ coef_at j ys → coef_at j (u ∷ xs) ≡ coef_at j (u ∷ ys)
behind_at j u xs ys e = ap (λ z. cond (nat_eq u.column j) (u.coef +ℤ z) z) e

coef_at-add_term : (j : ℕ) (t : Term) (us : List Term) → coef_at j (add_term t us) ≡ coef_at j (t ∷ us)
coef_at-add_term j t [] = coef_at-put j t []
coef_at-add_term j t (u ∷ us) = by (nat_lt t.column u.column) (nat_eq t.column u.column) refl (coef_at-add_term j t us)
  where
    by : (less same : Bool) → nat_eq t.column u.column ≡ same → coef_at j (add_term t us) ≡ coef_at j (t ∷ us) → coef_at j (cond less (put t (u ∷ us)) (cond same (put (record { column = u.column; coef = t.coef +ℤ u.coef }) us) (u ∷ add_term t us))) ≡ coef_at j (t ∷ u ∷ us)
    by true same e more = coef_at-put j t (u ∷ us)
    by false true e more =
        coef_at-put j (record { column = u.column; coef = t.coef +ℤ u.coef }) us ∙ joined_at j u.column t.coef u.coef us ∙ sym (ap (λ n. coef_at j (record { column = n; coef = t.coef } ∷ u ∷ us)) (eqb-true t.column u.column e))
    by false false e more = behind_at j u (add_term t us) (t ∷ us) more ∙ exchanged_at j t u us

-- each column has the same coefficient in the reduced list
pub coef_at-reduced : (j : ℕ) (ts : List Term) → coef_at j (reduced ts) ≡ coef_at j ts
coef_at-reduced j [] = refl
coef_at-reduced j (t ∷ ts) = coef_at-add_term j t (reduced ts) ∙ behind_at j t (reduced ts) ts (coef_at-reduced j ts)

-- ---- it is reduced

StartsAbove-weaker : (m n : ℕ) (ts : List Term) → m ≤ n → StartsAbove n ts → StartsAbove m ts
StartsAbove-weaker m n [] le above = tt
StartsAbove-weaker m n (t ∷ ts) le above = omega arith

StartsAbove-put : (n : ℕ) (t : Term) (ts : List Term) → n < t.column → StartsAbove n ts → StartsAbove n (put t ts)
StartsAbove-put n t ts less above =
    elim (int_eq t.coef (pos 0)) as (λ b. StartsAbove n (cond b ts (t ∷ ts))) [ true ↦ above | false ↦ less ]

pub true_not_false : true ≡ false → ⊥
true_not_false e = cc

IsReduced-put : (t : Term) (ts : List Term) → StartsAbove t.column ts → IsReduced ts → IsReduced (put t ts)
IsReduced-put t ts above is = by (int_eq t.coef (pos 0)) refl
  where
    by : (b : Bool) → int_eq t.coef (pos 0) ≡ b → IsReduced (cond b ts (t ∷ ts))
    by true e = is
    by false e = ((λ none. true_not_false (sym ((Decides-int_eq t.coef (pos 0)).1 none) ∙ e)), above, is)

StartsAbove-add_term : (n : ℕ) (t : Term) (us : List Term) → n < t.column → StartsAbove n us → IsReduced us → StartsAbove n (add_term t us)
StartsAbove-add_term n t [] less above is = StartsAbove-put n t [] less above
StartsAbove-add_term n t (u ∷ us) less above is = by (nat_lt t.column u.column) (nat_eq t.column u.column)
  where
    by : (before same : Bool) → StartsAbove n (cond before (put t (u ∷ us)) (cond same (put (record { column = u.column; coef = t.coef +ℤ u.coef }) us) (u ∷ add_term t us)))
    by true same = StartsAbove-put n t (u ∷ us) less above
    by false true =
        StartsAbove-put n (record { column = u.column; coef = t.coef +ℤ u.coef }) us above (StartsAbove-weaker n u.column us (omega arith) is.1)
    by false false = above

IsReduced-add_term : (t : Term) (us : List Term) → IsReduced us → IsReduced (add_term t us)
IsReduced-add_term t [] is = IsReduced-put t [] tt tt
IsReduced-add_term t (u ∷ us) is =
    by (nat_lt t.column u.column) (nat_eq t.column u.column) refl refl (IsReduced-add_term t us is.2)
  where
    by : (before same : Bool) → nat_lt t.column u.column ≡ before → nat_eq t.column u.column ≡ same → IsReduced (add_term t us) → IsReduced (cond before (put t (u ∷ us)) (cond same (put (record { column = u.column; coef = t.coef +ℤ u.coef }) us) (u ∷ add_term t us)))
    by true same p q more = IsReduced-put t (u ∷ us) (ltb-true t.column u.column p) is
    by false true p q more = IsReduced-put (record { column = u.column; coef = t.coef +ℤ u.coef }) us is.1 is.2
    by false false p q more =
        let apart = eqb-false t.column u.column q in
        let most : u.column ≤ t.column = ltb-false t.column u.column p in
        (is.0, StartsAbove-add_term u.column t us (omega arith) is.1 is.2, more)

pub IsReduced-reduced : (ts : List Term) → IsReduced (reduced ts)
IsReduced-reduced [] = tt
IsReduced-reduced (t ∷ ts) = IsReduced-add_term t (reduced ts) (IsReduced-reduced ts)

-- ---- no other list is

-- below its first column a reduced list has no column
pub coef_at-below : (j m : ℕ) (ts : List Term) → IsReduced ts → j ≤ m → StartsAbove m ts → coef_at j ts ≡ pos 0
coef_at-below j m [] is le above = refl
coef_at-below j m (t ∷ ts) is le above =
    let apart : nat_eq t.column j ≡ false = ne_eqb t.column j (omega arith) in
    ap (λ b. cond b (t.coef +ℤ coef_at j ts) (coef_at j ts)) apart ∙ coef_at-below j t.column ts is.2 (omega arith) is.1

-- in its first column it has the first coefficient
pub coef_at-head : (t : Term) (ts : List Term) → IsReduced (t ∷ ts) → coef_at t.column (t ∷ ts) ≡ t.coef
coef_at-head t ts is =
    ap (λ b. cond b (t.coef +ℤ coef_at t.column ts) (coef_at t.column ts)) (eq-eqb t.column t.column refl) ∙ ap (λ z. t.coef +ℤ z) (coef_at-below t.column t.column ts is.2 (omega arith) is.1) ∙ +ℤ_idr t.coef

pub coef_at-other : (j : ℕ) (t : Term) (ts : List Term) → t.column ≢ j → coef_at j (t ∷ ts) ≡ coef_at j ts
coef_at-other j t ts apart = ap (λ b. cond b (t.coef +ℤ coef_at j ts) (coef_at j ts)) (ne_eqb t.column j apart)

-- two reduced lists with the same coefficient in each column are one list
pub same_reduced : (xs ys : List Term) → IsReduced xs → IsReduced ys → ((j : ℕ) → coef_at j xs ≡ coef_at j ys) → xs ≡ ys
same_reduced [] [] p q e = refl
same_reduced [] (y ∷ ys) p q e = absurd (q.0 (sym (coef_at-head y ys q) ∙ sym (e y.column)))
same_reduced (x ∷ xs) [] p q e = absurd (p.0 (sym (coef_at-head x xs p) ∙ e x.column))
same_reduced (x ∷ xs) (y ∷ ys) p q e =
    let rest = λ (f : (j : ℕ) → coef_at j xs ≡ coef_at j ys). same_reduced xs ys p.2 q.2 f in
    by (cases_order x.column y.column) rest
  where
    -- a column that one list begins with and the other has not
    missing : (u v : Term) (us vs : List Term) → IsReduced (u ∷ us) → IsReduced (v ∷ vs) → u.column < v.column → coef_at u.column (u ∷ us) ≡ coef_at u.column (v ∷ vs) → ⊥
    missing u v us vs p q less same =
        p.0 (sym (coef_at-head u us p) ∙ same ∙ coef_at-below u.column u.column (v ∷ vs) q (omega arith) less)

    tails : x.column ≡ y.column → (j : ℕ) → (x.column ≡ j) ⊎ (x.column ≡ j → ⊥) → coef_at j xs ≡ coef_at j ys
    tails same j (inl here) =
        coef_at-below j x.column xs p.2 (omega arith) p.1 ∙ sym (coef_at-below j y.column ys q.2 (omega arith) q.1)
    tails same j (inr apart) =
        sym (coef_at-other j x xs apart) ∙ e j ∙ coef_at-other j y ys (λ here. apart (same ∙ here))

    heads : x.column ≡ y.column → x ≡ y
    heads same =
        let coefs : x.coef ≡ y.coef =
        sym (coef_at-head x xs p) ∙ e x.column ∙ ap (λ n. coef_at n (y ∷ ys)) same ∙ coef_at-head y ys q in
        ap (λ n. record { column = n; coef = x.coef }) same ∙ ap (λ z. record { column = y.column; coef = z }) coefs

    by : (x.column ≡ y.column) ⊎ ((x.column < y.column) ⊎ (y.column < x.column)) → (((j : ℕ) → coef_at j xs ≡ coef_at j ys) → xs ≡ ys) → x ∷ xs ≡ y ∷ ys
    by (inl same) rest =
        ap (λ t. t ∷ xs) (heads same) ∙ ap (λ ts. y ∷ ts) (rest (λ j. tails same j (cases_eq x.column j)))
    by (inr (inl less)) rest = absurd (missing x y xs ys p q less (e x.column))
    by (inr (inr more)) rest = absurd (missing y x ys xs q p more (sym (e y.column)))
