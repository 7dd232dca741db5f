-- Running sums, term by term and part by part.
use Rattle.std.proofs.Common.{◌≡◌, ◌≢◌, ℕ, ◌<◌, nat_eq, cond, List, [], ◌∷◌, ◌++◌, set, get_or, length, Bool, true, false, IsSome, Option, None, Some, ℤ, pos, ◌+ℤ◌, ◌*ℤ◌, inl, inr, refl, sym, ap, subst, ◌∙◌, arith}
use Rattle.std.specs.Option.{option_and_then}
use Rattle.std.proofs.lemmas.Bool.{eqb-true, eq-eqb, ne_eqb}
use Rattle.std.proofs.lemmas.List.{get_or-set_same, get_or-set_other, length-set}
use Rattle.std.proofs.Math.IntN.{*ℤ-zero, +ℤ_idr, +ℤ_idl, +ℤ_assoc}
use Rattle.whole.specs.Numbers.{IsWithin, fma, whole}
use Rattle.whole.specs.declared.answers.Stuck.{Stuck}
use Rattle.whole.proofs.Overflow.{fma_kept, fma_some, whole_kept}
use Rattle.linear_form.specs.declared.lists.Term.{Term}
use Rattle.linear_form.specs.Reduced.{IsReduced}
use Rattle.linear_form.specs.Sums.{coef_at}
use Rattle.linear_form.proofs.ReducedLists.{coef_at-head}
use Rattle.farkas_cert.specs.declared.trees.Part.{Part}
use Rattle.clause_form.specs.Derivations.{Rows, LitRow, SumsFit, number_in, row_coef, row_of, running_sum}
use Rattle.lra_theory.specs.declared.sums.Sums.{Sums}
use Rattle.lra_theory.specs.Clashes.{IsStuckStep, IsStuckSum}
use Rattle.lra_theory.specs.Totals.{AllWithin, AreAfterPart, AreSums, AreZero, IsStuckInPart, sum_at}

-- ---- steps

-- a product with 0 changes no sum
pub fma-nothing : (s m n : ℤ) → n ≡ pos 0 → IsWithin s → fma s m n ≡ Some s
fma-nothing s m n none within =
    let product : m *ℤ n ≡ pos 0 = ap (λ z. m *ℤ z) none ∙ *ℤ-zero m in
    let small : IsWithin (m *ℤ n) = subst IsWithin (sym product) (omega arith) in
    fma_kept s m n small ∙ ap (λ z. whole (s +ℤ z)) product ∙ ap whole (+ℤ_idr s) ∙ whole_kept s within

pub fma-within : (s m n x : ℤ) → fma s m n ≡ Some x → IsWithin x
fma-within s m n x e = let both = fma_some s m n x e in subst IsWithin (sym both.0) both.1

-- ---- the terms of a row

coef_at-last : (j : ℕ) (ts : List Term) (t : Term) → coef_at j (ts ++ t ∷ []) ≡ coef_at j ts +ℤ cond (nat_eq t.column j) t.coef (pos 0)
coef_at-last j [] t = by (nat_eq t.column j)
  where
    by : (b : Bool) → cond b (t.coef +ℤ pos 0) (pos 0) ≡ pos 0 +ℤ cond b t.coef (pos 0)
    by true = +ℤ_idr t.coef ∙ sym (+ℤ_idl t.coef)
    by false = sym (+ℤ_idl (pos 0))
coef_at-last j (u ∷ us) t = by (nat_eq u.column j) (coef_at-last j us t)
  where
    last : ℤ
    last = cond (nat_eq t.column j) t.coef (pos 0)

    by : (b : Bool) → coef_at j (us ++ t ∷ []) ≡ coef_at j us +ℤ cond (nat_eq t.column j) t.coef (pos 0) → cond b (u.coef +ℤ coef_at j (us ++ t ∷ [])) (coef_at j (us ++ t ∷ [])) ≡ cond b (u.coef +ℤ coef_at j us) (coef_at j us) +ℤ cond (nat_eq t.column j) t.coef (pos 0)
    by true e = ap (λ z. u.coef +ℤ z) e ∙ sym (+ℤ_assoc u.coef (coef_at j us) (cond (nat_eq t.column j) t.coef (pos 0)))
    by false e = e

head_below : (u : Term) (us : List Term) (t : Term) (rest : List Term) → IsReduced (u ∷ (us ++ t ∷ rest)) → u.column < t.column
head_below u [] t rest reduced = reduced.1
head_below u (v ∷ vs) t rest reduced = let first : u.column < v.column = reduced.1 in let later = head_below v vs t rest reduced.2 in omega arith

-- the columns before a term are others
coef_at-before : (front : List Term) (t : Term) (rest : List Term) → IsReduced (front ++ t ∷ rest) → coef_at t.column front ≡ pos 0
coef_at-before [] t rest reduced = refl
coef_at-before (u ∷ us) t rest reduced =
    let below = head_below u us t rest reduced in
    ap (λ b. cond b (u.coef +ℤ coef_at t.column us) (coef_at t.column us)) (ne_eqb u.column t.column (λ same. absurd (omega (arith, below, same)))) ∙ coef_at-before us t rest reduced.2

pub coef_at-own : (front : List Term) (t : Term) (rest : List Term) → IsReduced (front ++ t ∷ rest) → coef_at t.column (front ++ t ∷ rest) ≡ t.coef
coef_at-own [] t rest reduced = coef_at-head t rest reduced
coef_at-own (u ∷ us) t rest reduced =
    let below = head_below u us t rest reduced in
    ap (λ b. cond b (u.coef +ℤ coef_at t.column (us ++ t ∷ rest)) (coef_at t.column (us ++ t ∷ rest))) (ne_eqb u.column t.column (λ same. absurd (omega (arith, below, same)))) ∙ coef_at-own us t rest reduced.2

-- these terms' products are added
pub record Adding (mult factor : ℤ) (start : List ℤ) (terms : List Term) (sums : List ℤ) : Type 0 where
  pub length_is : length sums ≡ length start
  pub sums_are : (column : ℕ) → fma (sum_at start column) mult (factor *ℤ coef_at column terms) ≡ Some (sum_at sums column)

module _ (mult factor : ℤ) (start : List ℤ) (within : (column : ℕ) → IsWithin (sum_at start column)) where
  pub adding-start : Adding mult factor start [] start
  adding-start = record {
    length_is = refl;
    sums_are = λ column. fma-nothing (sum_at start column) mult (factor *ℤ pos 0) (*ℤ-zero factor) (within column);
  }

  module _ (front : List Term) (t : Term) (rest : List Term) (reduced : IsReduced (front ++ t ∷ rest)) (sums : List ℤ) (adding : Adding mult factor start front sums) where
    -- the sum of the term's column is as it was
    pub sum-before : sum_at sums t.column ≡ sum_at start t.column
    sum-before =
        let same : Some (sum_at sums t.column) ≡ Some (sum_at start t.column) = sym (adding.sums_are t.column) ∙ fma-nothing (sum_at start t.column) mult (factor *ℤ coef_at t.column front) (ap (λ z. factor *ℤ z) (coef_at-before front t rest reduced) ∙ *ℤ-zero factor) (within t.column) in cc

    pub adding-step : (next : ℤ) → t.column < length sums → fma (sum_at sums t.column) mult (factor *ℤ t.coef) ≡ Some next → Adding mult factor start (front ++ t ∷ []) (set sums t.column next)
    adding-step next less e = record {
      length_is = length-set sums t.column next ∙ adding.length_is;
      sums_are = λ column. by column (nat_eq t.column column) refl;
    }
      where
        here : get_or (set sums t.column next) t.column (pos 0) ≡ next
        here = get_or-set_same sums t.column next (pos 0) less

        by : (column : ℕ) (b : Bool) → nat_eq t.column column ≡ b → fma (sum_at start column) mult (factor *ℤ coef_at column (front ++ t ∷ [])) ≡ Some (sum_at (set sums t.column next) column)
        by column true h =
            let same : t.column ≡ column = eqb-true t.column column h in
            let coef : coef_at t.column (front ++ t ∷ []) ≡ t.coef = coef_at-last t.column front t ∙ ap (λ b. coef_at t.column front +ℤ cond b t.coef (pos 0)) (eq-eqb t.column t.column refl) ∙ ap (λ z. z +ℤ t.coef) (coef_at-before front t rest reduced) ∙ +ℤ_idl t.coef in
            subst (λ j. fma (sum_at start j) mult (factor *ℤ coef_at j (front ++ t ∷ [])) ≡ Some (sum_at (set sums t.column next) j)) same (ap (λ z. fma (sum_at start t.column) mult (factor *ℤ z)) coef ∙ ap (λ s. fma s mult (factor *ℤ t.coef)) (sym sum-before) ∙ e ∙ ap (λ z. Some z) (sym here))
        by column false h =
            let coef : coef_at column (front ++ t ∷ []) ≡ coef_at column front = coef_at-last column front t ∙ ap (λ b. coef_at column front +ℤ cond b t.coef (pos 0)) h ∙ +ℤ_idr (coef_at column front) in
            let apart : column ≢ t.column = (λ same. let g : nat_eq t.column column ≡ true = eq-eqb t.column column (sym same) in absurd (let bad : true ≡ false = sym g ∙ h in cc)) in
            ap (λ z. fma (sum_at start column) mult (factor *ℤ z)) coef ∙ adding.sums_are column ∙ ap (λ z. Some z) (sym (get_or-set_other sums t.column column next (pos 0) apart))

    pub adding-stuck : (position : ℕ) (k : Stuck) → IsStuckStep t.column position (sum_at sums t.column) mult (factor *ℤ t.coef) k → IsStuckStep t.column position (sum_at start t.column) mult (factor *ℤ coef_at t.column (front ++ t ∷ rest)) k
    adding-stuck position k step =
        subst (λ s. IsStuckStep t.column position s mult (factor *ℤ coef_at t.column (front ++ t ∷ rest)) k) sum-before (subst (λ z. IsStuckStep t.column position (sum_at sums t.column) mult (factor *ℤ z) k) (sym (coef_at-own front t rest reduced)) step)

  pub adding-within : (front : List Term) (sums : List ℤ) → Adding mult factor start front sums → (column : ℕ) → IsWithin (sum_at sums column)
  adding-within front sums adding column =
      fma-within (sum_at start column) mult (factor *ℤ coef_at column front) (sum_at sums column) (adding.sums_are column)

-- ---- part by part

running_sum-last : (rows : Rows) (number : LitRow → ℤ) (s : ℤ) (ps : List Part) (p : Part) → running_sum rows number s (ps ++ p ∷ []) ≡ option_and_then (λ z. fma z p.mult (number_in number (row_of rows p.lit))) (running_sum rows number s ps)
running_sum-last rows number s [] p = by (fma s p.mult (number_in number (row_of rows p.lit)))
  where
    by : (o : Option ℤ) → option_and_then (λ z. Some z) o ≡ o
    by None = refl
    by (Some z) = refl
running_sum-last rows number s (q ∷ qs) p = by (λ z. running_sum-last rows number z qs p) (fma s q.mult (number_in number (row_of rows q.lit)))
  where
    by : ((z : ℤ) → running_sum rows number z (qs ++ p ∷ []) ≡ option_and_then (λ z. fma z p.mult (number_in number (row_of rows p.lit))) (running_sum rows number z qs)) → (o : Option ℤ) → option_and_then (λ z. running_sum rows number z (qs ++ p ∷ [])) o ≡ option_and_then (λ z. fma z p.mult (number_in number (row_of rows p.lit))) (option_and_then (λ z. running_sum rows number z qs) o)
    by rest None = refl
    by rest (Some z) = rest z

running-more : (rows : Rows) (number : LitRow → ℤ) (ps : List Part) (p : Part) (s next : ℤ) → running_sum rows number (pos 0) ps ≡ Some s → fma s p.mult (number_in number (row_of rows p.lit)) ≡ Some next → running_sum rows number (pos 0) (ps ++ p ∷ []) ≡ Some next
running-more rows number ps p s next before step =
    running_sum-last rows number (pos 0) ps p ∙ ap (λ o. option_and_then (λ z. fma z p.mult (number_in number (row_of rows p.lit))) o) before ∙ step

pub sums-start : (rows : Rows) (sums : Sums) → AreZero rows.columns sums → AreSums rows [] sums
sums-start rows sums zeros = record {
  length_is = zeros.length_is;
  within = record {
    columns = λ column. subst IsWithin (sym (zeros.zeros column)) (omega arith);
    bound = subst IsWithin (sym zeros.bound) (omega arith);
  };
  columns = λ column within. ap (λ z. Some z) (sym (zeros.zeros column));
  bound = ap (λ z. Some z) (sym zeros.bound);
}

pub sums-step : (rows : Rows) (front : List Part) (p : Part) (sums new : Sums) → AreSums rows front sums → AreAfterPart rows p sums new → length new.columns.items ≡ rows.columns → AllWithin new → AreSums rows (front ++ p ∷ []) new
sums-step rows front p sums new are after count within = record {
  length_is = count;
  within = within;
  columns = λ column less. running-more rows (row_coef column) front p (sum_at sums.columns.items column) (sum_at new.columns.items column) (are.columns column less) (after.columns column less);
  bound = running-more rows (λ row. row.bound) front p sums.bound new.bound are.bound after.bound;
}

pub sums-fit : (rows : Rows) (parts : List Part) (sums : Sums) → AreSums rows parts sums → SumsFit rows parts
sums-fit rows parts sums are = record {
  columns = λ column less. subst (λ o. IsSome o) (sym (are.columns column less)) refl;
  bound = subst (λ o. IsSome o) (sym are.bound) refl;
}

pub sums-stuck : (rows : Rows) (front : List Part) (p : Part) (behind : List Part) (sums : Sums) (position : ℕ) (k : Stuck) → AreSums rows front sums → position ≡ length front → IsStuckInPart rows p position sums k → IsStuckSum rows (front ++ p ∷ behind) k
sums-stuck rows front p behind sums position k are at (inl (column, (less, step))) = inl (
  column,
  less,
  record { front = front; part = p; behind = behind; all = refl; sum = sum_at sums.columns.items column; runs = are.columns column less; step = subst (λ n. IsStuckStep column n (sum_at sums.columns.items column) p.mult (number_in (row_coef column) (row_of rows p.lit)) k) at step },
)
sums-stuck rows front p behind sums position k are at (inr step) =
    inr (record { front = front; part = p; behind = behind; all = refl; sum = sums.bound; runs = are.bound; step = subst (λ n. IsStuckStep rows.columns n sums.bound p.mult (number_in (λ row. row.bound) (row_of rows p.lit)) k) at step })
