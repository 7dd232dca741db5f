-- What the functions of the running sums need: the row of a bound, small products, and one more term or part.
use Rattle.std.proofs.Common.{◌≡◌, ℕ, zero, suc, ◌+◌, ◌-◌, ◌*◌, ◌<◌, ◌≤◌, ◌^◌, cond, List, [], ◌∷◌, ◌++◌, take, drop, set, get_or, length, Bool, true, false, All, None, Some, Result, Ok, Err, OnOk, IfErr, slice_get, ℤ, pos, ◌*ℤ◌, unsigned_abs, to_z, of_z, FitsSigned, inl, inr, refl, sym, ap, subst, ◌∙◌, arith}
use Rattle.std.specs.Int.{w128}
use Rattle.std.specs.Option.{option_map_or}
use Rattle.std.proofs.lemmas.Bool.{lt-ltb, le-ltb}
use Rattle.std.proofs.lemmas.Int.{ints, to_z-of_z, fits_signed_from_abs, unsigned_abs-mul}
use Rattle.std.proofs.lemmas.List.{take_more, take_all}
use Rattle.std.proofs.Math.Nat.{mul-le-mul_left}
use Rattle.whole.specs.Numbers.{IsWithin, fma}
use Rattle.whole.specs.declared.answers.Stuck.{Stuck}
use Rattle.linear_form.specs.declared.lists.Term.{Term}
use Rattle.linear_form.specs.Reduced.{IsReduced}
use Rattle.linear_form.specs.Sums.{coef_at}
use Rattle.farkas_cert.specs.declared.trees.Part.{Part}
use Rattle.clause_form.specs.Derivations.{Rows, number_in, row_coef, row_of, terms_of}
use Rattle.simplex.specs.declared.outcome.Bound.{Bound}
use Rattle.lra_theory.specs.declared.sums.Sums.{Sums}
use Rattle.lra_theory.specs.Clashes.{IsStuckStep, IsStuckSum}
use Rattle.lra_theory.specs.Literals.{bound_of, form_terms}
use Rattle.lra_theory.specs.Soundness.{IsGood}
use Rattle.lra_theory.specs.Totals.{AllWithin, AreAfterPart, AreAfterRow, AreSums, IsStuckInPart, IsStuckInRow, signed, sum_at}
use Rattle.lra_theory.proofs.FormLaws.{some_at}
use Rattle.lra_theory.proofs.LeafLaws.{row_of-bound, row_of-none}
use Rattle.lra_theory.proofs.ListLaws.{length_take, split_at}
use Rattle.lra_theory.proofs.TotalLaws.{Adding, adding-step, adding-stuck, fma-nothing, fma-within, sums-step, sums-stuck}

-- ---- small numbers

same_bits : (z : ℤ) → IsWithin z → to_z w128 (of_z w128 z) ≡ z
same_bits z small = to_z-of_z w128 z (fits_signed_from_abs w128 z small)

pub small_within : (z : ℤ) → unsigned_abs z < 10 ^ 16 → IsWithin z
small_within z small = omega arith

pub small_product : (a b : ℤ) → unsigned_abs a < 10 ^ 16 → unsigned_abs b < 10 ^ 16 → IsWithin (a *ℤ b)
small_product a b p q = subst (λ n. n < 2 ^ 127) (sym (unsigned_abs-mul a b)) (small (unsigned_abs a) (unsigned_abs b) p q)
  where
    small : (m n : ℕ) → m < 10 ^ 16 → n < 10 ^ 16 → m * n < 2 ^ 127
    small m n p q =
        let le : n ≤ 10 ^ 16 = omega arith in
        let times : m * n ≤ m * 10 ^ 16 = mul-le-mul_left m le in omega arith

passed_product : (a b : ℤ) → unsigned_abs a < 10 ^ 16 → unsigned_abs b < 10 ^ 16 → to_z w128 (of_z w128 a) *ℤ to_z w128 (of_z w128 b) ≡ a *ℤ b
passed_product a b p q =
    ap (λ z. z *ℤ to_z w128 (of_z w128 b)) (same_bits a (small_within a p)) ∙ ap (λ z. a *ℤ z) (same_bits b (small_within b q))

pub product_fits : (a b : ℤ) → unsigned_abs a < 10 ^ 16 → unsigned_abs b < 10 ^ 16 → FitsSigned w128 (to_z w128 (of_z w128 a) *ℤ to_z w128 (of_z w128 b))
product_fits a b p q =
    fits_signed_from_abs w128 (to_z w128 (of_z w128 a) *ℤ to_z w128 (of_z w128 b)) (subst IsWithin (sym (passed_product a b p q)) (small_product a b p q))

signed-size : (upper : Bool) (z : ℤ) → unsigned_abs (signed upper z) ≡ unsigned_abs z
signed-size true z = refl
signed-size false z = omega (arith, ints)

pub signed_small : (upper : Bool) (z : ℤ) → unsigned_abs z < 10 ^ 16 → unsigned_abs (signed upper z) < 10 ^ 16
signed_small upper z small = subst (λ n. n < 10 ^ 16) (sym (signed-size upper z)) small

-- ---- the terms of a bound's row

pub lone_terms : (rows : Rows) (form : ℕ) → form < rows.columns → record { column = form; coef = pos 1 } ∷ [] ≡ terms_of rows form
lone_terms rows form less = sym (ap (λ b. cond b (record { column = form; coef = pos 1 } ∷ []) (option_map_or (λ f. f.terms) (slice_get rows.forms (form - rows.columns)) [])) (lt-ltb form rows.columns less))

pub listed_terms : (rows : Rows) (form : ℕ) → rows.columns ≤ form → form_terms rows (form - rows.columns) ≡ terms_of rows form
listed_terms rows form least = sym (ap (λ b. cond b (record { column = form; coef = pos 1 } ∷ []) (option_map_or (λ f. f.terms) (slice_get rows.forms (form - rows.columns)) [])) (le-ltb form rows.columns least))

-- the terms are as a checker's must be
pub record AreGoodTerms (columns : ℕ) (ts : List Term) : Type 0 where
  pub reduced : IsReduced ts
  pub in_range : All (λ t. t.column < columns) ts
  pub small : All (λ t. unsigned_abs t.coef < 10 ^ 16) ts

pub good_terms : (rows : Rows) (number : ℕ) → IsGood rows → number < length rows.forms → AreGoodTerms rows.columns (form_terms rows number)
good_terms rows number good within =
    let at = some_at rows.forms number within in
    let g = good.forms number at.0 at.1 in
    subst (λ o. AreGoodTerms rows.columns (option_map_or (λ f. f.terms) o [])) (sym at.1) (record { reduced = g.normal.is_reduced; in_range = g.in_range; small = g.small })

-- ---- one term more

module _ (mult factor : ℤ) (start : List ℤ) (within : (column : ℕ) → IsWithin (sum_at start column)) (ts : List Term) (reduced : IsReduced ts) (i : ℕ) (d : Term) (less : i < length ts) (sums : List ℤ) (adding : Adding mult factor start (take i ts) sums) where
  apart : IsReduced (take i ts ++ get_or ts i d ∷ drop (i + 1) ts)
  apart = subst IsReduced (split_at ts i d less) reduced

  pub term-step : (next : ℤ) (new : List ℤ) → (get_or ts i d).column < length start → fma (sum_at sums (get_or ts i d).column) mult (factor *ℤ (get_or ts i d).coef) ≡ Some next → new ≡ set sums (get_or ts i d).column next → Adding mult factor start (take (i + 1) ts) new
  term-step next new column e is =
      subst (λ us. Adding mult factor start us new) (sym (take_more ts i d less)) (subst (λ l. Adding mult factor start (take i ts ++ get_or ts i d ∷ []) l) (sym is) (adding-step mult factor start within (take i ts) (get_or ts i d) (drop (i + 1) ts) apart sums adding next (subst (λ n. (get_or ts i d).column < n) (sym adding.length_is) column) e))

  pub term-stuck : (position : ℕ) (k : Stuck) → (get_or ts i d).column < length start → IsStuckStep (get_or ts i d).column position (sum_at sums (get_or ts i d).column) mult (factor *ℤ (get_or ts i d).coef) k → (column : ℕ) × (column < length start) × IsStuckStep column position (sum_at start column) mult (factor *ℤ coef_at column ts) k
  term-stuck position k column step = (
    (get_or ts i d).column,
    column,
    subst (λ us. IsStuckStep (get_or ts i d).column position (sum_at start (get_or ts i d).column) mult (factor *ℤ coef_at (get_or ts i d).column us) k) (sym (split_at ts i d less)) (adding-stuck mult factor start within (take i ts) (get_or ts i d) (drop (i + 1) ts) apart sums adding position k step),
  )

pub all-added : (mult factor : ℤ) (start : List ℤ) (ts : List Term) (i : ℕ) (sums : List ℤ) → length ts ≤ i → Adding mult factor start (take i ts) sums → (column : ℕ) → fma (sum_at start column) mult (factor *ℤ coef_at column ts) ≡ Some (sum_at sums column)
all-added mult factor start ts i sums past adding column =
    subst (λ us. fma (sum_at start column) mult (factor *ℤ coef_at column us) ≡ Some (sum_at sums column)) (take_all i ts past) (adding.sums_are column)

same_at : (xs : List ℤ) (i : ℕ) (d e : ℤ) → i < length xs → get_or xs i d ≡ get_or xs i e
same_at [] i d e within = absurd (omega arith)
same_at (x ∷ xs) zero d e within = refl
same_at (x ∷ xs) (suc i) d e within = same_at xs i d e (omega arith)

-- the sum that is read
pub read-at : (xs : List ℤ) (i : ℕ) (s : ℤ) → i < length xs → s ≡ get_or xs i s → s ≡ sum_at xs i
read-at xs i s within e = e ∙ same_at xs i s (pos 0) within

-- ---- the row of a bound

pub row-added : (rows : Rows) (b : Bound) (mult factor number : ℤ) (old new : Sums) (columns : List ℤ) (r : Result (Unit {0}) Stuck) → factor ≡ signed b.upper b.den → number ≡ signed b.upper b.num → ((column : ℕ) → fma (sum_at old.columns.items column) mult (factor *ℤ coef_at column (terms_of rows b.var)) ≡ Some (sum_at columns column)) → new.columns.items ≡ columns → OnOk r (fma old.bound mult number ≡ Some new.bound) → OnOk r (AreAfterRow rows b mult old new)
row-added rows b mult factor number old new columns (Err k) factor_is number_is added same ok = tt
row-added rows b mult factor number old new columns (Ok u) factor_is number_is added same ok = record {
  columns = λ column. subst (λ l. fma (sum_at old.columns.items column) mult (signed b.upper b.den *ℤ coef_at column (terms_of rows b.var)) ≡ Some (sum_at l column)) (sym same) (subst (λ z. fma (sum_at old.columns.items column) mult (z *ℤ coef_at column (terms_of rows b.var)) ≡ Some (sum_at columns column)) factor_is (added column));
  bound = subst (λ z. fma old.bound mult z ≡ Some new.bound) number_is ok;
}

pub row-stuck_bound : (rows : Rows) (b : Bound) (mult number : ℤ) (at position : ℕ) (old : Sums) (r : Result (Unit {0}) Stuck) → number ≡ signed b.upper b.num → at ≡ rows.columns → IfErr r (IsStuckStep at position old.bound mult number) → IfErr r (IsStuckInRow rows b mult position old)
row-stuck_bound rows b mult number at position old (Ok u) number_is at_is stuck = tt
row-stuck_bound rows b mult number at position old (Err k) number_is at_is stuck =
    inr (subst (λ n. IsStuckStep n position old.bound mult (signed b.upper b.num) k) at_is (subst (λ z. IsStuckStep at position old.bound mult z k) number_is stuck))

pub row-stuck_column : (rows : Rows) (b : Bound) (mult factor : ℤ) (position : ℕ) (old : Sums) (k : Stuck) → factor ≡ signed b.upper b.den → length old.columns.items ≡ rows.columns → ((column : ℕ) × (column < length old.columns.items) × IsStuckStep column position (sum_at old.columns.items column) mult (factor *ℤ coef_at column (terms_of rows b.var)) k) → IsStuckInRow rows b mult position old k
row-stuck_column rows b mult factor position old k factor_is count (column, less, step) =
    inl (column, (subst (λ n. column < n) count less, subst (λ z. IsStuckStep column position (sum_at old.columns.items column) mult (z *ℤ coef_at column (terms_of rows b.var)) k) factor_is step))

-- ---- the row of a part

pub row-within : (rows : Rows) (b : Bound) (mult : ℤ) (old new : Sums) → AreAfterRow rows b mult old new → AllWithin new
row-within rows b mult old new after = record {
  columns = λ column. fma-within (sum_at old.columns.items column) mult (signed b.upper b.den *ℤ coef_at column (terms_of rows b.var)) (sum_at new.columns.items column) (after.columns column);
  bound = fma-within old.bound mult (signed b.upper b.num) new.bound after.bound;
}

pub of-row : (rows : Rows) (p : Part) (b : Bound) (old new : Sums) → bound_of rows p.lit ≡ Some b → AreAfterRow rows b p.mult old new → AreAfterPart rows p old new
of-row rows p b old new e after = record {
  columns = λ column less. subst (λ row. fma (sum_at old.columns.items column) p.mult (number_in (row_coef column) row) ≡ Some (sum_at new.columns.items column)) (sym (row_of-bound rows p.lit b e)) (after.columns column);
  bound = subst (λ row. fma old.bound p.mult (number_in (λ r. r.bound) row) ≡ Some new.bound) (sym (row_of-bound rows p.lit b e)) after.bound;
}

pub stuck-of-row : (rows : Rows) (p : Part) (b : Bound) (position : ℕ) (old : Sums) (k : Stuck) → bound_of rows p.lit ≡ Some b → IsStuckInRow rows b p.mult position old k → IsStuckInPart rows p position old k
stuck-of-row rows p b position old k e (inl (column, (less, step))) =
    inl (column, (less, subst (λ row. IsStuckStep column position (sum_at old.columns.items column) p.mult (number_in (row_coef column) row) k) (sym (row_of-bound rows p.lit b e)) step))
stuck-of-row rows p b position old k e (inr step) =
    inr (subst (λ row. IsStuckStep rows.columns position old.bound p.mult (number_in (λ r. r.bound) row) k) (sym (row_of-bound rows p.lit b e)) step)

pub part-stuck_row : (rows : Rows) (p : Part) (b : Bound) (position : ℕ) (old : Sums) (r : Result (Unit {0}) Stuck) → bound_of rows p.lit ≡ Some b → IfErr r (IsStuckInRow rows b p.mult position old) → IfErr r (IsStuckInPart rows p position old)
part-stuck_row rows p b position old (Ok u) e stuck = tt
part-stuck_row rows p b position old (Err k) e stuck = stuck-of-row rows p b position old k e stuck

pub of-no-row : (rows : Rows) (p : Part) (sums : Sums) → bound_of rows p.lit ≡ None → AllWithin sums → AreAfterPart rows p sums sums
of-no-row rows p sums none within = record {
  columns = λ column less. fma-nothing (sum_at sums.columns.items column) p.mult (number_in (row_coef column) (row_of rows p.lit)) (ap (number_in (row_coef column)) (row_of-none rows p.lit none)) (within.columns column);
  bound = fma-nothing sums.bound p.mult (number_in (λ r. r.bound) (row_of rows p.lit)) (ap (number_in (λ r. r.bound)) (row_of-none rows p.lit none)) within.bound;
}

-- ---- one part more

module _ (rows : Rows) (ps : List Part) (i : ℕ) (d : Part) (less : i < length ps) (sums : Sums) (are : AreSums rows (take i ps) sums) where
  pub part-step : (new : Sums) → AreAfterPart rows (get_or ps i d) sums new → length new.columns.items ≡ rows.columns → AllWithin new → AreSums rows (take (i + 1) ps) new
  part-step new after count within =
      subst (λ qs. AreSums rows qs new) (sym (take_more ps i d less)) (sums-step rows (take i ps) (get_or ps i d) sums new are after count within)

  pub part-stuck : (k : Stuck) → IsStuckInPart rows (get_or ps i d) i sums k → IsStuckSum rows ps k
  part-stuck k stuck =
      subst (λ qs. IsStuckSum rows qs k) (sym (split_at ps i d less)) (sums-stuck rows (take i ps) (get_or ps i d) (drop (i + 1) ps) sums i k are (length_take ps i less) stuck)
