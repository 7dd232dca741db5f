-- Coefficients and values of lists of terms.
use Rattle.std.proofs.Common.{◌≡◌, ℕ, zero, suc, ◌+◌, ◌<◌, ◌≤◌, List, [], ◌∷◌, ◌++◌, length, get_or, take, ◌⊎◌, inl, inr, pos, refl, sym, ap, subst, ◌∙◌, arith}
use Rattle.std.specs.Global.{Vec}
use Rattle.std.specs.List.{All}
use Rattle.std.proofs.lemmas.Bool.{eq-eqb, ne_eqb, cases_eq}
use Rattle.std.proofs.lemmas.List.{take_more, get_or-take, length-take-le, get_or_default}
use Rattle.std.proofs.lemmas.List.Elements.{All-nil, All-cons, All-head, All-tail}
use Rattle.ordered_field.specs.Rational.{ℚ, whole, ◌+ℚ◌, ◌*ℚ◌}
use Rattle.ordered_field.proofs.RingLaws.{zero-*ℚ, +ℚ-zero}
use Rattle.field_rows.specs.Rows.{row_value, put}
use Rattle.field_rows.specs.Sums.{sum_below}
use Rattle.field_rows.proofs.SumLaws.{sum_below-same, sum_below-split, put-here, put-elsewhere}
use Rattle.tableau.specs.Terms.{form, coefficient_of, form_value, AreTerms, AreForms}
use Rattle.tableau.specs.declared.terms.RowTerm.{RowTerm}

pub form-at : (forms : List (Vec RowTerm)) (i : ℕ) (d : Vec RowTerm) → i < length forms → form forms i ≡ (get_or forms i d).items
unfolding form
form-at [] i d within = absurd (omega arith)
form-at (r ∷ rs) zero d within = refl
form-at (r ∷ rs) (suc i) d within = form-at rs i d (omega arith)

pub form-past : (forms : List (Vec RowTerm)) (j : ℕ) → length forms ≤ j → form forms j ≡ []
unfolding form
form-past [] j past = refl
form-past (r ∷ rs) zero past = absurd (omega arith)
form-past (r ∷ rs) (suc j) past = form-past rs j (omega arith)

-- the forms of one list of terms
pub one_form : (n : ℕ) (rows : List (Vec RowTerm)) (ts : Vec RowTerm) → rows ≡ ts ∷ [] → AreTerms n ts.items → AreForms n rows
unfolding form
one_form n rows ts e h j = subst (λ l. AreTerms n (form l j)) (sym e) (at j)
  where
    at : (j : ℕ) → AreTerms n (form (ts ∷ []) j)
    at zero = h
    at (suc j) = tt

pub two_terms : (n : ℕ) (a b : RowTerm) → a.var < n → b.var < n → (b.var ≡ a.var → ⊥) → AreTerms n (a ∷ b ∷ [])
two_terms n a b p q apart = (
  p,
  All-cons (λ u. u.var ≡ a.var → ⊥) b [] apart (All-nil (λ u. u.var ≡ a.var → ⊥)),
  (q, All-nil (λ u. u.var ≡ b.var → ⊥), tt),
)

pub coefficient_of-none : (v : ℕ) → coefficient_of [] v ≡ pos 0
unfolding coefficient_of
coefficient_of-none v = refl

pub coefficient_of-here : (t : RowTerm) (ts : List RowTerm) (v : ℕ) → v ≡ t.var → coefficient_of (t ∷ ts) v ≡ t.coef
unfolding coefficient_of
coefficient_of-here t ts v here = rw (eq-eqb v t.var here) refl

pub coefficient_of-there : (t : RowTerm) (ts : List RowTerm) (v : ℕ) → (v ≡ t.var → ⊥) → coefficient_of (t ∷ ts) v ≡ coefficient_of ts v
unfolding coefficient_of
coefficient_of-there t ts v apart = rw (ne_eqb v t.var apart) refl

-- no term is of a variable beyond the columns
pub coefficient_of-beyond : (n : ℕ) (ts : List RowTerm) (v : ℕ) → AreTerms n ts → n ≤ v → coefficient_of ts v ≡ pos 0
coefficient_of-beyond n [] v terms beyond = coefficient_of-none v
coefficient_of-beyond n (t ∷ ts) v terms beyond =
    coefficient_of-there t ts v (λ same. absurd (omega (arith, terms.0))) ∙ coefficient_of-beyond n ts v terms.2 beyond

absent : (ts : List RowTerm) (v : ℕ) → All (λ u. u.var ≡ v → ⊥) ts → coefficient_of ts v ≡ pos 0
absent [] v apart = coefficient_of-none v
absent (t ∷ ts) v apart =
    coefficient_of-there t ts v (λ same. All-head (λ u. u.var ≡ v → ⊥) t ts apart (sym same))
    ∙ absent ts v (All-tail (λ u. u.var ≡ v → ⊥) t ts apart)

-- ---- one more term

pushed_here : (ts : List RowTerm) (t : RowTerm) (v : ℕ) → All (λ u. u.var ≡ t.var → ⊥) ts → v ≡ t.var → coefficient_of (ts ++ t ∷ []) v ≡ t.coef
pushed_here [] t v apart here = coefficient_of-here t [] v here
pushed_here (u ∷ us) t v apart here =
    coefficient_of-there u (us ++ t ∷ []) v (λ same. All-head (λ w. w.var ≡ t.var → ⊥) u us apart (sym same ∙ here))
    ∙ pushed_here us t v (All-tail (λ w. w.var ≡ t.var → ⊥) u us apart) here

pushed_there : (ts : List RowTerm) (t : RowTerm) (v : ℕ) → (v ≡ t.var → ⊥) → coefficient_of (ts ++ t ∷ []) v ≡ coefficient_of ts v
pushed_there [] t v apart = coefficient_of-there t [] v apart
pushed_there (u ∷ us) t v apart = by_place (pushed_there us t v apart) (cases_eq v u.var)
  where
    by_place : coefficient_of (us ++ t ∷ []) v ≡ coefficient_of us v → (v ≡ u.var) ⊎ (v ≡ u.var → ⊥) → coefficient_of (u ∷ (us ++ t ∷ [])) v ≡ coefficient_of (u ∷ us) v
    by_place rest (inl here) = coefficient_of-here u (us ++ t ∷ []) v here ∙ sym (coefficient_of-here u us v here)
    by_place rest (inr other) =
        coefficient_of-there u (us ++ t ∷ []) v other ∙ rest ∙ sym (coefficient_of-there u us v other)

-- two terms are of different variables
terms_apart : (n : ℕ) (ts : List RowTerm) (j i : ℕ) (d : RowTerm) → AreTerms n ts → j < i → i < length ts → (get_or ts j d).var ≡ (get_or ts i d).var → ⊥
terms_apart n [] j i d terms less within = absurd (omega arith)
terms_apart n (t ∷ ts) zero zero d terms less within = absurd (omega arith)
terms_apart n (t ∷ ts) zero (suc i) d terms less within = λ same. terms.1 i d (omega arith) (sym same)
terms_apart n (t ∷ ts) (suc j) zero d terms less within = absurd (omega arith)
terms_apart n (t ∷ ts) (suc j) (suc i) d terms less within =
    terms_apart n ts j i d terms.2 (omega arith) (omega arith)

earlier_apart : (n : ℕ) (ts : List RowTerm) (i : ℕ) (d : RowTerm) → AreTerms n ts → i < length ts → All (λ u. u.var ≡ (get_or ts i d).var → ⊥) (take i ts)
earlier_apart n ts i d terms within = λ k e inside same.
    let below : k < i = omega (arith, length-take-le i ts (omega arith)) in
    terms_apart n ts k i d terms below within (ap (λ u. u.var) (sym (get_or-take i ts k e below ∙ get_or_default ts k e d (omega arith))) ∙ same)

-- the coefficients of the first i + 1 terms: one is put to those of the first i
pub coefficient_of-more : (n : ℕ) (ts : List RowTerm) (i : ℕ) (d : RowTerm) (v : ℕ) → AreTerms n ts → i < length ts → whole (coefficient_of (take (i + 1) ts) v) ≡ put (get_or ts i d).var (whole (get_or ts i d).coef) (λ u. whole (coefficient_of (take i ts) u)) v
coefficient_of-more n ts i d v terms within =
    ap (λ l. whole (coefficient_of l v)) (take_more ts i d within) ∙ by_place (cases_eq v (get_or ts i d).var)
  where
    by_place : (v ≡ (get_or ts i d).var) ⊎ (v ≡ (get_or ts i d).var → ⊥) → whole (coefficient_of (take i ts ++ get_or ts i d ∷ []) v) ≡ put (get_or ts i d).var (whole (get_or ts i d).coef) (λ u. whole (coefficient_of (take i ts) u)) v
    by_place (inl here) =
        ap whole (pushed_here (take i ts) (get_or ts i d) v (earlier_apart n ts i d terms within) here)
        ∙ sym (put-here (get_or ts i d).var v (whole (get_or ts i d).coef) (λ u. whole (coefficient_of (take i ts) u)) here)
    by_place (inr apart) =
        ap whole (pushed_there (take i ts) (get_or ts i d) v apart)
        ∙ sym (put-elsewhere (get_or ts i d).var v (whole (get_or ts i d).coef) (λ u. whole (coefficient_of (take i ts) u)) apart)

-- ---- values

sum_below-none : (m : ℕ) (f : ℕ → ℚ) → ((k : ℕ) → f k ≡ whole (pos 0)) → sum_below m f ≡ whole (pos 0)
unfolding sum_below
sum_below-none zero f none = refl
sum_below-none (suc m) f none =
    ap (λ s. s +ℚ f m) (sum_below-none m f none) ∙ ap (λ y. whole (pos 0) +ℚ y) (none m) ∙ +ℚ-zero (whole (pos 0))

-- the value of the row with a form's coefficients is the sum of its terms
pub form_value-is : (n m : ℕ) (ts : List RowTerm) (x : ℕ → ℚ) → AreTerms n ts → n ≤ m → row_value m (λ v. whole (coefficient_of ts v)) x ≡ form_value ts x
unfolding form_value
form_value-is n m [] x terms within =
    sum_below-none m (λ k. whole (coefficient_of [] k) *ℚ x k) (λ k. ap (λ z. whole z *ℚ x k) (coefficient_of-none k) ∙ zero-*ℚ (x k))
form_value-is n m (t ∷ ts) x terms within =
    sum_below-split m t.var (λ k. whole (coefficient_of (t ∷ ts) k) *ℚ x k) (omega (arith, terms.0))
    ∙ ap (λ y. y +ℚ sum_below m (put t.var (whole (pos 0)) (λ k. whole (coefficient_of (t ∷ ts) k) *ℚ x k))) (ap (λ z. whole z *ℚ x t.var) (coefficient_of-here t ts t.var refl))
    ∙ ap (λ y. whole t.coef *ℚ x t.var +ℚ y) (sum_below-same m _ _ (λ k inside. by_place k (cases_eq k t.var)) ∙ form_value-is n m ts x terms.2 within)
  where
    by_place : (k : ℕ) → (k ≡ t.var) ⊎ (k ≡ t.var → ⊥) → put t.var (whole (pos 0)) (λ u. whole (coefficient_of (t ∷ ts) u) *ℚ x u) k ≡ whole (coefficient_of ts k) *ℚ x k
    by_place k (inl here) =
        put-here t.var k (whole (pos 0)) (λ u. whole (coefficient_of (t ∷ ts) u) *ℚ x u) here
        ∙ sym (ap (λ z. whole z *ℚ x k) (ap (coefficient_of ts) here ∙ absent ts t.var terms.1) ∙ zero-*ℚ (x k))
    by_place k (inr apart) =
        put-elsewhere t.var k (whole (pos 0)) (λ u. whole (coefficient_of (t ∷ ts) u) *ℚ x u) apart
        ∙ ap (λ z. whole z *ℚ x k) (coefficient_of-there t ts k apart)
