-- Defining rows, and the vectors that meet them.
use Rattle.std.proofs.Common.{◌≡◌, ◌↔◌, ℕ, zero, suc, ◌+◌, ◌-◌, ◌<◌, nat_eq, cond, List, [], ◌∷◌, map, length, Bool, true, false, All, Option, None, Some, slice_get, unsigned_abs, pos, ◌+ℤ◌, refl, sym, ap, subst, ◌∙◌, arith}
use Rattle.std.specs.Global.{Vec}
use Rattle.std.specs.List.{Contains}
use Rattle.std.proofs.lemmas.Bool.{eqb-true, eq-eqb, ne_eqb, lt-ltb, le-ltb}
use Rattle.std.proofs.lemmas.List.Elements.{All-head, All-tail}
use Rattle.std.proofs.Math.IntN.{+ℤ_idr}
use Rattle.ordered_field.specs.Rational.{ℚ, whole, ◌+ℚ◌, ◌*ℚ◌}
use Rattle.ordered_field.proofs.Fractions.{whole-sum}
use Rattle.ordered_field.proofs.RingLaws.{zero-+ℚ, *ℚ-one, *ℚ-zero}
use Rattle.linear_form.specs.declared.lists.Form.{Form}
use Rattle.linear_form.specs.declared.lists.Term.{Term}
use Rattle.linear_form.specs.Reduced.{IsReduced, StartsAbove}
use Rattle.linear_form.specs.Sums.{coef_at}
use Rattle.linear_form.proofs.ReducedLists.{coef_at-below}
use Rattle.tableau.specs.Tables.{Table, Meets}
use Rattle.tableau.specs.Terms.{form, coefficient_of, form_value, AreTerms, AreForms, MeetsForms as MeetsRows}
use Rattle.tableau.specs.Opening.{IsOpening, IsStuckCoefficient as IsStuckRow}
use Rattle.tableau.specs.Operations.{IsOperation}
use Rattle.whole.specs.declared.answers.Op.TheVariants.{Product}
use Rattle.whole.specs.declared.answers.Place.TheVariants.{Bound as AtBound}
use Rattle.whole.specs.declared.answers.Stuck.{Stuck}
use Rattle.simplex.specs.States.{corner, zero_delta, State as SimplexState}
use Rattle.tableau.specs.declared.terms.RowTerm.{RowTerm}
use Rattle.clause_form.specs.Derivations.{Rows}
use Rattle.lra_theory.specs.Clashes.{at_column}
use Rattle.lra_theory.specs.Forms.{sum_at, Defines, IsStuckCoefficient, MeetsForms}
use Rattle.lra_theory.specs.Literals.{row_term, AreRowsOf}
use Rattle.lra_theory.specs.Soundness.{IsGood, IsOpened}

-- ---- a form's terms as those of a row

pub form_value-terms : (ts : List Term) (x : ℕ → ℚ) → form_value (map row_term ts) x ≡ sum_at ts x
unfolding form_value
form_value-terms [] x = refl
form_value-terms (t ∷ ts) x = ap (λ s. whole t.coef *ℚ x t.column +ℚ s) (form_value-terms ts x)

pub coefficient_of-terms : (ts : List Term) (v : ℕ) → IsReduced ts → coefficient_of (map row_term ts) v ≡ coef_at v ts
unfolding coefficient_of
coefficient_of-terms [] v reduced = refl
coefficient_of-terms (t ∷ ts) v reduced = by (coefficient_of-terms ts v reduced.2) (nat_eq v t.column) (nat_eq t.column v) refl refl
  where
    by : coefficient_of (map row_term ts) v ≡ coef_at v ts → (a b : Bool) → nat_eq v t.column ≡ a → nat_eq t.column v ≡ b → cond a t.coef (coefficient_of (map row_term ts) v) ≡ cond b (t.coef +ℤ coef_at v ts) (coef_at v ts)
    by rest true true e f =
        let same : v ≡ t.column = eqb-true v t.column e in
        sym (ap (λ z. t.coef +ℤ z) (coef_at-below v t.column ts reduced.2 (omega arith) reduced.1) ∙ +ℤ_idr t.coef)
    by rest true false e f =
        let same : t.column ≡ v = sym (eqb-true v t.column e) in
        let g : nat_eq t.column v ≡ true = eq-eqb t.column v same in absurd (cc)
    by rest false true e f =
        let same : v ≡ t.column = sym (eqb-true t.column v f) in
        let g : nat_eq v t.column ≡ true = eq-eqb v t.column same in absurd (cc)
    by rest false false e f = rest

above_all : (ts : List Term) (m : ℕ) → IsReduced ts → StartsAbove m ts → All (λ u. u.var ≡ m → ⊥) (map row_term ts)
above_all [] m reduced starts i d within = absurd (omega arith)
above_all (t ∷ ts) m reduced starts zero d within = λ same. absurd (omega (arith, starts, same))
above_all (t ∷ ts) m reduced starts (suc i) d within =
    above_all ts m reduced.2 (by ts reduced.1) i d (omega arith)
  where
    by : (us : List Term) → StartsAbove t.column us → StartsAbove m us
    by [] s = tt
    by (u ∷ us) s = omega (arith, s, starts)

pub are_terms : (n : ℕ) (ts : List Term) → IsReduced ts → All (λ t. t.column < n) ts → AreTerms n (map row_term ts)
are_terms n [] reduced within = tt
are_terms n (t ∷ ts) reduced within =
    (All-head (λ u. u.column < n) t ts within, above_all ts t.column reduced.2 reduced.1, are_terms n ts reduced.2 (All-tail (λ u. u.column < n) t ts within))

-- ---- the forms by their numbers

pub form-at_number : (forms : List Form) (rows : List (Vec RowTerm)) (j : ℕ) (f : Form) → AreRowsOf forms rows → slice_get forms j ≡ Some f → form rows j ≡ map row_term f.terms
unfolding form
form-at_number [] rows j f same some = absurd (cc)
form-at_number (g ∷ gs) [] j f same some = absurd (cc)
form-at_number (g ∷ gs) (r ∷ rs) zero f same some =
    let e : r.items ≡ map row_term g.terms = cc in
    let h : g ≡ f = cc in e ∙ ap (λ k. map row_term k.terms) h
form-at_number (g ∷ gs) (r ∷ rs) (suc j) f same some =
    let e : map (λ r. r.items) rs ≡ map (λ f. map row_term f.terms) gs = cc in form-at_number gs rs j f e some

pub form-beyond : (forms : List Form) (rows : List (Vec RowTerm)) (j : ℕ) → AreRowsOf forms rows → slice_get forms j ≡ None → form rows j ≡ []
unfolding form
form-beyond [] [] j same none = refl
form-beyond [] (r ∷ rs) j same none = absurd (cc)
form-beyond (g ∷ gs) [] j same none = absurd (cc)
form-beyond (g ∷ gs) (r ∷ rs) zero same none = absurd (cc)
form-beyond (g ∷ gs) (r ∷ rs) (suc j) same none =
    let e : map (λ r. r.items) rs ≡ map (λ f. map row_term f.terms) gs = cc in form-beyond gs rs j e none

pub same_count : (forms : List Form) (rows : List (Vec RowTerm)) → AreRowsOf forms rows → length rows ≡ length forms
same_count [] [] same = refl
same_count [] (r ∷ rs) same = absurd (cc)
same_count (g ∷ gs) [] same = absurd (cc)
same_count (g ∷ gs) (r ∷ rs) same =
    let e : map (λ r. r.items) rs ≡ map (λ f. map row_term f.terms) gs = cc in ap (λ n. suc n) (same_count gs rs e)

pub some_at : {A : Type 0} (xs : List A) (j : ℕ) → j < length xs → (x : A) × (slice_get xs j ≡ Some x)
some_at [] j within = absurd (omega arith)
some_at (x ∷ xs) zero within = (x, refl)
some_at (x ∷ xs) (suc j) within = some_at xs j (omega arith)

pub below_at : {A : Type 0} (xs : List A) (j : ℕ) (x : A) → slice_get xs j ≡ Some x → j < length xs
below_at [] j x some = absurd (cc)
below_at (y ∷ ys) zero x some = omega arith
below_at (y ∷ ys) (suc j) x some = let h = below_at ys j x some in omega arith

-- a row's term is one of the form's
term_of : (ts : List Term) (u : RowTerm) → Contains (map row_term ts) u → (t : Term) × (Contains ts t × (row_term t ≡ u))
term_of [] u (k, within, at) = absurd (omega arith)
term_of (t ∷ ts) u (zero, within, at) = (t, ((0, omega arith, refl), at))
term_of (t ∷ ts) u (suc k, within, at) =
    let rest = term_of ts u (k, omega arith, at) in
    (rest.0, ((suc rest.1.0.0, (let h = rest.1.0.1 in omega (arith, h)), rest.1.0.2), rest.1.1))

module _ (rows : Rows) (good : IsGood rows) (made : List (Vec RowTerm)) (same : AreRowsOf rows.forms made) where
  pub defining_forms : AreForms rows.columns made
  defining_forms j = by (slice_get rows.forms j) refl
    where
      by : (o : Option Form) → slice_get rows.forms j ≡ o → AreTerms rows.columns (form made j)
      by None none = subst (λ ts. AreTerms rows.columns ts) (sym (form-beyond rows.forms made j same none)) tt
      by (Some f) some =
          let g = good.forms j f some in
          subst (λ ts. AreTerms rows.columns ts) (sym (form-at_number rows.forms made j f same some)) (are_terms rows.columns f.terms g.normal.is_reduced g.in_range)

  pub meets_defining : (x : ℕ → ℚ) → MeetsForms rows x ↔ MeetsRows rows.columns made x
  unfolding MeetsRows
  meets_defining x = (
    λ meets j within. let f = some_at rows.forms j (subst (λ n. j < n) (same_count rows.forms made same) within) in
        meets j f.0 f.1 ∙ sym (form_value-terms f.0.terms x) ∙ ap (λ ts. form_value ts x) (sym (form-at_number rows.forms made j f.0 same f.1)),
    λ meets j f some. meets j (subst (λ n. j < n) (sym (same_count rows.forms made same)) (below_at rows.forms j f some)) ∙ ap (λ ts. form_value ts x) (form-at_number rows.forms made j f same some) ∙ form_value-terms f.terms x,
  )

  pub defines : {F : Type 0} (value : F → ℚ) (t : Table F) → IsOpening value rows.columns made t → Defines value rows t
  defines value t opening = record {
    columns = opening.columns;
    count = opening.count ∙ ap (λ n. rows.columns + n) (same_count rows.forms made same);
    non_basic = opening.non_basic;
    basic = λ j within. opening.basic j (subst (λ n. j < n) (sym (same_count rows.forms made same)) within);
    entries = λ j v f some. opening.entries j v (subst (λ n. j < n) (sym (same_count rows.forms made same)) (below_at rows.forms j f some)) ∙ ap (λ ts. whole (coefficient_of ts v)) (form-at_number rows.forms made j f same some) ∙ ap whole (coefficient_of-terms f.terms v (good.forms j f some).normal.is_reduced);
  }

  pub is_opened : {F : Type 0} (value : F → ℚ) (s : SimplexState F) (n : ℕ) → n ≡ rows.columns → IsOpening value n made s.table → ((x : ℕ → ℚ) → Meets value s.table x ↔ MeetsRows n made x) → ((v : ℕ) → (corner value s).value v ≡ zero_delta) → s.limits ≡ [] → s.rest ≡ None → IsOpened value rows s
  is_opened value s n at opening exact zeros unbounded works = record {
    table = defines value s.table (subst (λ m. IsOpening value m made s.table) at opening);
    exact = λ x. let both = subst (λ m. Meets value s.table x ↔ MeetsRows m made x) at (exact x) in (λ h. (meets_defining x).1 (both.0 h), λ h. both.1 ((meets_defining x).0 h));
    zeros = zeros;
    unbounded = unbounded;
    works = works;
  }

  pub is_stuck : (limit n : ℕ) → n ≡ rows.columns → (k : Stuck) → IsStuckRow limit n made k → IsStuckCoefficient limit rows k
  is_stuck limit n at k stuck =
      let f = some_at rows.forms stuck.row (subst (λ m. stuck.row < m) (same_count rows.forms made same) stuck.within) in
      let found = term_of f.0.terms stuck.term (subst (λ ts. Contains ts stuck.term) (form-at_number rows.forms made stuck.row f.0 same f.1) stuck.listed) in
      record {
        number = stuck.row;
        form = f.0;
        listed = f.1;
        term = found.0;
        of_form = found.1.0;
        operation = subst (λ t. IsOperation AtBound (rows.columns + stuck.row) t.var Product (whole t.coef) (whole (pos 1)) k) (sym found.1.1) (subst (λ m. IsOperation AtBound (m + stuck.row) stuck.term.var Product (whole stuck.term.coef) (whole (pos 1)) k) at stuck.operation);
        overflows = subst (λ t. limit < unsigned_abs t.coef) (sym found.1.1) stuck.overflows;
      }

-- ---- the vector of a column

module _ (rows : Rows) (column : ℕ) where
  at_own : (v : ℕ) → v < rows.columns → v ≡ column → at_column rows column v ≡ whole (pos 1)
  at_own v within same = rw (lt-ltb v rows.columns within, eq-eqb v column same) refl

  at_other : (v : ℕ) → v < rows.columns → (v ≡ column → ⊥) → at_column rows column v ≡ whole (pos 0)
  at_other v within apart = rw (lt-ltb v rows.columns within, ne_eqb v column apart) refl

  at_form : (j : ℕ) (f : Form) → slice_get rows.forms j ≡ Some f → at_column rows column (rows.columns + j) ≡ whole (coef_at column f.terms)
  at_form j f some =
      let less : rows.columns + j - rows.columns ≡ j = omega arith in
      rw (le-ltb (rows.columns + j) rows.columns (omega arith), less, some) refl

  sum_at-column : (ts : List Term) → All (λ t. t.column < rows.columns) ts → sum_at ts (at_column rows column) ≡ whole (coef_at column ts)
  sum_at-column [] within = refl
  sum_at-column (t ∷ ts) within = by (sum_at-column ts (All-tail (λ u. u.column < rows.columns) t ts within)) (nat_eq t.column column) refl
    where
      here : t.column < rows.columns
      here = All-head (λ u. u.column < rows.columns) t ts within

      by : sum_at ts (at_column rows column) ≡ whole (coef_at column ts) → (b : Bool) → nat_eq t.column column ≡ b → whole t.coef *ℚ at_column rows column t.column +ℚ sum_at ts (at_column rows column) ≡ whole (cond b (t.coef +ℤ coef_at column ts) (coef_at column ts))
      by rest true e =
          ap (λ y. whole t.coef *ℚ y +ℚ sum_at ts (at_column rows column)) (at_own t.column here (eqb-true t.column column e)) ∙ ap (λ y. y +ℚ sum_at ts (at_column rows column)) (*ℚ-one (whole t.coef)) ∙ ap (λ s. whole t.coef +ℚ s) rest ∙ sym (whole-sum t.coef (coef_at column ts))
      by rest false e =
          ap (λ y. whole t.coef *ℚ y +ℚ sum_at ts (at_column rows column)) (at_other t.column here (λ same. let g : nat_eq t.column column ≡ true = eq-eqb t.column column same in cc)) ∙ ap (λ y. y +ℚ sum_at ts (at_column rows column)) (*ℚ-zero (whole t.coef)) ∙ zero-+ℚ _ ∙ rest

  pub column-meets : IsGood rows → MeetsForms rows (at_column rows column)
  column-meets good j f some = at_form j f some ∙ sym (sum_at-column f.terms (good.forms j f some).in_range)
