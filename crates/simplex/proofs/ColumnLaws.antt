-- Each column alone, with what the forms make of it, meets the forms.
use Rattle.std.proofs.Common.{◌≡◌, ℕ, ◌+◌, ◌-◌, ◌<◌, ◌≤◌, cond, true, false, eqb, nat_lt, List, pos, ◌⊎◌, inl, inr, refl, sym, ap, ◌∙◌, arith}
use Rattle.std.specs.Global.{Vec}
use Rattle.std.proofs.lemmas.Bool.{eq-eqb, ne_eqb, lt-ltb, le-ltb}
use Rattle.ordered_field.specs.Rational.{ℚ, whole, ◌+ℚ◌, ◌*ℚ◌}
use Rattle.ordered_field.proofs.RingLaws.{+ℚ-zero, *ℚ-one, *ℚ-zero, zero-*ℚ}
use Rattle.field_rows.specs.Rows.{row_value, put}
use Rattle.field_rows.proofs.SumLaws.{sum_below-same, sum_below-scaled, put-here, put-elsewhere, same_or_apart}
use Rattle.field_rows.proofs.PivotLaws.{rest_of, row_value-split}
use Rattle.tableau.specs.Terms.{form, coefficient_of, form_value, AreForms, MeetsForms}
use Rattle.tableau.specs.declared.terms.RowTerm.{RowTerm}
use Rattle.tableau.proofs.TermLaws.{form_value-is}
use Rattle.simplex.specs.Columns.{written_out, ContradictionsCancelColumns}

module _ (n : ℕ) (rows : List (Vec RowTerm)) (j : ℕ) (inside : j < n) where
  own : (v : ℕ) → v ≡ j → written_out n rows j v ≡ whole (pos 1)
  own v e = rw (lt-ltb v n (omega arith), eq-eqb v j e) refl

  other : (v : ℕ) → v < n → (v ≡ j → ⊥) → written_out n rows j v ≡ whole (pos 0)
  other v below apart = rw (lt-ltb v n below, ne_eqb v j apart) refl

  of_form : (i : ℕ) → written_out n rows j (n + i) ≡ whole (coefficient_of (form rows i) j)
  of_form i =
      let same : n + i - n ≡ i = omega arith in
      rw (le-ltb (n + i) n (omega arith)) (ap (λ k. whole (coefficient_of (form rows k) j)) same)

  -- a row's value where only column j is 1
  at_column : (c : ℕ → ℚ) → row_value n c (written_out n rows j) ≡ c j
  at_column c =
      row_value-split n j c (written_out n rows j) inside
      ∙ ap (λ s. s +ℚ rest_of n j c (written_out n rows j)) (ap (λ y. c j *ℚ y) (own j refl) ∙ *ℚ-one (c j))
      ∙ ap (λ s. c j +ℚ s) (sum_below-same n _ _ (λ k below. none k below (same_or_apart j k)) ∙ sum_below-scaled n (whole (pos 0)) c ∙ zero-*ℚ _)
      ∙ +ℚ-zero (c j)
    where
      none : (k : ℕ) → k < n → (k ≡ j) ⊎ (k ≡ j → ⊥) → put j (whole (pos 0)) (λ k. c k *ℚ written_out n rows j k) k ≡ whole (pos 0) *ℚ c k
      none k below (inl e) = put-here j k _ _ e ∙ sym (zero-*ℚ (c k))
      none k below (inr apart) =
          put-elsewhere j k _ _ apart ∙ ap (λ y. c k *ℚ y) (other k below apart) ∙ *ℚ-zero (c k) ∙ sym (zero-*ℚ (c k))

  pub column-meets : AreForms n rows → MeetsForms n rows (written_out n rows j)
  unfolding MeetsForms
  column-meets forms i within =
      of_form i ∙ sym (at_column (λ v. whole (coefficient_of (form rows i) v))) ∙ form_value-is n n (form rows i) (written_out n rows j) (forms i) (omega arith)

pub cancels_columns : {F : Type 0} (value : F → ℚ) → ContradictionsCancelColumns value
cancels_columns value n rows t limits ws forms exact contradiction j inside =
    contradiction.cancels (written_out n rows j) (exact (written_out n rows j) (column-meets n rows j inside forms))
