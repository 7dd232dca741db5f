-- The value of a row as a sum over its entries.
use Rattle.std.proofs.Common.{◌≡◌, ℕ, ◌+◌, ◌<◌, ◌≤◌, ◌^◌, true, List, [], ◌∷◌, ◌⊎◌, inl, inr, pos, refl, sym, ap, subst, ◌∙◌, arith}
use Rattle.std.proofs.lemmas.Bool.{cases_order}
use Rattle.ordered_field.specs.Rational.{ℚ, whole, ◌+ℚ◌, ◌*ℚ◌}
use Rattle.ordered_field.proofs.RingLaws.{zero-*ℚ}
use Rattle.field_rows.specs.Sums.{sum_below}
use Rattle.field_rows.specs.Rows.{row_value, put, coefficient, IsRow, IsRowWithin}
use Rattle.field_rows.specs.declared.row.Entry.{Entry}
use Rattle.field_rows.proofs.SumLaws.{sum_below-same, sum_below-scaled, put-here, put-elsewhere, same_or_apart}
use Rattle.field_rows.proofs.RowLaws.{coefficient-none, coefficient-here, coefficient-there, coefficient-before}
use Rattle.field_rows.proofs.PivotLaws.{row_value-split}
use Rattle.tableau.specs.Tables.{Table, variables, is_basic, entry, Meets, IsTable}
use Rattle.simplex.specs.Assignments.{IsRowOf}

abbrev pub entries_value : {F : Type 0} → (F → ℚ) → List (Entry F) → (ℕ → ℚ) → ℚ
entries_value value [] x = whole (pos 0)
entries_value value (e ∷ es) x = value e.number *ℚ x e.variable +ℚ entries_value value es x

pub row_value-entries : {F : Type 0} (value : F → ℚ) (from n : ℕ) (row : List (Entry F)) (x : ℕ → ℚ) → IsRowWithin value from n row → row_value n (coefficient value row) x ≡ entries_value value row x
row_value-entries value from n [] x row =
    sum_below-same n _ _ (λ k below. ap (λ c. c *ℚ x k) (coefficient-none value k)) ∙ sum_below-scaled n (whole (pos 0)) x ∙ zero-*ℚ _
row_value-entries value from n (e ∷ es) x row =
    row_value-split n e.variable (coefficient value (e ∷ es)) x row.1
    ∙ ap (λ s. s +ℚ sum_below n (put e.variable (whole (pos 0)) (λ k. coefficient value (e ∷ es) k *ℚ x k))) (ap (λ c. c *ℚ x e.variable) (coefficient-here value e es e.variable refl))
    ∙ ap (λ s. value e.number *ℚ x e.variable +ℚ s) (sum_below-same n _ _ (λ k below. by k (same_or_apart e.variable k)) ∙ row_value-entries value (e.variable + 1) n es x row.3)
  where
    by : (k : ℕ) → (k ≡ e.variable) ⊎ (k ≡ e.variable → ⊥) → put e.variable (whole (pos 0)) (λ k. coefficient value (e ∷ es) k *ℚ x k) k ≡ coefficient value es k *ℚ x k
    by k (inl here) =
        put-here e.variable k _ _ here
        ∙ sym (ap (λ c. c *ℚ x k) (coefficient-before value (e.variable + 1) n es k row.3 (omega arith)) ∙ zero-*ℚ _)
    by k (inr apart) =
        put-elsewhere e.variable k _ _ apart ∙ ap (λ c. c *ℚ x k) (coefficient-there value e es k apart)

-- a row with no coefficient from n on has its variables below n
pub row_below : {F : Type 0} (value : F → ℚ) (from to n : ℕ) (row : List (Entry F)) → ((v : ℕ) → n ≤ v → coefficient value row v ≡ whole (pos 0)) → IsRowWithin value from to row → IsRowWithin value from n row
row_below value from to n [] none row = tt
row_below value from to n (e ∷ es) none row = (row.0, inside, row.2, row_below value (e.variable + 1) to n es behind row.3)
  where
    inside : e.variable < n
    inside = by (cases_order e.variable n)
      where
        past : n ≤ e.variable → e.variable < n
        past h = absurd (row.2 (sym (coefficient-here value e es e.variable refl) ∙ none e.variable h))

        by : (e.variable ≡ n) ⊎ ((e.variable < n) ⊎ (n < e.variable)) → e.variable < n
        by (inl same) = past (omega arith)
        by (inr (inl less)) = less
        by (inr (inr more)) = past (omega arith)

    behind : (v : ℕ) → n ≤ v → coefficient value es v ≡ whole (pos 0)
    behind v past = sym (coefficient-there value e es v (λ same. absurd (omega (arith, inside)))) ∙ none v past

module _ {F : Type 0} (value : F → ℚ) (t : Table F) (b : ℕ) (row : List (Entry F)) where
  pub row_within : IsTable value t → IsRowOf value t b row → IsRowWithin value 0 (variables t) row
  unfolding IsRow
  row_within table is = row_below value 0 (2 ^ 32) (variables t) row (λ v past. is.same v ∙ table.beyond b v past) is.is_row

  -- a basic variable has the value of its entries' sum
  pub meets-entries : IsTable value t → IsRowOf value t b row → is_basic t b ≡ true → (x : ℕ → ℚ) → Meets value t x → x b ≡ entries_value value row x
  unfolding Meets
  meets-entries table is basic x meets =
      meets b basic
      ∙ sum_below-same (variables t) _ _ (λ k below. ap (λ c. c *ℚ x k) (sym (is.same k)))
      ∙ row_value-entries value 0 (variables t) row x (row_within table is)
