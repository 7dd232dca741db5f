-- A row solved for a variable, and the rows that follow it.
use Rattle.std.proofs.Common.{◌≡◌, ℕ, ◌<◌, ◌↔◌, pos, refl, sym, ap, ◌∙◌, arith, ◌⊎◌, inl, inr}
use Rattle.ordered_field.specs.Rational.{ℚ, whole, by_one, by_two, ◌+ℚ◌, ◌*ℚ◌, neg_ℚ}
use Rattle.field_rows.specs.Sums.{sum_below}
use Rattle.field_rows.specs.Rows.{row_value, put, without, AreQuotients, IsSolvedFor, IsSubstituted, Follows}
use Rattle.field_rows.proofs.SumLaws.{sum_below-same, sum_below-split, sum_below-scaled, sum_below-neg, sum_below-+ℚ, put-here, put-elsewhere, same_or_apart}
use Rattle.ordered_field.proofs.Points.{same_point, equal_2, equal_3, equal_4}
use Rattle.ordered_field.proofs.RingLaws.{+ℚ_comm, *ℚ_comm, one-*ℚ, zero-*ℚ, neg_ℚ-*ℚ}
use Rattle.ordered_field.proofs.OrderFacts.{neg_ℚ-zero}
use Rattle.ordered_field.proofs.FieldLaws.{*ℚ_cancel}

-- ---- sums with a rest

without_rest : (e x s : ℚ) → (e *ℚ x +ℚ s) +ℚ neg_ℚ s ≡ x *ℚ e
unfolding ◌+ℚ◌ ◌*ℚ◌ neg_ℚ by_two by_one
without_rest = equal_3 (λ e x s. (e *ℚ x +ℚ s) +ℚ neg_ℚ s) (λ e x s. x *ℚ e) (λ a b c. same_point _ _ (omega arith))

with_rest : (y s : ℚ) → (y +ℚ neg_ℚ s) +ℚ s ≡ y
unfolding ◌+ℚ◌ neg_ℚ by_two by_one
with_rest = equal_2 (λ y s. (y +ℚ neg_ℚ s) +ℚ s) (λ y s. y) (λ a b. same_point _ _ (omega arith))

parted : (a f d x : ℚ) → (a +ℚ f *ℚ d) *ℚ x ≡ a *ℚ x +ℚ f *ℚ (d *ℚ x)
unfolding ◌+ℚ◌ ◌*ℚ◌ by_two by_one
parted = equal_4 (λ a f d x. (a +ℚ f *ℚ d) *ℚ x) (λ a f d x. a *ℚ x +ℚ f *ℚ (d *ℚ x)) (λ a b c d. same_point _ _ (omega arith))

-- ---- rows

-- the terms of a row at other places than j
abbrev pub rest_of : ℕ → ℕ → (ℕ → ℚ) → (ℕ → ℚ) → ℚ
rest_of n j c x = sum_below n (put j (whole (pos 0)) (λ k. c k *ℚ x k))

pub row_value-split : (n j : ℕ) (c x : ℕ → ℚ) → j < n → row_value n c x ≡ c j *ℚ x j +ℚ rest_of n j c x
row_value-split n j c x inside = sum_below-split n j (λ k. c k *ℚ x k) inside

moved : (e d x : ℚ) → e *ℚ (d *ℚ x) ≡ (d *ℚ e) *ℚ x
unfolding ◌*ℚ◌ by_two by_one
moved = equal_3 (λ e d x. e *ℚ (d *ℚ x)) (λ e d x. (d *ℚ e) *ℚ x) (λ a b c. same_point _ _ (omega arith))

-- the value of the solved row, times the coefficient that it is solved for
solved_value : (n b o : ℕ) (c d x : ℕ → ℚ) → b < n → o < n → c b ≡ whole (pos 0) → (b ≡ o → ⊥) → AreQuotients b o c d → row_value n d x *ℚ c o ≡ x b +ℚ neg_ℚ (rest_of n o c x)
solved_value n b o c d x b_in o_in outside differ divides =
    *ℚ_comm _ _ ∙ sym (sum_below-scaled n (c o) _)
    ∙ sum_below-same n _ _ (λ k below. by_place k (same_or_apart b k) (same_or_apart o k))
    ∙ sum_below-split n b (put b (x b) (put o (whole (pos 0)) (λ k. neg_ℚ (c k *ℚ x k)))) b_in
    ∙ ap (λ v. v +ℚ sum_below n (put b (whole (pos 0)) (put b (x b) (put o (whole (pos 0)) (λ k. neg_ℚ (c k *ℚ x k)))))) (put-here b b _ _ refl)
    ∙ ap (λ v. x b +ℚ v) (sum_below-same n _ _ (λ k below. opposite k (same_or_apart b k) (same_or_apart o k)) ∙ sum_below-neg n _)
  where
    by_place : (k : ℕ) → (k ≡ b) ⊎ (k ≡ b → ⊥) → (k ≡ o) ⊎ (k ≡ o → ⊥) → c o *ℚ (d k *ℚ x k) ≡ put b (x b) (put o (whole (pos 0)) (λ k. neg_ℚ (c k *ℚ x k))) k
    by_place k (inl here) at_o =
        moved _ _ _ ∙ ap (λ v. v *ℚ x k) (divides k ∙ put-here b k _ _ here) ∙ one-*ℚ _ ∙ ap x here ∙ sym (put-here b k _ _ here)
    by_place k (inr apart) (inl here) =
        moved _ _ _ ∙ ap (λ v. v *ℚ x k) (divides k ∙ put-elsewhere b k _ _ apart ∙ put-here o k _ _ here) ∙ zero-*ℚ _
        ∙ sym (put-elsewhere b k _ _ apart ∙ put-here o k _ _ here)
    by_place k (inr apart) (inr off) =
        moved _ _ _ ∙ ap (λ v. v *ℚ x k) (divides k ∙ put-elsewhere b k _ _ apart ∙ put-elsewhere o k _ _ off) ∙ neg_ℚ-*ℚ _ _
        ∙ sym (put-elsewhere b k _ _ apart ∙ put-elsewhere o k _ _ off)

    opposite : (k : ℕ) → (k ≡ b) ⊎ (k ≡ b → ⊥) → (k ≡ o) ⊎ (k ≡ o → ⊥) → put b (whole (pos 0)) (put b (x b) (put o (whole (pos 0)) (λ k. neg_ℚ (c k *ℚ x k)))) k ≡ neg_ℚ (put o (whole (pos 0)) (λ k. c k *ℚ x k) k)
    opposite k (inl here) (inl both) = absurd (differ (sym here ∙ both))
    opposite k (inl here) (inr off) =
        put-here b k _ _ here
        ∙ sym (ap neg_ℚ (put-elsewhere o k _ (λ k. c k *ℚ x k) off ∙ ap (λ v. v *ℚ x k) (ap c here ∙ outside) ∙ zero-*ℚ _) ∙ neg_ℚ-zero)
    opposite k (inr apart) (inl here) =
        put-elsewhere b k _ _ apart ∙ put-elsewhere b k _ _ apart ∙ put-here o k _ _ here
        ∙ sym (ap neg_ℚ (put-here o k _ (λ k. c k *ℚ x k) here) ∙ neg_ℚ-zero)
    opposite k (inr apart) (inr off) =
        put-elsewhere b k _ _ apart ∙ put-elsewhere b k _ _ apart ∙ put-elsewhere o k _ _ off ∙ ap neg_ℚ (sym (put-elsewhere o k _ (λ k. c k *ℚ x k) off))

-- one equation, z = e y + s, solved for y
solves : (e y s z v : ℚ) → (e ≡ whole (pos 0) → ⊥) → v *ℚ e ≡ z +ℚ neg_ℚ s → (z ≡ e *ℚ y +ℚ s) ↔ (y ≡ v)
solves e y s z v some times_e = (
  λ h. *ℚ_cancel _ _ e some (sym (without_rest e y s) ∙ ap (λ w. w +ℚ neg_ℚ s) (sym h) ∙ sym times_e),
  λ h. sym (with_rest z s) ∙ ap (λ w. w +ℚ s) (sym times_e ∙ ap (λ w. w *ℚ e) (sym h) ∙ *ℚ_comm y e),
)

pub quotients_solve : (n b o : ℕ) (c d : ℕ → ℚ) → b < n → o < n → c b ≡ whole (pos 0) → (c o ≡ whole (pos 0) → ⊥) → AreQuotients b o c d → IsSolvedFor n b c o d
quotients_solve n b o c d b_in o_in outside some divides x =
    let both = solves (c o) (x o) (rest_of n o c x) (x b) (row_value n d x) some (solved_value n b o c d x b_in o_in outside (λ same. some (ap c (sym same) ∙ outside)) divides) in (
      λ h. both.0 (h ∙ row_value-split n o c x o_in),
      λ h. both.1 h ∙ sym (row_value-split n o c x o_in),
    )

pub substituted_follows : (n o : ℕ) (d c c' : ℕ → ℚ) → o < n → IsSubstituted o d c c' → Follows n o d c c'
substituted_follows n o d c c' inside entries x solved =
    sum_below-same n _ _ (λ k below. ap (λ v. v *ℚ x k) (entries k) ∙ parted _ _ _ _)
    ∙ sum_below-+ℚ n _ _
    ∙ ap (λ v. v +ℚ sum_below n (λ k. c o *ℚ (d k *ℚ x k))) (sum_below-same n _ _ (λ k below. by_place k (same_or_apart o k)))
    ∙ ap (λ v. rest_of n o c x +ℚ v) (sum_below-scaled n (c o) _ ∙ ap (λ v. c o *ℚ v) (sym solved))
    ∙ +ℚ_comm _ _
    ∙ sym (row_value-split n o c x inside)
  where
    by_place : (k : ℕ) → (k ≡ o) ⊎ (k ≡ o → ⊥) → without o c k *ℚ x k ≡ put o (whole (pos 0)) (λ k. c k *ℚ x k) k
    by_place k (inl here) =
        ap (λ v. v *ℚ x k) (put-here o k _ c here) ∙ zero-*ℚ _ ∙ sym (put-here o k _ _ here)
    by_place k (inr apart) = ap (λ v. v *ℚ x k) (put-elsewhere o k _ c apart) ∙ sym (put-elsewhere o k _ _ apart)
