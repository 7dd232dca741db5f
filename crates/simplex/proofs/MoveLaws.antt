-- Values after a move of one variable meet the rows again.
use Rattle.std.proofs.Common.{◌≡◌, ℕ, ◌+◌, ◌<◌, ◌≤◌, Bool, true, false, cond, eqb, List, [], ◌∷◌, ◌++◌, length, Some, slice_get, ◌⊎◌, inl, inr, pos, refl, sym, ap, subst, ◌∙◌, arith}
use Rattle.std.proofs.lemmas.Bool.{eq-eqb, ne_eqb}
use Rattle.ordered_field.specs.Rational.{ℚ, whole, by_one, by_two, ◌+ℚ◌, ◌*ℚ◌, neg_ℚ}
use Rattle.ordered_field.specs.Delta.{DeltaValue, delta_value, delta_sum, delta_scaled}
use Rattle.ordered_field.specs.declared.delta.Delta.{Delta}
use Rattle.ordered_field.proofs.Points.{same_point, equal_2, equal_4}
use Rattle.ordered_field.proofs.RingLaws.{zero-*ℚ}
use Rattle.ordered_field.proofs.DeltaLaws.{same_delta}
use Rattle.field_rows.specs.Rows.{row_value, put}
use Rattle.field_rows.proofs.SumLaws.{sum_below-same, put-here, put-elsewhere, same_or_apart}
use Rattle.field_rows.proofs.PivotLaws.{rest_of, row_value-split}
use Rattle.tableau.specs.Tables.{Table, variables, is_basic, entry, Meets, IsTable}
use Rattle.simplex.specs.Moves.{delta_opposite, change_to, moved_value}
use Rattle.simplex.specs.Assignments.{MeetsRows}

spread : (c x d r : ℚ) → c *ℚ (x +ℚ d) +ℚ r ≡ (c *ℚ x +ℚ r) +ℚ c *ℚ d
unfolding ◌+ℚ◌ ◌*ℚ◌ by_two by_one
spread = equal_4 (λ c x d r. c *ℚ (x +ℚ d) +ℚ r) (λ c x d r. (c *ℚ x +ℚ r) +ℚ c *ℚ d) (λ a b c d. same_point _ _ (omega arith))

there_and_back : (x y : ℚ) → y ≡ x +ℚ (y +ℚ neg_ℚ x)
unfolding ◌+ℚ◌ neg_ℚ by_two by_one
there_and_back = equal_2 (λ x y. y) (λ x y. x +ℚ (y +ℚ neg_ℚ x)) (λ a b. same_point _ _ (omega arith))

-- the value of a row at a vector that differs at one variable
row_value-moved : (n m : ℕ) (c x x' : ℕ → ℚ) (d : ℚ) → m < n → x' m ≡ x m +ℚ d → ((k : ℕ) → (k ≡ m → ⊥) → c k *ℚ x' k ≡ c k *ℚ x k) → row_value n c x' ≡ row_value n c x +ℚ c m *ℚ d
row_value-moved n m c x x' d inside here there =
    row_value-split n m c x' inside
    ∙ ap (λ s. c m *ℚ x' m +ℚ s) (sum_below-same n _ _ (λ k below. by k (same_or_apart m k)))
    ∙ ap (λ y. c m *ℚ y +ℚ rest_of n m c x) here
    ∙ spread (c m) (x m) d (rest_of n m c x)
    ∙ ap (λ s. s +ℚ c m *ℚ d) (sym (row_value-split n m c x inside))
  where
    by : (k : ℕ) → (k ≡ m) ⊎ (k ≡ m → ⊥) → put m (whole (pos 0)) (λ k. c k *ℚ x' k) k ≡ put m (whole (pos 0)) (λ k. c k *ℚ x k) k
    by k (inl e) = put-here m k _ (λ k. c k *ℚ x' k) e ∙ sym (put-here m k _ (λ k. c k *ℚ x k) e)
    by k (inr n) = put-elsewhere m k _ (λ k. c k *ℚ x' k) n ∙ there k n ∙ sym (put-elsewhere m k _ (λ k. c k *ℚ x k) n)

module _ {F : Type 0} (value : F → ℚ) (t : Table F) (old : ℕ → DeltaValue) (m : ℕ) (to : DeltaValue) where
  pub moved-here : (v : ℕ) → v ≡ m → moved_value value t old m to v ≡ to
  moved-here v e = rw (eq-eqb v m e) refl

  pub moved-basic : (v : ℕ) → (v ≡ m → ⊥) → is_basic t v ≡ true → moved_value value t old m to v ≡ delta_sum (old v) (delta_scaled (entry value t v m) (change_to (old m) to))
  moved-basic v n b = rw (ne_eqb v m n, b) refl

  pub moved-other : (v : ℕ) → (v ≡ m → ⊥) → is_basic t v ≡ false → moved_value value t old m to v ≡ old v
  moved-other v n b = rw (ne_eqb v m n, b) refl

  pub basic_or_not : (v : ℕ) → (is_basic t v ≡ true) ⊎ (is_basic t v ≡ false)
  basic_or_not v = by (is_basic t v) refl
    where
      by : (s : Bool) → is_basic t v ≡ s → (is_basic t v ≡ true) ⊎ (is_basic t v ≡ false)
      by true e = inl e
      by false e = inr e

  not_basic : is_basic t m ≡ false → (b : ℕ) → is_basic t b ≡ true → b ≡ m → ⊥
  not_basic n b h e = let f : is_basic t m ≡ true = subst (λ v. is_basic t v ≡ true) e h in absurd (cc)

  pub meets-moved : IsTable value t → is_basic t m ≡ false → m < variables t → MeetsRows value t old → MeetsRows value t (moved_value value t old m to)
  unfolding Meets
  meets-moved table n inside meets = record {
    real = λ b h. ap (λ d. d.real) (moved-basic b (not_basic n b h) h) ∙ ap (λ s. s +ℚ entry value t b m *ℚ (change_to (old m) to).real) (meets.real b h)
        ∙ sym (row_value-moved (variables t) m (entry value t b) (λ v. (old v).real) (λ v. (moved_value value t old m to v).real) (change_to (old m) to).real inside (ap (λ d. d.real) (moved-here m refl) ∙ there_and_back (old m).real to.real) (λ k apart. real_there b k apart (basic_or_not k)));
    inf = λ b h. ap (λ d. d.inf) (moved-basic b (not_basic n b h) h) ∙ ap (λ s. s +ℚ entry value t b m *ℚ (change_to (old m) to).inf) (meets.inf b h)
        ∙ sym (row_value-moved (variables t) m (entry value t b) (λ v. (old v).inf) (λ v. (moved_value value t old m to v).inf) (change_to (old m) to).inf inside (ap (λ d. d.inf) (moved-here m refl) ∙ there_and_back (old m).inf to.inf) (λ k apart. inf_there b k apart (basic_or_not k)));
  }
    where
      none : (b k : ℕ) (x y : ℚ) → is_basic t k ≡ true → entry value t b k *ℚ x ≡ entry value t b k *ℚ y
      none b k x y h = ap (λ e. e *ℚ x) (table.at_basic b k h) ∙ zero-*ℚ x ∙ sym (ap (λ e. e *ℚ y) (table.at_basic b k h) ∙ zero-*ℚ y)

      real_there : (b k : ℕ) → (k ≡ m → ⊥) → (is_basic t k ≡ true) ⊎ (is_basic t k ≡ false) → entry value t b k *ℚ (moved_value value t old m to k).real ≡ entry value t b k *ℚ (old k).real
      real_there b k apart (inl h) = none b k _ _ h
      real_there b k apart (inr h) = ap (λ d. entry value t b k *ℚ d.real) (moved-other k apart h)

      inf_there : (b k : ℕ) → (k ≡ m → ⊥) → (is_basic t k ≡ true) ⊎ (is_basic t k ≡ false) → entry value t b k *ℚ (moved_value value t old m to k).inf ≡ entry value t b k *ℚ (old k).inf
      inf_there b k apart (inl h) = none b k _ _ h
      inf_there b k apart (inr h) = ap (λ d. entry value t b k *ℚ d.inf) (moved-other k apart h)

-- the same values meet the same rows
pub meets-same : {F : Type 0} (value : F → ℚ) (t : Table F) (x y : ℕ → DeltaValue) → ((v : ℕ) → y v ≡ x v) → MeetsRows value t x → MeetsRows value t y
meets-same value t x y same meets =
    let all : x ≡ y = λ i v. sym (same v) i in
    subst (λ z. MeetsRows value t z) all meets
