-- Bounds whose weighed sum is impossible have no solution.
use Rattle.std.proofs.Common.{◌≡◌, ℕ, zero, suc, ◌<◌, ◌⊎◌, inl, inr, true, pos, refl, sym, ap, subst, ◌∙◌, arith}
use Rattle.std.proofs.Math.Nat.{eq-or-lt_of_le}
use Rattle.ordered_field.specs.Rational.{ℚ, whole, ◌+ℚ◌, ◌*ℚ◌}
use Rattle.ordered_field.specs.Order.{◌≤ℚ◌, ◌<ℚ◌}
use Rattle.ordered_field.proofs.RingLaws.{*ℚ_assoc, +ℚ-*ℚ, zero-*ℚ, +ℚ-zero}
use Rattle.ordered_field.proofs.OrderLaws.{≤ℚ_refl}
use Rattle.ordered_field.proofs.OrderFacts.{+ℚ-≤ℚ, +ℚ-<ℚ-≤ℚ, +ℚ-≤ℚ-<ℚ, *ℚ-≤ℚ_left, *ℚ-<ℚ_left, <ℚ-not_≥, <ℚ-apart}
use Rattle.field_rows.specs.Sums.{sum_below}
use Rattle.field_rows.specs.Rows.{row_value}
use Rattle.field_rows.specs.Farkas.{ContradictionsHaveNoSolution}
use Rattle.field_rows.proofs.SumLaws.{sum_below-same, sum_below-+ℚ, sum_below-scaled}

-- ---- sums of inequalities

pub sum_below-≤ℚ : (n : ℕ) (f g : ℕ → ℚ) → ((k : ℕ) → k < n → f k ≤ℚ g k) → sum_below n f ≤ℚ sum_below n g
unfolding sum_below
sum_below-≤ℚ zero f g each = ≤ℚ_refl _
sum_below-≤ℚ (suc n) f g each =
    +ℚ-≤ℚ _ _ _ _ (sum_below-≤ℚ n f g (λ k below. each k (omega arith))) (each n (omega arith))

pub sum_below-<ℚ : (n i : ℕ) (f g : ℕ → ℚ) → i < n → ((k : ℕ) → k < n → f k ≤ℚ g k) → f i <ℚ g i → sum_below n f <ℚ sum_below n g
unfolding sum_below
sum_below-<ℚ zero i f g inside each less = absurd (omega arith)
sum_below-<ℚ (suc n) i f g inside each less =
    by_place (sum_below-<ℚ n i f g) (eq-or-lt_of_le {n = i} {m = n} (omega arith))
  where
    by_place : (i < n → ((k : ℕ) → k < n → f k ≤ℚ g k) → f i <ℚ g i → sum_below n f <ℚ sum_below n g) → (i ≡ n) ⊎ (i < n) → sum_below n f +ℚ f n <ℚ sum_below n g +ℚ g n
    by_place before_last (inl last) =
        +ℚ-≤ℚ-<ℚ _ _ _ _ (sum_below-≤ℚ n f g (λ k below. each k (omega arith))) (subst (λ k. f k <ℚ g k) last less)
    by_place before_last (inr before) =
        +ℚ-<ℚ-≤ℚ _ _ _ _ (before_last before (λ k below. each k (omega arith)) less) (each n (omega arith))

-- ---- sums of rows

pub sum_below-zeros : (n : ℕ) (f : ℕ → ℚ) → ((k : ℕ) → k < n → f k ≡ whole (pos 0)) → sum_below n f ≡ whole (pos 0)
unfolding sum_below
sum_below-zeros zero f none = refl
sum_below-zeros (suc n) f none =
    let rest : sum_below n f ≡ whole (pos 0) = sum_below-zeros n f (λ k below. none k (omega arith)) in
    let last : f n ≡ whole (pos 0) = none n (omega arith) in
    rw (rest, last) (+ℚ-zero _)

-- the value of a weighed sum of rows is the weighed sum of their values
pub row_value-combined : (n m : ℕ) (c : ℕ → ℕ → ℚ) (k x : ℕ → ℚ) → row_value n (λ j. sum_below m (λ i. k i *ℚ c i j)) x ≡ sum_below m (λ i. k i *ℚ row_value n (c i) x)
unfolding sum_below
row_value-combined n zero c k x = sum_below-zeros n _ (λ j below. zero-*ℚ _)
row_value-combined n (suc m) c k x =
    sum_below-same n _ _ (λ j below. +ℚ-*ℚ _ _ _ ∙ ap (λ v. sum_below m (λ i. k i *ℚ c i j) *ℚ x j +ℚ v) (*ℚ_assoc _ _ _))
    ∙ sum_below-+ℚ n _ _
    ∙ ap (λ v. v +ℚ sum_below n (λ j. k m *ℚ (c m j *ℚ x j))) (row_value-combined n m c k x)
    ∙ ap (λ v. sum_below m (λ i. k i *ℚ row_value n (c i) x) +ℚ v) (sum_below-scaled n (k m) _)

-- ---- Farkas

combined_is_zero : (n m : ℕ) (c : ℕ → ℕ → ℚ) (k x : ℕ → ℚ) → ((j : ℕ) → j < n → sum_below m (λ i. k i *ℚ c i j) ≡ whole (pos 0)) → sum_below m (λ i. k i *ℚ row_value n (c i) x) ≡ whole (pos 0)
combined_is_zero n m c k x columns =
    sym (row_value-combined n m c k x) ∙ sum_below-zeros n _ (λ j below. ap (λ v. v *ℚ x j) (columns j below) ∙ zero-*ℚ _)

pub contradictions_have_no_solution : ContradictionsHaveNoSolution
contradictions_have_no_solution n m c b strict k x contradiction meets = by_bound contradiction.bound
  where
    zero_sum : sum_below m (λ i. k i *ℚ row_value n (c i) x) ≡ whole (pos 0)
    zero_sum = combined_is_zero n m c k x contradiction.columns

    each : (i : ℕ) → i < m → k i *ℚ row_value n (c i) x ≤ℚ k i *ℚ b i
    each i below = *ℚ-≤ℚ_left _ _ _ (contradiction.multipliers i below) (meets.at_most i below)

    weighed : whole (pos 0) ≤ℚ sum_below m (λ i. k i *ℚ b i)
    weighed = subst (λ v. v ≤ℚ sum_below m (λ i. k i *ℚ b i)) zero_sum (sum_below-≤ℚ m _ _ each)

    by_bound : (sum_below m (λ i. k i *ℚ b i) <ℚ whole (pos 0)) ⊎ ((sum_below m (λ i. k i *ℚ b i) ≡ whole (pos 0)) × ((i : ℕ) × ((i < m) × (strict i ≡ true) × (whole (pos 0) <ℚ k i)))) → ⊥
    by_bound (inl less) = <ℚ-not_≥ _ _ less weighed
    by_bound (inr h) =
        let i = h.1.0 in
        let below = h.1.1.0 in
        let strictly = sum_below-<ℚ m i _ _ below each (*ℚ-<ℚ_left _ _ _ h.1.1.2 (meets.below i below h.1.1.1)) in
        <ℚ-apart _ _ strictly (zero_sum ∙ sym h.0)
