-- Farkas' lemma, in the direction that a contradiction needs: bounds whose weighed sum is impossible have no solution.
use Rattle.std.specs.Prelude.{◌≡◌, ℕ, ◌<◌, ◌⊎◌, Bool, IsTrue, pos}
use Rattle.ordered_field.specs.Rational.{ℚ, whole, ◌*ℚ◌}
use Rattle.ordered_field.specs.Order.{◌≤ℚ◌, ◌<ℚ◌}
use Rattle.field_rows.specs.Sums.{sum_below}
use Rattle.field_rows.specs.Rows.{row_value}

-- x meets the m bounds: the row c_i has a value of at most b_i there, or below b_i where the bound is strict
pub record MeetsBounds (n m : ℕ) (c : ℕ → ℕ → ℚ) (b : ℕ → ℚ) (strict : ℕ → Bool) (x : ℕ → ℚ) : Type 0 where
  pub at_most : (i : ℕ) → i < m → row_value n (c i) x ≤ℚ b i
  pub below : (i : ℕ) → i < m → IsTrue (strict i) → row_value n (c i) x <ℚ b i

-- the bounds times the multipliers k, none of them below zero, sum to 0 ≤ s with s below zero, or to 0 < 0
pub record IsContradiction (n m : ℕ) (c : ℕ → ℕ → ℚ) (b : ℕ → ℚ) (strict : ℕ → Bool) (k : ℕ → ℚ) : Type 0 where
  pub multipliers : (i : ℕ) → i < m → whole (pos 0) ≤ℚ k i
  pub columns : (j : ℕ) → j < n → sum_below m (λ i. k i *ℚ c i j) ≡ whole (pos 0)
  pub bound :
      (sum_below m (λ i. k i *ℚ b i) <ℚ whole (pos 0))
      ⊎ ((sum_below m (λ i. k i *ℚ b i) ≡ whole (pos 0))
      × ((i : ℕ) × ((i < m) × IsTrue (strict i) × (whole (pos 0) <ℚ k i))))

-- no x meets bounds that contradict each other
abbrev pub ContradictionsHaveNoSolution : Type 0
ContradictionsHaveNoSolution =
    (n m : ℕ) (c : ℕ → ℕ → ℚ) (b : ℕ → ℚ) (strict : ℕ → Bool) (k x : ℕ → ℚ)
    → IsContradiction n m c b strict k → ¬ MeetsBounds n m c b strict x
