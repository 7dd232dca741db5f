-- Finite sums of rationals.
use Rattle.std.specs.Prelude.{ℕ, zero, suc, pos}
use Rattle.ordered_field.specs.Rational.{ℚ, whole, ◌+ℚ◌}

-- f 0 + f 1 + .. + f (n - 1)
unfoldable pub sum_below : ℕ → (ℕ → ℚ) → ℚ
sum_below zero f = whole (pos 0)
sum_below (suc n) f = sum_below n f +ℚ f n
