-- Sums and products with zero, in a field whose numbers stand within a limit.
use Rattle.std.specs.Prelude.{ℕ, pos}
use Rattle.ordered_field.specs.Rational.{ℚ, whole, ◌*ℚ◌}
use Rattle.ordered_field.specs.Wideness.{Exceeds, SumIsWide}

-- zero plus x, x plus zero and a product of x with zero pass no limit
pub record ZeroFits (limit : ℕ) (x : ℚ) : Type 0 where
  pub left_sum : ¬ SumIsWide limit (whole (pos 0)) x
  pub right_sum : ¬ SumIsWide limit x (whole (pos 0))
  pub left_product : ¬ Exceeds limit (whole (pos 0) *ℚ x)
  pub right_product : ¬ Exceeds limit (x *ℚ whole (pos 0))
