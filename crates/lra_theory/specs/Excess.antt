-- By how much a value exceeds a bound.
use Rattle.std.specs.Prelude.{◌≡◌, Bool, true, false}
use Rattle.ordered_field.specs.Rational.{◌+ℚ◌, neg_ℚ}
use Rattle.ordered_field.specs.Delta.{DeltaValue}
use Rattle.simplex.specs.declared.limits.Limit.{Limit}
use Rattle.simplex.specs.declared.outcome.Bound.{Bound}
use Rattle.simplex.specs.Bounds.{IsLimitOf}

-- y less x
abbrev pub delta_difference : DeltaValue → DeltaValue → DeltaValue
delta_difference y x = record { real = y.real +ℚ neg_ℚ x.real; inf = y.inf +ℚ neg_ℚ x.inf }

-- how far x is above an upper limit, or below a lower one
abbrev pub excess_over : Bool → DeltaValue → DeltaValue → DeltaValue
excess_over true at x = delta_difference x at
excess_over false at x = delta_difference at x

abbrev pub limit_at : Bound → DeltaValue → Limit DeltaValue
limit_at b at = record { var = b.var; upper = b.upper; at = at; tag = 0 }

-- d is how far x exceeds the bound's limit
pub record IsExcess (b : Bound) (x d : DeltaValue) : Type 0 where
  pub at : DeltaValue
  pub is_limit : IsLimitOf b 0 (limit_at b at)
  pub is : d ≡ excess_over b.upper at x
