-- Rationals with an infinitesimal part: real + inf * e for an e above zero and below every positive rational.
use Rattle.std.specs.Prelude.{◌≡◌, ℕ, ◌⊎◌, Bool, true, false, ◌&&◌, if◌then◌else◌}
use Rattle.ordered_field.specs.declared.delta.Delta.{Delta}
use Rattle.ordered_field.specs.Rational.{ℚ, ◌+ℚ◌, ◌*ℚ◌}
use Rattle.ordered_field.specs.Order.{at_most}
use Rattle.ordered_field.specs.Wideness.{Exceeds, SumIsWide}

-- real + inf * e
pub record DeltaValue : Type 0 where
  pub real : ℚ
  pub inf : ℚ

-- the parts of a `Delta`
abbrev pub real_part : {F : Type 0} → Delta F → F
real_part d = d.real

abbrev pub inf_part : {F : Type 0} → Delta F → F
inf_part d = d.inf

-- what a `Delta` means, where `value` tells what its parts mean
abbrev pub delta_value : {F : Type 0} → (F → ℚ) → Delta F → DeltaValue
delta_value value d = record { real = value d.real; inf = value d.inf }

abbrev pub delta_sum : DeltaValue → DeltaValue → DeltaValue
delta_sum x y = record { real = x.real +ℚ y.real; inf = x.inf +ℚ y.inf }

abbrev pub delta_scaled : ℚ → DeltaValue → DeltaValue
delta_scaled k x = record { real = k *ℚ x.real; inf = k *ℚ x.inf }

-- the rational where the infinitesimal e is the number eps
abbrev pub delta_at : DeltaValue → ℚ → ℚ
delta_at x eps = x.real +ℚ x.inf *ℚ eps

-- x ≤ y: by the real part, and where these are equal by the infinitesimal part
unfoldable pub delta_at_most : DeltaValue → DeltaValue → Bool
delta_at_most x y = if at_most y.real x.real then at_most x.real y.real && at_most x.inf y.inf else true

infix 4 ◌≤δ◌
abbrev pub ◌≤δ◌ : DeltaValue → DeltaValue → Type 0
x ≤δ y = delta_at_most x y ≡ true

infix 4 ◌<δ◌
abbrev pub ◌<δ◌ : DeltaValue → DeltaValue → Type 0
x <δ y = delta_at_most y x ≡ false

-- the sum of one of the two parts exceeds the limit
abbrev pub DeltaSumIsWide : ℕ → DeltaValue → DeltaValue → Type 0
DeltaSumIsWide limit x y = SumIsWide limit x.real y.real ⊎ SumIsWide limit x.inf y.inf

-- the product of one of the two parts exceeds the limit
abbrev pub DeltaScaleIsWide : ℕ → ℚ → DeltaValue → Type 0
DeltaScaleIsWide limit k x = Exceeds limit (k *ℚ x.real) ⊎ Exceeds limit (k *ℚ x.inf)
