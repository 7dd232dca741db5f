-- The same operands are too wide.
use Rattle.std.proofs.Common.{◌≡◌, ℕ, subst}
use Rattle.ordered_field.specs.Rational.{ℚ}
use Rattle.ordered_field.specs.Wideness.{FmaIsWide}

pub FmaIsWide-same : (limit : ℕ) (x x' k k' y y' : ℚ) → x ≡ x' → k ≡ k' → y ≡ y' → FmaIsWide limit x k y → FmaIsWide limit x' k' y'
FmaIsWide-same limit x x' k k' y y' p q r h =
    subst (λ v. FmaIsWide limit v k' y') p (subst (λ v. FmaIsWide limit x v y') q (subst (λ v. FmaIsWide limit x k v) r h))
