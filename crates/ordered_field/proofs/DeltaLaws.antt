-- Numbers with an infinitesimal part are a vector space over the rationals.
use Rattle.std.proofs.Common.{◌≡◌, pos}
use Rattle.ordered_field.specs.Rational.{ℚ, whole, ◌+ℚ◌, ◌*ℚ◌}
use Rattle.ordered_field.specs.Delta.{DeltaValue, delta_sum, delta_scaled}
use Rattle.ordered_field.proofs.RingLaws.{+ℚ_comm, +ℚ_assoc, +ℚ-zero, *ℚ_assoc, one-*ℚ, zero-*ℚ, *ℚ-+ℚ, +ℚ-*ℚ}

-- zero
abbrev pub delta_zero : DeltaValue
delta_zero = record { real = whole (pos 0); inf = whole (pos 0) }

pub same_delta : (x y : DeltaValue) → x.real ≡ y.real → x.inf ≡ y.inf → x ≡ y
same_delta x y e f = λ i. record { real = e i; inf = f i }

pub delta_sum_comm : (x y : DeltaValue) → delta_sum x y ≡ delta_sum y x
delta_sum_comm x y = same_delta _ _ (+ℚ_comm _ _) (+ℚ_comm _ _)

pub delta_sum_assoc : (x y z : DeltaValue) → delta_sum (delta_sum x y) z ≡ delta_sum x (delta_sum y z)
delta_sum_assoc x y z = same_delta _ _ (+ℚ_assoc _ _ _) (+ℚ_assoc _ _ _)

pub delta_sum-zero : (x : DeltaValue) → delta_sum x delta_zero ≡ x
delta_sum-zero x = same_delta _ _ (+ℚ-zero _) (+ℚ-zero _)

pub delta_scaled-sum : (k : ℚ) (x y : DeltaValue) → delta_scaled k (delta_sum x y) ≡ delta_sum (delta_scaled k x) (delta_scaled k y)
delta_scaled-sum k x y = same_delta _ _ (*ℚ-+ℚ k _ _) (*ℚ-+ℚ k _ _)

pub sum-delta_scaled : (k l : ℚ) (x : DeltaValue) → delta_scaled (k +ℚ l) x ≡ delta_sum (delta_scaled k x) (delta_scaled l x)
sum-delta_scaled k l x = same_delta _ _ (+ℚ-*ℚ k l _) (+ℚ-*ℚ k l _)

pub product-delta_scaled : (k l : ℚ) (x : DeltaValue) → delta_scaled (k *ℚ l) x ≡ delta_scaled k (delta_scaled l x)
product-delta_scaled k l x = same_delta _ _ (*ℚ_assoc k l _) (*ℚ_assoc k l _)

pub delta_scaled-one : (x : DeltaValue) → delta_scaled (whole (pos 1)) x ≡ x
delta_scaled-one x = same_delta _ _ (one-*ℚ _) (one-*ℚ _)

pub delta_scaled-zero : (x : DeltaValue) → delta_scaled (whole (pos 0)) x ≡ delta_zero
delta_scaled-zero x = same_delta _ _ (zero-*ℚ _) (zero-*ℚ _)
