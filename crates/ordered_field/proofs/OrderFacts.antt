-- What follows from the order's laws: chains, sums and products of inequalities, as a sum of weighed bounds needs them.
use Rattle.std.proofs.Common.{◌≡◌, Bool, true, false, pos, ◌⊎◌, refl, inl, inr, sym, subst, ◌∙◌}
use Rattle.std.proofs.Math.Bool.{true≢false}
use Rattle.ordered_field.specs.Rational.{ℚ, whole, ◌+ℚ◌, ◌*ℚ◌, neg_ℚ}
use Rattle.ordered_field.specs.Order.{at_most, ◌≤ℚ◌, ◌<ℚ◌}
use Rattle.ordered_field.proofs.RingLaws.{+ℚ_comm, zero-+ℚ, *ℚ-zero, zero-*ℚ, +ℚ-neg, neg_ℚ-*ℚ}
use Rattle.ordered_field.proofs.OrderLaws.{≤ℚ_refl, ≤ℚ_trans, ≤ℚ_antisymm, <ℚ-≤ℚ, at_most-sum, at_most-neg, at_most-product}

-- ---- below and at most

pub ≤ℚ_from_same : (x y : ℚ) → x ≡ y → x ≤ℚ y
≤ℚ_from_same x y e = subst (λ z. x ≤ℚ z) e (≤ℚ_refl x)

pub <ℚ_irrefl : (x : ℚ) → x <ℚ x → ⊥
<ℚ_irrefl x h = true≢false (sym (≤ℚ_refl x) ∙ h)

pub <ℚ-apart : (x y : ℚ) → x <ℚ y → x ≡ y → ⊥
<ℚ-apart x y h e = <ℚ_irrefl y (subst (λ z. z <ℚ y) e h)

pub <ℚ-not_≥ : (x y : ℚ) → x <ℚ y → y ≤ℚ x → ⊥
<ℚ-not_≥ x y h g = true≢false (sym g ∙ h)

-- where y isn't below x, x is at most y
at_most_by : (x y : ℚ) (s : Bool) → at_most x y ≡ s → (y <ℚ x → ⊥) → x ≤ℚ y
at_most_by x y true e n = e
at_most_by x y false e n = absurd (n e)

pub ≤ℚ_from_not_> : (x y : ℚ) → (y <ℚ x → ⊥) → x ≤ℚ y
≤ℚ_from_not_> x y n = at_most_by x y (at_most x y) refl n

below_by : (x y : ℚ) (s : Bool) → at_most y x ≡ s → (y ≤ℚ x → ⊥) → x <ℚ y
below_by x y true e n = absurd (n e)
below_by x y false e n = e

pub <ℚ_from_not_≥ : (x y : ℚ) → (y ≤ℚ x → ⊥) → x <ℚ y
<ℚ_from_not_≥ x y n = below_by x y (at_most y x) refl n

-- at most, and not the same
pub <ℚ_from_≤ℚ : (x y : ℚ) → x ≤ℚ y → (x ≡ y → ⊥) → x <ℚ y
<ℚ_from_≤ℚ x y h n = <ℚ_from_not_≥ x y (λ g. n (≤ℚ_antisymm x y h g))

split_by : (x y : ℚ) (s : Bool) → at_most y x ≡ s → x ≤ℚ y → (x <ℚ y) ⊎ (x ≡ y)
split_by x y true e h = inr (≤ℚ_antisymm x y h e)
split_by x y false e h = inl e

pub ≤ℚ_split : (x y : ℚ) → x ≤ℚ y → (x <ℚ y) ⊎ (x ≡ y)
≤ℚ_split x y h = split_by x y (at_most y x) refl h

total_by : (x y : ℚ) (s : Bool) → at_most x y ≡ s → (x ≤ℚ y) ⊎ (y ≤ℚ x)
total_by x y true e = inl e
total_by x y false e = inr (<ℚ-≤ℚ y x e)

pub ≤ℚ_total : (x y : ℚ) → (x ≤ℚ y) ⊎ (y ≤ℚ x)
≤ℚ_total x y = total_by x y (at_most x y) refl

pub <ℚ-≤ℚ_trans : (x y z : ℚ) → x <ℚ y → y ≤ℚ z → x <ℚ z
<ℚ-≤ℚ_trans x y z g h = <ℚ_from_not_≥ x z (λ k. <ℚ-not_≥ x y g (≤ℚ_trans y z x h k))

pub ≤ℚ-<ℚ_trans : (x y z : ℚ) → x ≤ℚ y → y <ℚ z → x <ℚ z
≤ℚ-<ℚ_trans x y z g h = <ℚ_from_not_≥ x z (λ k. <ℚ-not_≥ y z h (≤ℚ_trans z x y k g))

pub <ℚ_trans : (x y z : ℚ) → x <ℚ y → y <ℚ z → x <ℚ z
<ℚ_trans x y z g h = <ℚ-≤ℚ_trans x y z g (<ℚ-≤ℚ y z h)

-- ---- sums

pub +ℚ-≤ℚ_right : (x y z : ℚ) → x ≤ℚ y → x +ℚ z ≤ℚ y +ℚ z
+ℚ-≤ℚ_right x y z h = at_most-sum x y z ∙ h

pub +ℚ-<ℚ_right : (x y z : ℚ) → x <ℚ y → x +ℚ z <ℚ y +ℚ z
+ℚ-<ℚ_right x y z h = at_most-sum y x z ∙ h

pub +ℚ-≤ℚ_left : (x y z : ℚ) → x ≤ℚ y → z +ℚ x ≤ℚ z +ℚ y
+ℚ-≤ℚ_left x y z h = rw (+ℚ_comm z x, +ℚ_comm z y) (+ℚ-≤ℚ_right x y z h)

pub +ℚ-<ℚ_left : (x y z : ℚ) → x <ℚ y → z +ℚ x <ℚ z +ℚ y
+ℚ-<ℚ_left x y z h = rw (+ℚ_comm z x, +ℚ_comm z y) (+ℚ-<ℚ_right x y z h)

pub +ℚ-≤ℚ : (x y z w : ℚ) → x ≤ℚ y → z ≤ℚ w → x +ℚ z ≤ℚ y +ℚ w
+ℚ-≤ℚ x y z w g h = ≤ℚ_trans _ _ _ (+ℚ-≤ℚ_right x y z g) (+ℚ-≤ℚ_left z w y h)

pub +ℚ-<ℚ-≤ℚ : (x y z w : ℚ) → x <ℚ y → z ≤ℚ w → x +ℚ z <ℚ y +ℚ w
+ℚ-<ℚ-≤ℚ x y z w g h = <ℚ-≤ℚ_trans _ _ _ (+ℚ-<ℚ_right x y z g) (+ℚ-≤ℚ_left z w y h)

pub +ℚ-≤ℚ-<ℚ : (x y z w : ℚ) → x ≤ℚ y → z <ℚ w → x +ℚ z <ℚ y +ℚ w
+ℚ-≤ℚ-<ℚ x y z w g h = ≤ℚ-<ℚ_trans _ _ _ (+ℚ-≤ℚ_right x y z g) (+ℚ-<ℚ_left z w y h)

-- ---- opposites

pub neg_ℚ-≤ℚ : (x y : ℚ) → x ≤ℚ y → neg_ℚ y ≤ℚ neg_ℚ x
neg_ℚ-≤ℚ x y h = at_most-neg y x ∙ h

pub neg_ℚ-<ℚ : (x y : ℚ) → x <ℚ y → neg_ℚ y <ℚ neg_ℚ x
neg_ℚ-<ℚ x y h = at_most-neg x y ∙ h

-- ---- products

pub *ℚ-<ℚ_left : (k x y : ℚ) → whole (pos 0) <ℚ k → x <ℚ y → k *ℚ x <ℚ k *ℚ y
*ℚ-<ℚ_left k x y some h = at_most-product k y x some ∙ h

-- a product by a number that is at least zero keeps the order
pub *ℚ-≤ℚ_left : (k x y : ℚ) → whole (pos 0) ≤ℚ k → x ≤ℚ y → k *ℚ x ≤ℚ k *ℚ y
*ℚ-≤ℚ_left k x y some h = by_sign (≤ℚ_split _ _ some)
  where
    by_sign : (whole (pos 0) <ℚ k) ⊎ (whole (pos 0) ≡ k) → k *ℚ x ≤ℚ k *ℚ y
    by_sign (inl more) = at_most-product k x y more ∙ h
    by_sign (inr none) = rw (← none, zero-*ℚ x, zero-*ℚ y) (≤ℚ_refl _)

pub *ℚ-≥zero : (k x : ℚ) → whole (pos 0) ≤ℚ k → whole (pos 0) ≤ℚ x → whole (pos 0) ≤ℚ k *ℚ x
*ℚ-≥zero k x some h = subst (λ z. z ≤ℚ k *ℚ x) (*ℚ-zero k) (*ℚ-≤ℚ_left k _ x some h)

pub *ℚ-positive : (k x : ℚ) → whole (pos 0) <ℚ k → whole (pos 0) <ℚ x → whole (pos 0) <ℚ k *ℚ x
*ℚ-positive k x some h = subst (λ z. z <ℚ k *ℚ x) (*ℚ-zero k) (*ℚ-<ℚ_left k _ x some h)

-- ---- by a negative number

pub neg_ℚ-zero : neg_ℚ (whole (pos 0)) ≡ whole (pos 0)
neg_ℚ-zero = sym (zero-+ℚ _) ∙ +ℚ-neg (whole (pos 0))

pub neg_ℚ-positive : (k : ℚ) → k <ℚ whole (pos 0) → whole (pos 0) <ℚ neg_ℚ k
neg_ℚ-positive k less = subst (λ z. z <ℚ neg_ℚ k) neg_ℚ-zero (neg_ℚ-<ℚ k _ less)

pub neg_ℚ-negative : (k : ℚ) → whole (pos 0) <ℚ k → neg_ℚ k <ℚ whole (pos 0)
neg_ℚ-negative k more = subst (λ z. neg_ℚ k <ℚ z) neg_ℚ-zero (neg_ℚ-<ℚ _ k more)

-- a product by a negative number turns the order
pub *ℚ-<ℚ_turned : (k x y : ℚ) → k <ℚ whole (pos 0) → x <ℚ y → k *ℚ y <ℚ k *ℚ x
*ℚ-<ℚ_turned k x y less h =
    let scaled : neg_ℚ k *ℚ x <ℚ neg_ℚ k *ℚ y = *ℚ-<ℚ_left (neg_ℚ k) x y (neg_ℚ-positive k less) h in
    sym (at_most-neg (k *ℚ y) (k *ℚ x)) ∙ rw (neg_ℚ-*ℚ k x, neg_ℚ-*ℚ k y) at scaled

pub *ℚ-≤ℚ_turned : (k x y : ℚ) → k ≤ℚ whole (pos 0) → x ≤ℚ y → k *ℚ y ≤ℚ k *ℚ x
*ℚ-≤ℚ_turned k x y less h =
    let scaled : neg_ℚ k *ℚ x ≤ℚ neg_ℚ k *ℚ y = *ℚ-≤ℚ_left (neg_ℚ k) x y (subst (λ z. z ≤ℚ neg_ℚ k) neg_ℚ-zero (neg_ℚ-≤ℚ k _ less)) h in
    sym (at_most-neg (k *ℚ x) (k *ℚ y)) ∙ rw (neg_ℚ-*ℚ k x, neg_ℚ-*ℚ k y) at scaled
