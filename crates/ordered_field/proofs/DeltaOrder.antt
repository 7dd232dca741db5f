-- The order of numbers with an infinitesimal part: total, and it goes with sums and with products by positive rationals.
use Rattle.std.proofs.Common.{◌≡◌, ◌⊎◌, Bool, true, false, ◌&&◌, cond, pos, refl, inl, inr, sym, subst, ◌∙◌}
use Rattle.std.specs.declared.cmp.Ordering.{Ordering}
use Rattle.std.specs.declared.cmp.Ordering.TheVariants.{Less, Equal, Greater}
use Rattle.std.specs.Ordering.{MatchOrdering, ordering_then}
use Rattle.ordered_field.specs.Rational.{ℚ, whole}
use Rattle.ordered_field.specs.Order.{at_most, ◌≤ℚ◌, ◌<ℚ◌}
use Rattle.ordered_field.specs.Delta.{DeltaValue, delta_at_most, delta_sum, delta_scaled, ◌≤δ◌, ◌<δ◌}
use Rattle.ordered_field.proofs.OrderLaws.{≤ℚ_refl, ≤ℚ_antisymm, ≤ℚ_trans, <ℚ-≤ℚ, at_most-sum, at_most-product}
use Rattle.ordered_field.proofs.OrderFacts.{<ℚ-not_≥, <ℚ-apart, <ℚ_trans, ≤ℚ_split}
use Rattle.ordered_field.proofs.DeltaLaws.{same_delta, delta_sum_comm, delta_scaled-zero}
use Rattle.std.proofs.Math.Bool.{true≢false}

-- ---- what the order says of the parts

pub below_by_real : (x y : DeltaValue) → x.real <ℚ y.real → x <δ y
unfolding delta_at_most
below_by_real x y h = rw (<ℚ-≤ℚ _ _ h, h) refl

pub below_by_inf : (x y : DeltaValue) → x.real ≡ y.real → x.inf <ℚ y.inf → x <δ y
unfolding delta_at_most
below_by_inf x y e h = rw (e, ≤ℚ_refl y.real, h) refl

pub compares_parts : (x y : DeltaValue) (real inf : Ordering) → MatchOrdering real (x.real <ℚ y.real) (x.real ≡ y.real) (y.real <ℚ x.real) → MatchOrdering inf (x.inf <ℚ y.inf) (x.inf ≡ y.inf) (y.inf <ℚ x.inf) → MatchOrdering (ordering_then real inf) (x <δ y) (x ≡ y) (y <δ x)
compares_parts x y Less inf h k = below_by_real x y h
compares_parts x y Equal Less h k = below_by_inf x y h k
compares_parts x y Equal Equal h k = same_delta x y h k
compares_parts x y Equal Greater h k = below_by_inf y x (sym h) k
compares_parts x y Greater inf h k = below_by_real y x h

-- at most, in its parts
pub record AtMostInParts (x y : DeltaValue) : Type 0 where
  pub either : (x.real <ℚ y.real) ⊎ ((x.real ≡ y.real) × (x.inf ≤ℚ y.inf))

pub record BelowInParts (x y : DeltaValue) : Type 0 where
  pub either : (x.real <ℚ y.real) ⊎ ((x.real ≡ y.real) × (x.inf <ℚ y.inf))

both_true : (s t : Bool) → (s && t) ≡ true → (s ≡ true) × (t ≡ true)
both_true true true e = (refl, refl)
both_true true false e = absurd (cc)
both_true false t e = absurd (cc)

not_both : (s t : Bool) → (s && t) ≡ false → (s ≡ false) ⊎ ((s ≡ true) × (t ≡ false))
not_both true true e = absurd (cc)
not_both true false e = inr (refl, refl)
not_both false t e = inl refl

at_most_tests : (x y : DeltaValue) (s t : Bool) → at_most y.real x.real ≡ s → at_most x.inf y.inf ≡ t → cond s (at_most x.real y.real && t) true ≡ true → AtMostInParts x y
at_most_tests x y true t p q h = let k = both_true (at_most x.real y.real) t h in record { either = inr (≤ℚ_antisymm _ _ k.0 p, q ∙ k.1) }
at_most_tests x y false t p q h = record { either = inl p }

pub ≤δ-parts : (x y : DeltaValue) → x ≤δ y → AtMostInParts x y
unfolding delta_at_most
≤δ-parts x y h = at_most_tests x y _ _ refl refl h

below_tests : (x y : DeltaValue) (s t u : Bool) → at_most x.real y.real ≡ s → at_most y.real x.real ≡ t → at_most y.inf x.inf ≡ u → cond s (t && u) true ≡ false → BelowInParts x y
below_tests x y true true u p q r h = record { either = inr (≤ℚ_antisymm _ _ p q, r ∙ h) }
below_tests x y true false u p q r h = record { either = inl q }
below_tests x y false t u p q r h = absurd (cc)

pub <δ-parts : (x y : DeltaValue) → x <δ y → BelowInParts x y
unfolding delta_at_most
<δ-parts x y h = below_tests x y _ _ _ refl refl refl h

pub at_most_by_real : (x y : DeltaValue) → x.real <ℚ y.real → x ≤δ y
unfolding delta_at_most
at_most_by_real x y h = rw h refl

pub at_most_by_inf : (x y : DeltaValue) → x.real ≡ y.real → x.inf ≤ℚ y.inf → x ≤δ y
unfolding delta_at_most
at_most_by_inf x y e h = rw (e, ≤ℚ_refl y.real, h) refl

-- ---- a total order

pub ≤δ_refl : (x : DeltaValue) → x ≤δ x
≤δ_refl x = at_most_by_inf x x refl (≤ℚ_refl x.inf)

pub ≤δ_antisymm : (x y : DeltaValue) → x ≤δ y → y ≤δ x → x ≡ y
≤δ_antisymm x y g h = by_parts (≤δ-parts x y g).either (≤δ-parts y x h).either
  where
    by_parts : (x.real <ℚ y.real) ⊎ ((x.real ≡ y.real) × (x.inf ≤ℚ y.inf)) → (y.real <ℚ x.real) ⊎ ((y.real ≡ x.real) × (y.inf ≤ℚ x.inf)) → x ≡ y
    by_parts (inl less) (inl more) = absurd (<ℚ-not_≥ _ _ less (<ℚ-≤ℚ _ _ more))
    by_parts (inl less) (inr k) = absurd (<ℚ-apart _ _ less (sym k.0))
    by_parts (inr k) (inl more) = absurd (<ℚ-apart _ _ more (sym k.0))
    by_parts (inr k) (inr l) = same_delta x y k.0 (≤ℚ_antisymm _ _ k.1 l.1)

pub ≤δ_trans : (x y z : DeltaValue) → x ≤δ y → y ≤δ z → x ≤δ z
≤δ_trans x y z g h = by_parts (≤δ-parts x y g).either (≤δ-parts y z h).either
  where
    by_parts : (x.real <ℚ y.real) ⊎ ((x.real ≡ y.real) × (x.inf ≤ℚ y.inf)) → (y.real <ℚ z.real) ⊎ ((y.real ≡ z.real) × (y.inf ≤ℚ z.inf)) → x ≤δ z
    by_parts (inl less) (inl more) = at_most_by_real x z (<ℚ_trans _ _ _ less more)
    by_parts (inl less) (inr k) = at_most_by_real x z (subst (λ v. x.real <ℚ v) k.0 less)
    by_parts (inr k) (inl more) = at_most_by_real x z (subst (λ v. v <ℚ z.real) (sym k.0) more)
    by_parts (inr k) (inr l) = at_most_by_inf x z (k.0 ∙ l.0) (≤ℚ_trans _ _ _ k.1 l.1)

pub <δ-not_≥ : (x y : DeltaValue) → x <δ y → y ≤δ x → ⊥
<δ-not_≥ x y h g = true≢false (sym g ∙ h)

pub <δ-≤δ : (x y : DeltaValue) → x <δ y → x ≤δ y
<δ-≤δ x y h = by_parts (<δ-parts x y h).either
  where
    by_parts : (x.real <ℚ y.real) ⊎ ((x.real ≡ y.real) × (x.inf <ℚ y.inf)) → x ≤δ y
    by_parts (inl less) = at_most_by_real x y less
    by_parts (inr k) = at_most_by_inf x y k.0 (<ℚ-≤ℚ _ _ k.1)

below_by : (x y : DeltaValue) (s : Bool) → delta_at_most y x ≡ s → (y ≤δ x → ⊥) → x <δ y
below_by x y true e n = absurd (n e)
below_by x y false e n = e

pub <δ_from_not_≥ : (x y : DeltaValue) → (y ≤δ x → ⊥) → x <δ y
<δ_from_not_≥ x y n = below_by x y (delta_at_most y x) refl n

pub <δ-≤δ_trans : (x y z : DeltaValue) → x <δ y → y ≤δ z → x <δ z
<δ-≤δ_trans x y z g h = <δ_from_not_≥ x z (λ k. <δ-not_≥ x y g (≤δ_trans y z x h k))

pub ≤δ-<δ_trans : (x y z : DeltaValue) → x ≤δ y → y <δ z → x <δ z
≤δ-<δ_trans x y z g h = <δ_from_not_≥ x z (λ k. <δ-not_≥ y z h (≤δ_trans z x y k g))

-- ---- the order and the operations

pub delta_at_most-sum : (x y z : DeltaValue) → delta_at_most (delta_sum x z) (delta_sum y z) ≡ delta_at_most x y
unfolding delta_at_most
delta_at_most-sum x y z = rw (at_most-sum y.real x.real z.real, at_most-sum x.real y.real z.real, at_most-sum x.inf y.inf z.inf) refl

pub delta_at_most-scaled : (k : ℚ) (x y : DeltaValue) → whole (pos 0) <ℚ k → delta_at_most (delta_scaled k x) (delta_scaled k y) ≡ delta_at_most x y
unfolding delta_at_most
delta_at_most-scaled k x y some = rw (at_most-product k y.real x.real some, at_most-product k x.real y.real some, at_most-product k x.inf y.inf some) refl

pub delta_sum-≤δ : (x y z w : DeltaValue) → x ≤δ y → z ≤δ w → delta_sum x z ≤δ delta_sum y w
delta_sum-≤δ x y z w g h = ≤δ_trans _ _ _ (delta_at_most-sum x y z ∙ g) (rw (delta_sum_comm y z, delta_sum_comm y w) (delta_at_most-sum z w y ∙ h))

-- a product by a number that is at least zero keeps the order
pub delta_scaled-≤δ : (k : ℚ) (x y : DeltaValue) → whole (pos 0) ≤ℚ k → x ≤δ y → delta_scaled k x ≤δ delta_scaled k y
delta_scaled-≤δ k x y some h = by_sign (≤ℚ_split _ _ some)
  where
    by_sign : (whole (pos 0) <ℚ k) ⊎ (whole (pos 0) ≡ k) → delta_scaled k x ≤δ delta_scaled k y
    by_sign (inl more) = delta_at_most-scaled k x y more ∙ h
    by_sign (inr none) = rw (← none, delta_scaled-zero x, delta_scaled-zero y) (≤δ_refl _)
