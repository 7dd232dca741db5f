-- The least of a number and a set of numbers.
use Rattle.std.proofs.Common.{◌≡◌, ◌⊎◌, inl, inr, refl, sym, subst, ◌∙◌, pos}
use Rattle.ordered_field.specs.Rational.{ℚ, whole}
use Rattle.ordered_field.specs.Order.{◌≤ℚ◌, ◌<ℚ◌}
use Rattle.ordered_field.proofs.OrderLaws.{≤ℚ_refl, ≤ℚ_trans, ≤ℚ_antisymm, <ℚ-≤ℚ}
use Rattle.ordered_field.proofs.OrderFacts.{≤ℚ_from_same, ≤ℚ_from_not_>}
use Rattle.corner_values.specs.Epsilon.{IsLeastOf}

pub least_of_none : (x : ℚ) (P : ℚ → Type 0) → ((q : ℚ) → P q → ⊥) → IsLeastOf x P x
least_of_none x P none = record { at_most = ≤ℚ_refl x; below = λ q p. absurd (none q p); reached = inl refl }

-- of the same set
pub least_like : (x : ℚ) (P Q : ℚ → Type 0) (y : ℚ) → ((q : ℚ) → P q → Q q) → ((q : ℚ) → Q q → P q) → IsLeastOf x P y → IsLeastOf x Q y
least_like x P Q y to back least = record { at_most = least.at_most; below = λ q h. least.below q (back q h); reached = by least.reached }
  where
    by : (y ≡ x) ⊎ P y → (y ≡ x) ⊎ Q y
    by (inl e) = inl e
    by (inr p) = inr (to y p)

-- of a second set too
pub least_more : (x : ℚ) (P Q S : ℚ → Type 0) (y z : ℚ) → ((q : ℚ) → P q → S q) → ((q : ℚ) → Q q → S q) → ((q : ℚ) → S q → P q ⊎ Q q) → IsLeastOf x P y → IsLeastOf y Q z → IsLeastOf x S z
least_more x P Q S y z from_P from_Q split first second = record {
  at_most = ≤ℚ_trans z y x second.at_most first.at_most;
  below = λ q s. below q (split q s);
  reached = by second.reached;
}
  where
    below : (q : ℚ) → P q ⊎ Q q → z ≤ℚ q
    below q (inl p) = ≤ℚ_trans z y q second.at_most (first.below q p)
    below q (inr p) = second.below q p

    by_first : z ≡ y → (y ≡ x) ⊎ P y → (z ≡ x) ⊎ S z
    by_first e (inl f) = inl (e ∙ f)
    by_first e (inr p) = inr (from_P z (subst P (sym e) p))

    by : (z ≡ y) ⊎ Q z → (z ≡ x) ⊎ S z
    by (inl e) = by_first e first.reached
    by (inr q) = inr (from_Q z q)

under : (x : ℚ) (P : ℚ → Type 0) (y z : ℚ) → IsLeastOf x P y → (z ≡ x) ⊎ P z → y ≤ℚ z
under x P y z least (inl e) = subst (λ w. y ≤ℚ w) (sym e) least.at_most
under x P y z least (inr p) = least.below z p

pub least_unique : (x : ℚ) (P : ℚ → Type 0) (y z : ℚ) → IsLeastOf x P y → IsLeastOf x P z → y ≡ z
least_unique x P y z one other =
    ≤ℚ_antisymm y z (under x P y z one other.reached) (under x P z y other one.reached)

pub least_positive : (x : ℚ) (P : ℚ → Type 0) (y : ℚ) → whole (pos 0) <ℚ x → ((q : ℚ) → P q → whole (pos 0) <ℚ q) → IsLeastOf x P y → whole (pos 0) <ℚ y
least_positive x P y some each least = by least.reached
  where
    by : (y ≡ x) ⊎ P y → whole (pos 0) <ℚ y
    by (inl e) = subst (λ w. whole (pos 0) <ℚ w) (sym e) some
    by (inr p) = each y p

-- ---- of two numbers

pub least_second : (x y : ℚ) → y <ℚ x → IsLeastOf x (λ q. q ≡ y) y
least_second x y less = record {
  at_most = <ℚ-≤ℚ y x less;
  below = λ q e. ≤ℚ_from_same y q (sym e);
  reached = inr refl;
}

pub least_first : (x y : ℚ) → (y <ℚ x → ⊥) → IsLeastOf x (λ q. q ≡ y) x
least_first x y above = record {
  at_most = ≤ℚ_refl x;
  below = λ q e. subst (λ w. x ≤ℚ w) (sym e) (≤ℚ_from_not_> x y above);
  reached = inl refl;
}
