-- What an answer of `cmp` tells of the rationals that the two values mean.
use Rattle.std.proofs.Common.{◌≡◌, ◌⊎◌, ◌↔◌, refl, inl, inr, ap, ◌∙◌}
use Rattle.std.specs.declared.cmp.Ordering.{Ordering}
use Rattle.std.specs.declared.cmp.Ordering.TheVariants.{Less, Equal, Greater}
use Rattle.std.specs.Ordering.{MatchOrdering, ordering_reverse}
use Rattle.std.specs.Cmp.{IsTotalOrder}
use Rattle.ordered_field.specs.Rational.{ℚ}
use Rattle.ordered_field.specs.Order.{◌<ℚ◌}
use Rattle.ordered_field.proofs.OrderLaws.{trichotomy}

module _ {F : Type 0} (cmp : F → F → Ordering) (value : F → ℚ) (ordered : (x y : F) → (cmp x y ≡ Less) ↔ (value x <ℚ value y)) (total : IsTotalOrder cmp) where
  less_back : (x y : F) → value y <ℚ value x → cmp x y ≡ Greater
  less_back x y h = total.antisymm x y ∙ ap ordering_reverse ((ordered y x).1 h)

  equal_values : (x y : F) → cmp x y ≡ Equal → (value x <ℚ value y) ⊎ ((value x ≡ value y) ⊎ (value y <ℚ value x)) → value x ≡ value y
  equal_values x y e (inl less) = let h : cmp x y ≡ Less = (ordered x y).1 less in cc
  equal_values x y e (inr (inl same)) = same
  equal_values x y e (inr (inr more)) = let h : cmp x y ≡ Greater = less_back x y more in cc

  by_answer : (x y : F) (answer : Ordering) → cmp x y ≡ answer → MatchOrdering answer (value x <ℚ value y) (value x ≡ value y) (value y <ℚ value x)
  by_answer x y Less e = (ordered x y).0 e
  by_answer x y Equal e = equal_values x y e (trichotomy (value x) (value y))
  by_answer x y Greater e = (ordered y x).0 (total.antisymm y x ∙ ap ordering_reverse e)

  pub compares_values : (x y : F) → MatchOrdering (cmp x y) (value x <ℚ value y) (value x ≡ value y) (value y <ℚ value x)
  compares_values x y = by_answer x y (cmp x y) refl
