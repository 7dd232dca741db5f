-- The rational numbers are totally ordered, and the order goes with sums and with products by positive numbers.
use mathlib.Core.Quot.{Quot-set}
use Rattle.std.proofs.Common.{◌≡◌, ℕ, ◌+◌, ◌*◌, ◌-◌, ◌<◌, ◌≤◌, ◌⊎◌, Bool, true, false, pos, refl, inl, inr, arith, lit<}
use Rattle.std.proofs.Math.Bool.{Bool-set}
use Rattle.std.proofs.Math.Nat.{mul-le-mul_left, le_of_mul-le-mul_left}
use Rattle.std.proofs.lemmas.Bool.{leb-true, le-leb, leb-false, lt-leb}
use Rattle.std.specs.Cmp.{both_ways}
use Rattle.ordered_field.specs.Rational.{Parts, ℚ, point, product_some, sum_parts, product_parts, opposite_parts, parts_of, fraction, whole, by_one, by_two, ◌+ℚ◌, ◌*ℚ◌, neg_ℚ}
use Rattle.ordered_field.specs.Order.{AtMost, at_most_parts, at_most, at_least_parts, ◌≤ℚ◌, ◌<ℚ◌}
use Rattle.ordered_field.proofs.Points.{same_point, holds_1, holds_2, holds_3, alike_2, alike_3}

-- ---- of quotients

pub from_test : (a b : Parts) → point a ≤ℚ point b → AtMost a b
unfolding at_most at_least_parts
from_test a b h = leb-true _ _ h

pub to_test : (a b : Parts) → AtMost a b → point a ≤ℚ point b
unfolding at_most at_least_parts
to_test a b h = le-leb _ _ h

pub from_strict_test : (a b : Parts) → point a <ℚ point b → b.up * a.den + a.down * b.den ≤ a.up * b.den + b.down * a.den → ⊥
unfolding at_most at_least_parts
from_strict_test a b h = λ g. absurd (omega (arith, leb-false _ _ h))

pub to_strict_test : (a b : Parts) → a.up * b.den + b.down * a.den < b.up * a.den + a.down * b.den → point a <ℚ point b
unfolding at_most at_least_parts
to_strict_test a b h = lt-leb _ _ h

-- two tests of quotients agree where each follows from the other
alike_tests : (a b c d : Parts) → (AtMost a b → AtMost c d) → (AtMost c d → AtMost a b) → at_most_parts a b ≡ at_most_parts c d
alike_tests a b c d f g = both_ways _ _ (λ h. le-leb _ _ (f (leb-true _ _ h))) (λ h. le-leb _ _ (g (leb-true _ _ h)))

-- ---- a total order

pub ≤ℚ_refl : (x : ℚ) → x ≤ℚ x
≤ℚ_refl = holds_1 (λ x. x ≤ℚ x) (λ x. Bool-set _ _) (λ a. to_test a a (omega arith))

AtMost_trans : (a b c : Parts) → AtMost a b → AtMost b c → AtMost a c
AtMost_trans a b c g h = le_of_mul-le-mul_left {k = b.den} (omega (arith, mul-le-mul_left c.den g, mul-le-mul_left a.den h)) b.some

pub ≤ℚ_trans : (x y z : ℚ) → x ≤ℚ y → y ≤ℚ z → x ≤ℚ z
≤ℚ_trans = holds_3 (λ x y z. x ≤ℚ y → y ≤ℚ z → x ≤ℚ z) (λ x y z. hlevel Bool-set) (λ a b c g h. to_test a c (AtMost_trans a b c (from_test a b g) (from_test b c h)))

AtMost_total : (a b : Parts) → at_most_parts b a ≡ false → AtMost a b
AtMost_total a b h = omega (arith, leb-false _ _ h)

pub <ℚ-≤ℚ : (x y : ℚ) → x <ℚ y → x ≤ℚ y
unfolding at_most at_least_parts
<ℚ-≤ℚ = holds_2 (λ x y. x <ℚ y → x ≤ℚ y) (λ x y. hlevel Bool-set) (λ a b h. to_test a b (AtMost_total a b h))

pub ≤ℚ_antisymm : (x y : ℚ) → x ≤ℚ y → y ≤ℚ x → x ≡ y
≤ℚ_antisymm = holds_2 (λ x y. x ≤ℚ y → y ≤ℚ x → x ≡ y) (λ x y. hlevel Quot-set) (λ a b g h. antisymm_parts a b (from_test a b g) (from_test b a h))
  where
    antisymm_parts : (a b : Parts) → AtMost a b → AtMost b a → point a ≡ point b
    antisymm_parts a b g h = same_point a b (omega arith)

-- one of the three holds
pub trichotomy : (x y : ℚ) → (x <ℚ y) ⊎ ((x ≡ y) ⊎ (y <ℚ x))
trichotomy x y = by_tests (at_most x y) (at_most y x) refl refl
  where
    by_tests : (s t : Bool) → at_most x y ≡ s → at_most y x ≡ t → (x <ℚ y) ⊎ ((x ≡ y) ⊎ (y <ℚ x))
    by_tests true true p q = inr (inl (≤ℚ_antisymm x y p q))
    by_tests true false p q = inl q
    by_tests false t p q = inr (inr p)

-- ---- the order and the operations

AtMost_sum : (a b c : Parts) → AtMost a b → AtMost (sum_parts a c) (sum_parts b c)
AtMost_sum a b c h = omega (arith, mul-le-mul_left (c.den * c.den) h)

sum_AtMost : (a b c : Parts) → AtMost (sum_parts a c) (sum_parts b c) → AtMost a b
sum_AtMost a b c h = le_of_mul-le-mul_left {k = c.den * c.den} (omega arith) (product_some c.den c.den c.some c.some)

pub at_most-sum : (x y z : ℚ) → at_most (x +ℚ z) (y +ℚ z) ≡ at_most x y
unfolding at_most at_least_parts ◌+ℚ◌ by_two by_one
at_most-sum = alike_3 (λ x y z. at_most (x +ℚ z) (y +ℚ z)) (λ x y z. at_most x y) (λ a b c. alike_tests (sum_parts a c) (sum_parts b c) a b (sum_AtMost a b c) (AtMost_sum a b c))

AtMost_opposite : (a b : Parts) → AtMost (opposite_parts a) (opposite_parts b) → AtMost b a
AtMost_opposite a b h = omega arith

opposite_AtMost : (a b : Parts) → AtMost b a → AtMost (opposite_parts a) (opposite_parts b)
opposite_AtMost a b h = omega arith

pub at_most-neg : (x y : ℚ) → at_most (neg_ℚ x) (neg_ℚ y) ≡ at_most y x
unfolding at_most at_least_parts neg_ℚ by_one
at_most-neg = alike_2 (λ x y. at_most (neg_ℚ x) (neg_ℚ y)) (λ x y. at_most y x) (λ a b. alike_tests (opposite_parts a) (opposite_parts b) b a (AtMost_opposite a b) (opposite_AtMost a b))

-- ---- products by a positive number

-- m ≤ n exactly where u * m + d * n ≤ u * n + d * m, for d below u
weighed : (u d m n : ℕ) → d < u → m ≤ n → u * m + d * n ≤ u * n + d * m
weighed u d m n less h =
    let t : (k : ℕ) × (u ≡ d + k) = (u - d, omega arith) in
    rw t.1 (omega (arith, mul-le-mul_left t.0 h))

unweighed : (u d m n : ℕ) → d < u → u * m + d * n ≤ u * n + d * m → m ≤ n
unweighed u d m n less h =
    let t : (k : ℕ) × ((u ≡ d + k) × (0 < k)) = (u - d, (omega arith, omega arith)) in
    le_of_mul-le-mul_left {k = t.0} (omega (arith, rw t.1.0 at h)) t.1.1

IsPositive : Parts → Type 0
IsPositive k = k.down < k.up

AtMost_product : (k a b : Parts) → IsPositive k → AtMost a b → AtMost (product_parts k a) (product_parts k b)
unfolding IsPositive
AtMost_product k a b some h = omega (arith, mul-le-mul_left k.den (weighed k.up k.down _ _ some h))

product_AtMost : (k a b : Parts) → IsPositive k → AtMost (product_parts k a) (product_parts k b) → AtMost a b
unfolding IsPositive
product_AtMost k a b some h = unweighed k.up k.down _ _ some (le_of_mul-le-mul_left {k = k.den} (omega arith) k.some)

positive_parts : (k : Parts) → at_most_parts k (parts_of (pos 0) 1 (lit< tt)) ≡ false → IsPositive k
unfolding IsPositive
positive_parts k h = omega (arith, leb-false _ _ h)

pub at_most-product : (k x y : ℚ) → whole (pos 0) <ℚ k → at_most (k *ℚ x) (k *ℚ y) ≡ at_most x y
unfolding at_most at_least_parts whole fraction ◌*ℚ◌ by_two by_one
at_most-product = holds_3 (λ k x y. whole (pos 0) <ℚ k → at_most (k *ℚ x) (k *ℚ y) ≡ at_most x y) (λ k x y. hlevel Bool-set) (λ k a b some. alike_tests (product_parts k a) (product_parts k b) a b (product_AtMost k a b (positive_parts k some)) (AtMost_product k a b (positive_parts k some)))
