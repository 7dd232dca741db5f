-- The rational numbers are a commutative ring.
use Rattle.std.proofs.Common.{◌≡◌, pos, ◌∙◌, arith}
use Rattle.ordered_field.specs.Rational.{ℚ, fraction, whole, by_one, by_two, ◌+ℚ◌, ◌*ℚ◌, neg_ℚ}
use Rattle.ordered_field.proofs.Points.{same_point, equal_1, equal_2, equal_3, equal_4}

pub +ℚ_comm : (x y : ℚ) → x +ℚ y ≡ y +ℚ x
unfolding ◌+ℚ◌ by_two by_one
+ℚ_comm = equal_2 (λ x y. x +ℚ y) (λ x y. y +ℚ x) (λ a b. same_point _ _ (omega arith))

pub +ℚ_assoc : (x y z : ℚ) → (x +ℚ y) +ℚ z ≡ x +ℚ (y +ℚ z)
unfolding ◌+ℚ◌ by_two by_one
+ℚ_assoc = equal_3 (λ x y z. (x +ℚ y) +ℚ z) (λ x y z. x +ℚ (y +ℚ z)) (λ a b c. same_point _ _ (omega arith))

pub +ℚ-zero : (x : ℚ) → x +ℚ whole (pos 0) ≡ x
unfolding ◌+ℚ◌ by_two by_one whole fraction
+ℚ-zero = equal_1 (λ x. x +ℚ whole (pos 0)) (λ x. x) (λ a. same_point _ _ (omega arith))

pub zero-+ℚ : (x : ℚ) → whole (pos 0) +ℚ x ≡ x
zero-+ℚ x = +ℚ_comm _ _ ∙ +ℚ-zero x

pub +ℚ-neg : (x : ℚ) → x +ℚ neg_ℚ x ≡ whole (pos 0)
unfolding ◌+ℚ◌ neg_ℚ by_two by_one whole fraction
+ℚ-neg = equal_1 (λ x. x +ℚ neg_ℚ x) (λ x. whole (pos 0)) (λ a. same_point _ _ (omega arith))

pub *ℚ_comm : (x y : ℚ) → x *ℚ y ≡ y *ℚ x
unfolding ◌*ℚ◌ by_two by_one
*ℚ_comm = equal_2 (λ x y. x *ℚ y) (λ x y. y *ℚ x) (λ a b. same_point _ _ (omega arith))

pub *ℚ_assoc : (x y z : ℚ) → (x *ℚ y) *ℚ z ≡ x *ℚ (y *ℚ z)
unfolding ◌*ℚ◌ by_two by_one
*ℚ_assoc = equal_3 (λ x y z. (x *ℚ y) *ℚ z) (λ x y z. x *ℚ (y *ℚ z)) (λ a b c. same_point _ _ (omega arith))

pub *ℚ-one : (x : ℚ) → x *ℚ whole (pos 1) ≡ x
unfolding ◌*ℚ◌ by_two by_one whole fraction
*ℚ-one = equal_1 (λ x. x *ℚ whole (pos 1)) (λ x. x) (λ a. same_point _ _ (omega arith))

pub one-*ℚ : (x : ℚ) → whole (pos 1) *ℚ x ≡ x
one-*ℚ x = *ℚ_comm _ _ ∙ *ℚ-one x

pub *ℚ-zero : (x : ℚ) → x *ℚ whole (pos 0) ≡ whole (pos 0)
unfolding ◌*ℚ◌ by_two by_one whole fraction
*ℚ-zero = equal_1 (λ x. x *ℚ whole (pos 0)) (λ x. whole (pos 0)) (λ a. same_point _ _ (omega arith))

pub zero-*ℚ : (x : ℚ) → whole (pos 0) *ℚ x ≡ whole (pos 0)
zero-*ℚ x = *ℚ_comm _ _ ∙ *ℚ-zero x

pub *ℚ-+ℚ : (x y z : ℚ) → x *ℚ (y +ℚ z) ≡ x *ℚ y +ℚ x *ℚ z
unfolding ◌+ℚ◌ ◌*ℚ◌ by_two by_one
*ℚ-+ℚ = equal_3 (λ x y z. x *ℚ (y +ℚ z)) (λ x y z. x *ℚ y +ℚ x *ℚ z) (λ a b c. same_point _ _ (omega arith))

pub +ℚ-*ℚ : (x y z : ℚ) → (x +ℚ y) *ℚ z ≡ x *ℚ z +ℚ y *ℚ z
unfolding ◌+ℚ◌ ◌*ℚ◌ by_two by_one
+ℚ-*ℚ = equal_3 (λ x y z. (x +ℚ y) *ℚ z) (λ x y z. x *ℚ z +ℚ y *ℚ z) (λ a b c. same_point _ _ (omega arith))

pub neg_ℚ-neg_ℚ : (x : ℚ) → neg_ℚ (neg_ℚ x) ≡ x
unfolding neg_ℚ by_one
neg_ℚ-neg_ℚ = equal_1 (λ x. neg_ℚ (neg_ℚ x)) (λ x. x) (λ a. same_point _ _ (omega arith))

pub neg_ℚ-+ℚ : (x y : ℚ) → neg_ℚ (x +ℚ y) ≡ neg_ℚ x +ℚ neg_ℚ y
unfolding ◌+ℚ◌ neg_ℚ by_two by_one
neg_ℚ-+ℚ = equal_2 (λ x y. neg_ℚ (x +ℚ y)) (λ x y. neg_ℚ x +ℚ neg_ℚ y) (λ a b. same_point _ _ (omega arith))

pub neg_ℚ-*ℚ : (x y : ℚ) → neg_ℚ x *ℚ y ≡ neg_ℚ (x *ℚ y)
unfolding ◌*ℚ◌ neg_ℚ by_two by_one
neg_ℚ-*ℚ = equal_2 (λ x y. neg_ℚ x *ℚ y) (λ x y. neg_ℚ (x *ℚ y)) (λ a b. same_point _ _ (omega arith))

pub *ℚ-neg_ℚ : (x y : ℚ) → x *ℚ neg_ℚ y ≡ neg_ℚ (x *ℚ y)
unfolding ◌*ℚ◌ neg_ℚ by_two by_one
*ℚ-neg_ℚ = equal_2 (λ x y. x *ℚ neg_ℚ y) (λ x y. neg_ℚ (x *ℚ y)) (λ a b. same_point _ _ (omega arith))

-- ---- rearrangements

pub +ℚ-exchange : (x y z w : ℚ) → (x +ℚ y) +ℚ (z +ℚ w) ≡ (x +ℚ z) +ℚ (y +ℚ w)
unfolding ◌+ℚ◌ by_two by_one
+ℚ-exchange = equal_4 (λ x y z w. (x +ℚ y) +ℚ (z +ℚ w)) (λ x y z w. (x +ℚ z) +ℚ (y +ℚ w)) (λ a b c d. same_point _ _ (omega arith))
