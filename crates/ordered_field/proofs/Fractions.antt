-- Fractions n / d: when two are equal or ordered, and their sums, products and opposites.
use Rattle.std.proofs.Common.{◌≡◌, ℕ, zero, suc, ◌+◌, ◌*◌, ◌<◌, ℤ, pos, negsuc, ◌+ℤ◌, ◌*ℤ◌, neg_ℤ, ◌≤ℤ◌, ◌<ℤ◌, refl, ap, sym, arith, lit<}
use Rattle.std.proofs.lemmas.Int.{ints}
use borrow.Author.Differences.{up, down}
use Rattle.ordered_field.specs.Rational.{Parts, Same, point, parts_of, sum_parts, product_parts, fraction, whole, by_one, by_two, ◌+ℚ◌, ◌*ℚ◌, neg_ℚ}
use Rattle.ordered_field.specs.Order.{◌≤ℚ◌, ◌<ℚ◌}
use Rattle.ordered_field.proofs.Points.{same_point}
use Rattle.ordered_field.proofs.OrderLaws.{from_test, to_test, from_strict_test, to_strict_test}
use Rattle.ordered_field.proofs.OrderFacts.{≤ℚ_from_same}

-- ---- a product by a natural number, in its two parts

opposite_of_natural : (m : ℕ) → (up (neg_ℤ (pos m)) ≡ 0) × (down (neg_ℤ (pos m)) ≡ m)
opposite_of_natural zero = (refl, refl)
opposite_of_natural (suc m) = (refl, refl)

pub product_by : (n : ℤ) (k : ℕ) → up (n *ℤ pos k) + down n * k ≡ up n * k + down (n *ℤ pos k)
product_by (pos n) k = omega arith
product_by (negsuc n) k = omega (arith, opposite_of_natural (suc n * k))

-- a product, in its two parts
pub product_is : (n m : ℤ) → up (n *ℤ m) + (up n * down m + down n * up m) ≡ (up n * up m + down n * down m) + down (n *ℤ m)
product_is (pos n) (pos m) = omega arith
product_is (pos n) (negsuc m) = omega (arith, opposite_of_natural (n * suc m))
product_is (negsuc n) (pos m) = omega (arith, opposite_of_natural (suc n * m))
product_is (negsuc n) (negsuc m) = omega arith

-- ---- equality

pub fraction-same : (n m : ℤ) (d e : ℕ) (some : zero < d) (other : zero < e) → n *ℤ pos e ≡ m *ℤ pos d → fraction n d some ≡ fraction m e other
unfolding fraction
fraction-same n m d e some other h = same_point _ _ (omega (arith, product_by n e, product_by m d, ap up h, ap down h))

-- equal quotients are at most each other
same_cross : (a b : Parts) → point a ≡ point b → Same a b
same_cross a b h = let g = from_test a b (≤ℚ_from_same _ _ h) in let k = from_test b a (≤ℚ_from_same _ _ (sym h)) in omega (arith, g, k)

pub fraction-cross : (n m : ℤ) (d e : ℕ) (some : zero < d) (other : zero < e) → fraction n d some ≡ fraction m e other → n *ℤ pos e ≡ m *ℤ pos d
unfolding fraction
fraction-cross n m d e some other h = let k = same_cross _ _ h in omega (arith, ints, k, product_by n e, product_by m d)

-- ---- the order

pub fraction-≤ℚ : (n m : ℤ) (d e : ℕ) (some : zero < d) (other : zero < e) → (n *ℤ pos e) ≤ℤ (m *ℤ pos d) → fraction n d some ≤ℚ fraction m e other
unfolding fraction
fraction-≤ℚ n m d e some other h = to_test _ _ (omega (arith, ints, h, product_by n e, product_by m d))

pub ≤ℚ-fraction : (n m : ℤ) (d e : ℕ) (some : zero < d) (other : zero < e) → fraction n d some ≤ℚ fraction m e other → (n *ℤ pos e) ≤ℤ (m *ℤ pos d)
unfolding fraction
≤ℚ-fraction n m d e some other h = let k = from_test (parts_of n d some) (parts_of m e other) h in omega (arith, ints, k, product_by n e, product_by m d)

pub fraction-<ℚ : (n m : ℤ) (d e : ℕ) (some : zero < d) (other : zero < e) → (n *ℤ pos e) <ℤ (m *ℤ pos d) → fraction n d some <ℚ fraction m e other
unfolding fraction
fraction-<ℚ n m d e some other h = to_strict_test (parts_of n d some) (parts_of m e other) (omega (arith, ints, h, product_by n e, product_by m d))

pub <ℚ-fraction : (n m : ℤ) (d e : ℕ) (some : zero < d) (other : zero < e) → fraction n d some <ℚ fraction m e other → (n *ℤ pos e) <ℤ (m *ℤ pos d)
unfolding fraction
<ℚ-fraction n m d e some other h = let k = from_strict_test (parts_of n d some) (parts_of m e other) h in omega (arith, ints, k, product_by n e, product_by m d)

-- ---- the sign

pub fraction-zero : (d : ℕ) (some : zero < d) → fraction (pos 0) d some ≡ whole (pos 0)
unfolding fraction whole
fraction-zero d some = same_point _ _ (omega arith)

pub zero-fraction : (n : ℤ) (d : ℕ) (some : zero < d) → fraction n d some ≡ whole (pos 0) → n ≡ pos 0
unfolding fraction whole
zero-fraction n d some h = let k = same_cross (parts_of n d some) (parts_of (pos 0) 1 (lit< tt)) h in zero_by n d some (omega arith)
  where
    zero_by : (n : ℤ) (d : ℕ) → zero < d → up n * 1 + 0 * d ≡ 0 * d + down n * 1 → n ≡ pos 0
    zero_by n d some h = omega (arith, ints, h)

pub fraction-negative : (n : ℤ) (d : ℕ) (some : zero < d) → n <ℤ pos 0 → fraction n d some <ℚ whole (pos 0)
unfolding fraction whole
fraction-negative n d some h = to_strict_test (parts_of n d some) (parts_of (pos 0) 1 (lit< tt)) (omega (arith, ints, h))

pub negative-fraction : (n : ℤ) (d : ℕ) (some : zero < d) → fraction n d some <ℚ whole (pos 0) → n <ℤ pos 0
unfolding fraction whole
negative-fraction n d some h = let k = from_strict_test (parts_of n d some) (parts_of (pos 0) 1 (lit< tt)) h in omega (arith, ints, k)

pub fraction-positive : (n : ℤ) (d : ℕ) (some : zero < d) → pos 0 <ℤ n → whole (pos 0) <ℚ fraction n d some
unfolding fraction whole
fraction-positive n d some h = to_strict_test (parts_of (pos 0) 1 (lit< tt)) (parts_of n d some) (omega (arith, ints, h))

pub positive-fraction : (n : ℤ) (d : ℕ) (some : zero < d) → whole (pos 0) <ℚ fraction n d some → pos 0 <ℤ n
unfolding fraction whole
positive-fraction n d some h = let k = from_strict_test (parts_of (pos 0) 1 (lit< tt)) (parts_of n d some) h in omega (arith, ints, k)

-- ---- sum, product, opposite

pub fraction-sum : (n m : ℤ) (d e : ℕ) (some : zero < d) (other : zero < e) (both : zero < d * e) → fraction n d some +ℚ fraction m e other ≡ fraction (n *ℤ pos e +ℤ m *ℤ pos d) (d * e) both
unfolding fraction ◌+ℚ◌ by_two by_one
fraction-sum n m d e some other both = same_point _ _ (ap_same (omega (arith, ints, product_by n e, product_by m d)))
  where
    ap_same : (up n * e + up m * d) + down (n *ℤ pos e +ℤ m *ℤ pos d) ≡ up (n *ℤ pos e +ℤ m *ℤ pos d) + (down n * e + down m * d) → Same (sum_parts (parts_of n d some) (parts_of m e other)) (parts_of (n *ℤ pos e +ℤ m *ℤ pos d) (d * e) both)
    ap_same h = omega (arith, ap (λ k. k * (d * e)) h)

pub fraction-product : (n m : ℤ) (d e : ℕ) (some : zero < d) (other : zero < e) (both : zero < d * e) → fraction n d some *ℚ fraction m e other ≡ fraction (n *ℤ m) (d * e) both
unfolding fraction ◌*ℚ◌ by_two by_one
fraction-product n m d e some other both = same_point _ _ (ap_same (omega (arith, product_is n m)))
  where
    ap_same : (up n * up m + down n * down m) + down (n *ℤ m) ≡ up (n *ℤ m) + (up n * down m + down n * up m) → Same (product_parts (parts_of n d some) (parts_of m e other)) (parts_of (n *ℤ m) (d * e) both)
    ap_same h = omega (arith, ap (λ k. k * (d * e)) h)

pub neg_ℚ-fraction : (n : ℤ) (d : ℕ) (some : zero < d) → neg_ℚ (fraction n d some) ≡ fraction (neg_ℤ n) d some
unfolding fraction neg_ℚ by_one
neg_ℚ-fraction n d some = same_point _ _ (omega (arith, ap (λ k. k * d) (opposite_is n)))
  where
    opposite_is : (n : ℤ) → down n + down (neg_ℤ n) ≡ up (neg_ℤ n) + up n
    opposite_is (pos zero) = refl
    opposite_is (pos (suc n)) = omega arith
    opposite_is (negsuc n) = omega arith

-- ---- whole numbers

pub whole-is_fraction : (n : ℤ) (some : zero < 1) → whole n ≡ fraction n 1 some
unfolding whole fraction
whole-is_fraction n some = same_point _ _ (omega arith)

pub whole-injective : (n m : ℤ) → whole n ≡ whole m → n ≡ m
unfolding whole fraction
whole-injective n m h = let k = same_cross (parts_of n 1 (lit< tt)) (parts_of m 1 (lit< tt)) h in omega (arith, ints, k)

pub whole-sum : (n m : ℤ) → whole (n +ℤ m) ≡ whole n +ℚ whole m
unfolding whole fraction ◌+ℚ◌ by_two by_one
whole-sum n m = same_point _ _ (omega (arith, ints))

pub whole-product : (n m : ℤ) → whole (n *ℤ m) ≡ whole n *ℚ whole m
unfolding whole fraction ◌*ℚ◌ by_two by_one
whole-product n m = same_point _ _ (omega (arith, product_is n m))

pub whole-neg : (n : ℤ) → whole (neg_ℤ n) ≡ neg_ℚ (whole n)
unfolding whole
whole-neg n = sym (neg_ℚ-fraction n 1 (lit< tt))

pub whole-<ℚ : (n m : ℤ) → n <ℤ m → whole n <ℚ whole m
unfolding whole fraction
whole-<ℚ n m h = to_strict_test (parts_of n 1 (lit< tt)) (parts_of m 1 (lit< tt)) (omega (arith, ints, h))

pub <ℚ-whole : (n m : ℤ) → whole n <ℚ whole m → n <ℤ m
unfolding whole fraction
<ℚ-whole n m h =
    let k = from_strict_test (parts_of n 1 (lit< tt)) (parts_of m 1 (lit< tt)) h in omega (arith, ints, k)

pub whole-≤ℚ : (n m : ℤ) → n ≤ℤ m → whole n ≤ℚ whole m
unfolding whole fraction
whole-≤ℚ n m h = to_test _ _ (omega (arith, ints, h))

pub ≤ℚ-whole : (n m : ℤ) → whole n ≤ℚ whole m → n ≤ℤ m
unfolding whole fraction
≤ℚ-whole n m h = let k = from_test (parts_of n 1 (lit< tt)) (parts_of m 1 (lit< tt)) h in omega (arith, ints, k)

-- n / d times d is n
pub fraction-times_den : (n : ℤ) (d : ℕ) (some : zero < d) → fraction n d some *ℚ whole (pos d) ≡ whole n
unfolding fraction whole ◌*ℚ◌ by_two by_one
fraction-times_den n d some = same_point _ _ (omega arith)

pub one-apart_zero : whole (pos 1) ≡ whole (pos 0) → ⊥
one-apart_zero e = let same : pos 1 ≡ pos 0 = whole-injective (pos 1) (pos 0) e in absurd (omega (arith, ints))
