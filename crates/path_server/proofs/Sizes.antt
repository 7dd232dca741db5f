-- Sizes of products and of least common multiples, and what a number is once it was passed as 128 bits.
use Rattle.std.proofs.Common.{◌≡◌, ℕ, ◌+◌, ◌*◌, ◌/◌, ◌<◌, ◌≤◌, ◌^◌, ℤ, pos, negsuc, ◌-ℤ◌, ◌*ℤ◌, ◌≤ℤ◌, neg_ℤ, unsigned_abs, ◌∙◌, ap, arith, FitsSigned, to_z, of_z, int_div, Option, Some, unwrap_or}
use Rattle.std.proofs.Math.Nat.{mul-le-mul_left, mul-le-mul_right, div-le_of_le-mul, dvd-mul_left_of_dvd, dvd-mul_right_of_dvd}
use Rattle.std.proofs.lemmas.Int.{ints, to_z-of_z, fits_signed_from_abs, unsigned_abs-mul}
use Rattle.std.proofs.lemmas.Nat.Gcd.{le_of_dvd, dvd_refl}
use Rattle.std.specs.Int.{w128}
use Rattle.whole.specs.Numbers.{lcm_of, whole}
use Rattle.whole.proofs.Overflow.{whole_kept}
use Rattle.path_server.proofs.Flows.{given, given_is}
use Rattle.whole.proofs.Integers.{unsigned_abs-+ℤ, unsigned_abs-neg_ℤ}
use Rattle.whole.proofs.Divisors.{IsLcm-lcm_of}

pub fits : (z : ℤ) → unsigned_abs z < 2 ^ 127 → FitsSigned w128 z
fits z small = fits_signed_from_abs w128 z small

-- a product is at most as large as the product of the sizes' bounds
pub product_size : (a b : ℤ) (m n : ℕ) → unsigned_abs a ≤ m → unsigned_abs b ≤ n → unsigned_abs (a *ℤ b) ≤ m * n
product_size a b m n left right =
    rw (unsigned_abs-mul a b) (omega (arith, mul-le-mul_left (unsigned_abs a) right, mul-le-mul_right n left))

pub size_of_natural : (z : ℤ) (m : ℕ) → pos 0 ≤ℤ z → z ≤ℤ pos m → unsigned_abs z ≤ m
size_of_natural (pos n) m from to = omega (arith, ints)
size_of_natural (negsuc n) m from to = absurd (omega (arith, ints))

pub size_of_difference : (i d m n : ℕ) → i ≤ m → d ≤ n → unsigned_abs (pos i -ℤ pos d) ≤ m + n
size_of_difference i d m n left right =
    omega (arith, unsigned_abs-+ℤ (pos i) (neg_ℤ (pos d)), unsigned_abs-neg_ℤ (pos d))

-- `n * (a - b) * q` as the code forms it
rate_formed : (n a b q : ℤ) → FitsSigned w128 n → FitsSigned w128 a → FitsSigned w128 b → FitsSigned w128 q
    → FitsSigned w128 (a -ℤ b) → FitsSigned w128 (n *ℤ (a -ℤ b))
    → to_z w128 (of_z w128 (to_z w128 (of_z w128 n) *ℤ to_z w128 (of_z w128 (to_z w128 (of_z w128 a) -ℤ to_z w128 (of_z w128 b)))))
    *ℤ to_z w128 (of_z w128 q)
    ≡ n *ℤ (a -ℤ b) *ℤ q
rate_formed n a b q fn fa fb fq fab fnab = simp to_z-of_z

-- the same is the exact product, and it is small
pub rate_exact : (n a b q : ℤ) (i d : ℕ) → pos 0 ≤ℤ n → n ≤ℤ pos 1000000 → a ≡ pos i → b ≡ pos d → i < 64 → d ≤ 8 → unsigned_abs q ≤ 1000
    → (to_z w128 (of_z w128 (to_z w128 (of_z w128 n) *ℤ to_z w128 (of_z w128 (to_z w128 (of_z w128 a) -ℤ to_z w128 (of_z w128 b)))))
    *ℤ to_z w128 (of_z w128 q) ≡ n *ℤ (pos i -ℤ pos d) *ℤ q)
    × (unsigned_abs (n *ℤ (pos i -ℤ pos d) *ℤ q) ≤ 72000000000)
rate_exact n a b q i d from to ia db few back small =
    let size_n : unsigned_abs n ≤ 1000000 = size_of_natural n 1000000 from to in
    let size_k : unsigned_abs (pos i -ℤ pos d) ≤ 64 + 8 = size_of_difference i d 64 8 (omega arith) back in
    let size_nk : unsigned_abs (n *ℤ (pos i -ℤ pos d)) ≤ 1000000 * 72 = product_size n (pos i -ℤ pos d) 1000000 72 size_n size_k in
    let size_nkq : unsigned_abs (n *ℤ (pos i -ℤ pos d) *ℤ q) ≤ 72000000 * 1000 =
    product_size (n *ℤ (pos i -ℤ pos d)) q 72000000 1000 size_nk small in (
      rw (ia, db)
          (rate_formed n (pos i) (pos d) q (fits n (omega arith)) (fits (pos i) (omega arith)) (fits (pos d) (omega arith))
          (fits q (omega arith)) (fits (pos i -ℤ pos d) (omega arith)) (fits (n *ℤ (pos i -ℤ pos d)) (omega arith))),
      size_nkq,
    )

-- a least common multiple is at most the product
pub lcm_to : (a b : ℕ) → 0 < a → 0 < b → lcm_of a b ≤ a * b
lcm_to a b some other =
    let product : 0 < a * b = omega (arith, mul-le-mul_left a other) in
    le_of_dvd product ((IsLcm-lcm_of a b some other).2 (a * b) (dvd-mul_right_of_dvd a (dvd_refl a) b) (dvd-mul_left_of_dvd b (dvd_refl b) a))

-- the least common multiple of two denominators, and what it is over each of them
pub lcm_size : (a b : ℕ) → 0 < a → a ≤ 1000 → 0 < b → b ≤ 1000
    → (lcm_of a b ≤ 1000000) × (lcm_of a b / a ≤ 1000) × (lcm_of a b / b ≤ 1000)
lcm_size a b some few other few' =
    let to : lcm_of a b ≤ a * b = lcm_to a b some other in
    let left : lcm_of a b / a ≤ b = div-le_of_le-mul a to in
    let right : lcm_of a b / b ≤ a = div-le_of_le-mul b (omega (arith, to)) in
    (omega (arith, to, mul-le-mul_left a few', mul-le-mul_right 1000 few), omega (arith, left), omega (arith, right))

-- the least common multiple of two numbers as they were passed
lcm_given : (a b : ℕ) → a ≤ 1000 → b ≤ 1000 → lcm_of (unsigned_abs (given (pos a))) (unsigned_abs (given (pos b))) ≡ lcm_of a b
lcm_given a b few few' =
    ap (λ z. lcm_of (unsigned_abs z) (unsigned_abs (given (pos b)))) (given_is (pos a) (omega (arith, few)))
    ∙ ap (λ z. lcm_of a (unsigned_abs z)) (given_is (pos b) (omega (arith, few')))

-- the least common multiple as the code finds it
pub common_found : (l r u : ℤ) (found : Option ℤ) → pos 1 ≤ℤ l → l ≤ℤ pos 1000 → pos 1 ≤ℤ r → r ≤ℤ pos 1000
    → found ≡ whole (pos (lcm_of (unsigned_abs (given l)) (unsigned_abs (given r)))) → u ≡ unwrap_or found (pos 0)
    → (given u ≡ pos (lcm_of (unsigned_abs l) (unsigned_abs r))) × (given u ≤ℤ pos 1000000)
common_found (pos a) (pos b) u found lf lt rf rt is taken =
    let few : a ≤ 1000 = omega (arith, ints) in
    let few' : b ≤ 1000 = omega (arith, ints) in
    let some : 0 < a = omega (arith, ints) in
    let some' : 0 < b = omega (arith, ints) in
    let size : lcm_of a b ≤ 1000000 = (lcm_size a b some few some' few').0 in
    let exact : found ≡ whole (pos (lcm_of a b)) = is ∙ ap (λ n. whole (pos n)) (lcm_given a b few few') in
    let kept : found ≡ Some (pos (lcm_of a b)) = exact ∙ whole_kept (pos (lcm_of a b)) (omega (arith, size)) in
    let value : u ≡ pos (lcm_of a b) = taken ∙ ap (λ o. unwrap_or o (pos 0)) kept in
    let passed : given u ≡ pos (lcm_of a b) = ap given value ∙ given_is (pos (lcm_of a b)) (omega (arith, size)) in
    (passed, rw passed (omega (arith, ints, size)))
common_found (negsuc a) r u found lf lt rf rt is taken = absurd (omega (arith, ints))
common_found (pos a) (negsuc b) u found lf lt rf rt is taken = absurd (omega (arith, ints))

-- the unit over a denominator as the code finds it
part_found : (l d : ℕ) → l ≤ 1000000 → 0 < d → d ≤ 1000 → l / d ≤ 1000
    → given (int_div (given (pos l)) (given (pos d))) ≡ pos (l / d)
part_found l d size some few small =
    ap (λ z. given (int_div z (given (pos d)))) (given_is (pos l) (omega (arith, size)))
    ∙ ap (λ z. given (int_div (pos l) z)) (given_is (pos d) (omega (arith, few)))
    ∙ given_is (pos (l / d)) (omega (arith, small))

-- the factors as the code forms them for two denominators, and that they are small
pub record FoundFactors (l a b : ℕ) (unit minus rate buffer : ℤ) : Type 0 where
  pub unit_is : unit ≡ pos l
  pub minus_is : minus ≡ neg_ℤ (pos l)
  pub rate_is : rate ≡ pos (l / a)
  pub buffer_is : buffer ≡ pos (l / b)
  pub unit_to : l ≤ 1000000
  pub rate_to : l / a ≤ 1000
  pub buffer_to : l / b ≤ 1000

pub factors_found : (x y u n : ℤ) → pos 1 ≤ℤ x → x ≤ℤ pos 1000 → pos 1 ≤ℤ y → y ≤ℤ pos 1000
    → u ≡ pos (lcm_of (unsigned_abs (given x)) (unsigned_abs (given y))) → n ≡ neg_ℤ (given u)
    → FoundFactors (lcm_of (unsigned_abs x) (unsigned_abs y)) (unsigned_abs x) (unsigned_abs y)
    (given u) (given n) (given (int_div (given u) (given x))) (given (int_div (given u) (given y)))
factors_found (pos a) (pos b) u n xf xt yf yt is turned =
    let few : a ≤ 1000 = omega (arith, ints) in
    let few' : b ≤ 1000 = omega (arith, ints) in
    let some : 0 < a = omega (arith, ints) in
    let some' : 0 < b = omega (arith, ints) in
    let sizes = lcm_size a b some few some' few' in
    let l : ℕ = lcm_of a b in
    let value : u ≡ pos l = is ∙ ap pos (lcm_given a b few few') in
    let small : l < 2 ^ 127 = omega (arith, sizes.0) in
    let unit : given u ≡ pos l = ap given value ∙ given_is (pos l) small in
    let opposite : n ≡ neg_ℤ (pos l) = turned ∙ ap neg_ℤ unit in
    let opposite_small : unsigned_abs (neg_ℤ (pos l)) < 2 ^ 127 = rw (unsigned_abs-neg_ℤ (pos l)) small in
    record {
      unit_is = unit;
      minus_is = ap given opposite ∙ given_is (neg_ℤ (pos l)) opposite_small;
      rate_is = ap (λ z. given (int_div (given z) (given (pos a)))) value ∙ part_found l a sizes.0 some few sizes.1;
      buffer_is = ap (λ z. given (int_div (given z) (given (pos b)))) value ∙ part_found l b sizes.0 some' few' sizes.2;
      unit_to = sizes.0;
      rate_to = sizes.1;
      buffer_to = sizes.2;
    }
factors_found (negsuc a) y u n xf xt yf yt is turned = absurd (omega (arith, ints))
factors_found (pos a) (negsuc b) u n xf xt yf yt is turned = absurd (omega (arith, ints))
