-- The rational numbers ℚ, with sum, product, opposite, and the fractions n / d among them.
-- A rational is a quotient of whole numbers up to equal cross products, so equality is `≡`.
use mathlib.Core.Quot.{Quot, mk, sound, ind, lift, Quot-set}
use Rattle.std.specs.Prelude.{◌≡◌, ℕ, zero, ◌+◌, ◌*◌, ◌<◌, ℤ}
use Rattle.std.proofs.Common.{ap, arith, lit<}
use Rattle.std.proofs.Math.Nat.{one-le-mul}
use borrow.Author.Differences.{up, down}

-- the quotient (up - down) / den
pub record Parts : Type 0 where
  pub up : ℕ
  pub down : ℕ
  pub den : ℕ
  pub some : zero < den

-- the cross products of two quotients are equal
abbrev pub Same : Parts → Parts → Type 0
Same a b = a.up * b.den + b.down * a.den ≡ b.up * a.den + a.down * b.den

-- the rational numbers
abbrev pub ℚ : Type 0
ℚ = Quot Same

-- the number that a quotient stands for
abbrev pub point : Parts → ℚ
point a = mk a

-- the whole number n over d
abbrev pub parts_of : (n : ℤ) (d : ℕ) → zero < d → Parts
parts_of n d some = record { up = up n; down = down n; den = d; some = some }

-- n / d
unfoldable pub fraction : (n : ℤ) (d : ℕ) → zero < d → ℚ
fraction n d some = point (parts_of n d some)

-- a whole number
unfoldable pub whole : ℤ → ℚ
whole n = fraction n 1 (lit< tt)

-- ---- functions of one or two rationals, by their quotients

pub product_some : (m n : ℕ) → zero < m → zero < n → zero < m * n
product_some m n p q = one-le-mul p q

unfoldable pub by_one : (f : Parts → Parts) → ((a b : Parts) → Same a b → Same (f a) (f b)) → ℚ → ℚ
by_one f keeps x = lift Quot-set (λ a. point (f a)) (λ a b e. sound (keeps a b e)) x

unfoldable pub by_two : (f : Parts → Parts → Parts) → ((a a' b : Parts) → Same a a' → Same (f a b) (f a' b)) → ((a b b' : Parts) → Same b b' → Same (f a b) (f a b')) → ℚ → ℚ → ℚ
unfolding by_one
by_two f first second x y = lift Quot-set (λ a. by_one (f a) (second a) y) (λ a a' e. ind {β = λ q. by_one (f a) (second a) q ≡ by_one (f a') (second a') q} (λ q. Quot-set _ _) (λ b. sound (first a a' b e)) y) x

-- ---- the sum

abbrev pub sum_parts : Parts → Parts → Parts
sum_parts a b = record {
  up = a.up * b.den + b.up * a.den;
  down = a.down * b.den + b.down * a.den;
  den = a.den * b.den;
  some = product_some a.den b.den a.some b.some;
}

pub sum_first : (a a' b : Parts) → Same a a' → Same (sum_parts a b) (sum_parts a' b)
sum_first a a' b e = omega (arith, ap (λ n. n * (b.den * b.den)) e)

pub sum_second : (a b b' : Parts) → Same b b' → Same (sum_parts a b) (sum_parts a b')
sum_second a b b' e = omega (arith, ap (λ n. n * (a.den * a.den)) e)

infixl 6 ◌+ℚ◌
unfoldable pub ◌+ℚ◌ : ℚ → ℚ → ℚ
x +ℚ y = by_two sum_parts sum_first sum_second x y

-- ---- the product

abbrev pub product_parts : Parts → Parts → Parts
product_parts a b = record {
  up = a.up * b.up + a.down * b.down;
  down = a.up * b.down + a.down * b.up;
  den = a.den * b.den;
  some = product_some a.den b.den a.some b.some;
}

pub product_first : (a a' b : Parts) → Same a a' → Same (product_parts a b) (product_parts a' b)
product_first a a' b e = omega (arith, ap (λ n. n * (b.up * b.den)) e, ap (λ n. n * (b.down * b.den)) e)

pub product_second : (a b b' : Parts) → Same b b' → Same (product_parts a b) (product_parts a b')
product_second a b b' e = omega (arith, ap (λ n. n * (a.up * a.den)) e, ap (λ n. n * (a.down * a.den)) e)

infixl 7 ◌*ℚ◌
unfoldable pub ◌*ℚ◌ : ℚ → ℚ → ℚ
x *ℚ y = by_two product_parts product_first product_second x y

-- ---- the opposite

abbrev pub opposite_parts : Parts → Parts
opposite_parts a = record a { up = a.down; down = a.up }

pub opposite_same : (a b : Parts) → Same a b → Same (opposite_parts a) (opposite_parts b)
opposite_same a b e = omega arith

unfoldable pub neg_ℚ : ℚ → ℚ
neg_ℚ x = by_one opposite_parts opposite_same x
