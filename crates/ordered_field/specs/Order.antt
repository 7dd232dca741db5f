-- The order of the rational numbers: that of the cross products.
use mathlib.Core.Quot.{ind, lift}
use Rattle.std.specs.Prelude.{◌≡◌, ◌+◌, ◌*◌, ◌≤◌, Bool, true, false, nat_le}
use Rattle.std.proofs.Common.{ap, arith}
use Rattle.std.proofs.Math.Nat.{mul-le-mul_left, le_of_mul-le-mul_left}
use Rattle.std.proofs.Math.Bool.{Bool-set}
use Rattle.std.proofs.lemmas.Bool.{leb-true, le-leb}
use Rattle.std.specs.Cmp.{both_ways}
use Rattle.ordered_field.specs.Rational.{Parts, Same, ℚ}

-- the first quotient is at most the second, by their cross products
abbrev pub AtMost : Parts → Parts → Type 0
AtMost a b = a.up * b.den + b.down * a.den ≤ b.up * a.den + a.down * b.den

abbrev pub at_most_parts : Parts → Parts → Bool
at_most_parts a b = nat_le (a.up * b.den + b.down * a.den) (b.up * a.den + a.down * b.den)

pub AtMost-first : (a a' b : Parts) → Same a a' → AtMost a b → AtMost a' b
AtMost-first a a' b e h = le_of_mul-le-mul_left {k = a.den} (omega (arith, ap (λ n. b.den * n) e, mul-le-mul_left a'.den h)) a.some

pub AtMost-second : (a b b' : Parts) → Same b b' → AtMost a b → AtMost a b'
AtMost-second a b b' e h = le_of_mul-le-mul_left {k = b.den} (omega (arith, ap (λ n. a.den * n) e, mul-le-mul_left b'.den h)) b.some

pub at_most-first : (a a' b : Parts) → Same a a' → at_most_parts a b ≡ at_most_parts a' b
at_most-first a a' b e = both_ways _ _ (λ h. le-leb _ _ (AtMost-first a a' b e (leb-true _ _ h))) (λ h. le-leb _ _ (AtMost-first a' a b (omega arith) (leb-true _ _ h)))

pub at_most-second : (a b b' : Parts) → Same b b' → at_most_parts a b ≡ at_most_parts a b'
at_most-second a b b' e = both_ways _ _ (λ h. le-leb _ _ (AtMost-second a b b' e (leb-true _ _ h))) (λ h. le-leb _ _ (AtMost-second a b' b (omega arith) (leb-true _ _ h)))

-- the test of x ≤ y against one quotient
unfoldable pub at_least_parts : Parts → ℚ → Bool
at_least_parts a y = lift Bool-set (at_most_parts a) (at_most-second a) y

-- the test of x ≤ y
unfoldable pub at_most : ℚ → ℚ → Bool
unfolding at_least_parts
at_most x y = lift Bool-set (λ a. at_least_parts a y) (λ a a' e. ind {β = λ q. at_least_parts a q ≡ at_least_parts a' q} (λ q. Bool-set _ _) (λ b. at_most-first a a' b e) y) x

infix 4 ◌≤ℚ◌
abbrev pub ◌≤ℚ◌ : ℚ → ℚ → Type 0
x ≤ℚ y = at_most x y ≡ true

infix 4 ◌<ℚ◌
abbrev pub ◌<ℚ◌ : ℚ → ℚ → Type 0
x <ℚ y = at_most y x ≡ false
