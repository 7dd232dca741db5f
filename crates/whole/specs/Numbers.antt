-- Numbers that stay within 128 signed bits, and the exact results that the calls of `numbers` give.
use Rattle.std.specs.Prelude.{ℕ, zero, suc, ◌*◌, ◌/◌, ◌%◌, ◌^◌, ◌<◌, Bool, ℤ, ◌+ℤ◌, ◌*ℤ◌, unsigned_abs, nat_le, Option, None, Some, if◌then◌else◌}
use Rattle.std.specs.Int.{◌∣◌}

-- the size of z is at most 2^127 - 1, so z is an `i128` other than `i128::MIN`
abbrev pub IsWithin : ℤ → Type 0
IsWithin z = unsigned_abs z < 2 ^ 127

-- the size of z exceeds 2^127 - 1
abbrev pub overflows : ℤ → Bool
overflows z = nat_le (2 ^ 127) (unsigned_abs z)

-- z where it doesn't pass
abbrev pub whole : ℤ → Option ℤ
whole z = if overflows z then None else Some z

-- acc + k * y where neither the product nor the sum overflows
abbrev pub fma : ℤ → ℤ → ℤ → Option ℤ
fma acc k y = if overflows (k *ℤ y) then None else whole (acc +ℤ k *ℤ y)

-- Euclid's remainders from a and b on, for as many steps as the first number says
abbrev pub gcd_steps : ℕ → ℕ → ℕ → ℕ
gcd_steps zero a b = a
gcd_steps (suc steps) a zero = a
gcd_steps (suc steps) a (suc b) = gcd_steps steps (suc b) (a % suc b)

-- the greatest common divisor: b steps are enough, since each remainder is less than the one before
unfoldable pub gcd_of : ℕ → ℕ → ℕ
gcd_of a b = gcd_steps b a b

-- l is a multiple of a and of b, and divides each multiple of both
abbrev pub IsLcm : ℕ → ℕ → ℕ → Type 0
IsLcm a b l = (a ∣ l) × (b ∣ l) × ((m : ℕ) → a ∣ m → b ∣ m → l ∣ m)

-- the least common multiple of two numbers above 0
unfoldable pub lcm_of : ℕ → ℕ → ℕ
lcm_of a b = a / gcd_of a b * b
