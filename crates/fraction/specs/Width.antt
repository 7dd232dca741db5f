-- Which fractions are kept in 64 bits, and which results take no division.
use Rattle.std.specs.Prelude.{◌≡◌, ℤ, pos, ◌<◌, ◌^◌, unsigned_abs}

-- both parts, and their opposites, fit 64 bits
abbrev pub IsShort : ℤ → ℤ → Type 0
IsShort num den = (unsigned_abs num < 2 ^ 63) × (unsigned_abs den < 2 ^ 63)

-- the denominators of two whole numbers and of a whole result
abbrev pub WholeResult : ℤ → ℤ → ℤ → Type 0
WholeResult left right result = (left ≡ pos 1) × (right ≡ pos 1) × (result ≡ pos 1)
