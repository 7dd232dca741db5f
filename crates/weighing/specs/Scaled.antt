-- Coefficients that are fractions, made whole by a scale that their denominators divide.
use Rattle.std.specs.Prelude.{ℕ, ◌/◌, ◌≤◌, ℤ, pos, neg_ℤ, ◌*ℤ◌, ◌≤ℤ◌, unsigned_abs}
use Rattle.whole.specs.Numbers.{lcm_of}
use Rattle.weighing.specs.declared.scales.Num.{Num}
use Rattle.weighing.specs.declared.scales.Side.{Side}
use Rattle.weighing.specs.declared.scales.Side.TheVariants.{Left, Right}

-- the sizes that a written number has
pub record IsNum (n : Num) : Type 0 where
  pub num_to : unsigned_abs n.num ≤ 1000000
  pub den_from : pos 1 ≤ℤ n.den
  pub den_to : n.den ≤ℤ pos 1000

abbrev pub den_of : Num → ℕ
den_of n = unsigned_abs n.den

-- the least common multiple of a scale and a number's denominator
abbrev pub common : ℕ → Num → ℕ
common scale n = lcm_of scale (den_of n)

-- a term's number with the sign that its side gives it
abbrev pub signed : Side → ℤ → ℤ
signed Left z = z
signed Right z = neg_ℤ z

-- a number times a scale
abbrev pub scaled : Side → ℕ → Num → ℤ
scaled side scale n = signed side (n.num *ℤ pos (scale / den_of n))
