-- The parts of a `MixedFrac` and the number that it means, whichever of its two forms it has.
use Rattle.std.specs.Prelude.{ℕ, ℤ, pos, ◌≤◌, ◌≤ℤ◌, unsigned_abs}
use Rattle.std.proofs.Common.{arith}
use Rattle.ordered_field.specs.Rational.{ℚ}
use Rattle.lowest_terms.specs.Coprime.{IsCoprime}
use Rattle.fraction.specs.Value.{rational}
use Rattle.fraction.specs.declared.mixed.Kept.{Kept}
use Rattle.fraction.specs.declared.mixed.Kept.TheVariants.{Short, Long}

-- the greatest size of a part
abbrev pub limit : ℕ
limit = 170141183460469231731687303715884105727

abbrev pub kept_num : Kept → ℤ
kept_num (Short s) = s.num
kept_num (Long l) = l.frac.num

abbrev pub kept_den : Kept → ℤ
kept_den (Short s) = s.den
kept_den (Long l) = l.frac.den

abbrev pub kept_positive : (k : Kept) → pos 1 ≤ℤ kept_den k
kept_positive (Short s) = s.positive
kept_positive (Long l) = l.frac.positive

abbrev pub kept_lowest : (k : Kept) → IsCoprime (unsigned_abs (kept_num k)) (unsigned_abs (kept_den k))
kept_lowest (Short s) = s.lowest
kept_lowest (Long l) = l.frac.lowest

abbrev pub kept_num_within : (k : Kept) → unsigned_abs (kept_num k) ≤ limit
kept_num_within (Short s) = omega (arith, s.num_short)
kept_num_within (Long l) = l.frac.num_within

abbrev pub kept_den_within : (k : Kept) → unsigned_abs (kept_den k) ≤ limit
kept_den_within (Short s) = omega (arith, s.den_short)
kept_den_within (Long l) = l.frac.den_within

-- the number that a form means
abbrev pub kept_value : Kept → ℚ
kept_value k = rational (kept_num k) (kept_den k) (kept_positive k)
