-- A fraction in lowest terms, beside the fraction that it was.
use Rattle.std.specs.Prelude.{◌≡◌, ℤ, pos, ◌*ℤ◌, ◌≤ℤ◌, unsigned_abs}
use Rattle.lowest_terms.specs.Coprime.{IsCoprime}
use Rattle.lowest_terms.specs.declared.Reduced.{Reduced}

-- r is n / d in lowest terms, with the divisor that was taken out of both
pub record IsReduction (r : Reduced) (n d : ℤ) : Type 0 where
  pub common : pos 1 ≤ℤ r.common
  pub num : r.num *ℤ r.common ≡ n
  pub den : r.den *ℤ r.common ≡ d
  pub positive : pos 1 ≤ℤ r.den
  pub lowest : IsCoprime (unsigned_abs r.num) (unsigned_abs r.den)
