-- The greatest common divisor of two short numbers is short
use Rattle.std.proofs.Common.{◌≡◌, ℕ, ◌≤◌, ◌<◌, ◌^◌, ℤ, pos, negsuc, ◌≤ℤ◌, unsigned_abs, FitsSigned, subst, subst₂, sym, arith, w64}
use Rattle.std.specs.Int.{IsGcd}
use Rattle.std.proofs.lemmas.Int.{ints}
use Rattle.std.proofs.lemmas.Nat.Gcd.{le_of_dvd}
use Rattle.std.proofs.Math.Nat.{pos_of_dvd_of_pos}
use Rattle.whole.specs.Numbers.{gcd_of}
use Rattle.whole.proofs.Divisors.{IsGcd-gcd_of}
use Rattle.lowest_terms.proofs.Reduction.{size_some}

pub record IsDivisor (num den : ℤ) (r : ℕ) : Type 0 where
  pub greatest : IsGcd (unsigned_abs num) (unsigned_abs den) r
  pub some : 0 < r
  pub small : r < 2 ^ 63

size_small : (den : ℤ) → pos 1 ≤ℤ den → FitsSigned w64 den → unsigned_abs den < 2 ^ 63
size_small (pos d) some fits = omega (arith, fits.sfits)
size_small (negsuc d) some fits = absurd (omega (arith, ints))

pub divisor_is : (num den : ℤ) (a b r : ℕ) → a ≡ unsigned_abs num → b ≡ unsigned_abs den → pos 1 ≤ℤ den → FitsSigned w64 den → r ≡ gcd_of a b → IsDivisor num den r
divisor_is num den a b r a_is b_is some fits e =
    let greatest : IsGcd (unsigned_abs num) (unsigned_abs den) r = subst₂ (λ m n. IsGcd m n r) a_is b_is (subst (IsGcd a b) (sym e) (IsGcd-gcd_of a b)) in
    let positive : 0 < unsigned_abs den = size_some den some in
    let at_most : r ≤ unsigned_abs den = le_of_dvd positive greatest.1 in
    let size : unsigned_abs den < 2 ^ 63 = size_small den some fits in
    record { greatest = greatest; some = pos_of_dvd_of_pos greatest.1 positive; small = omega arith }
