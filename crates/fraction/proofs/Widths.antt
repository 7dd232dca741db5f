-- A short number has one value in 64 and in 128 bits.
use Rattle.std.proofs.Common.{◌≡◌, ℤ, pos, negsuc, ◌*ℤ◌, ◌^◌, ◌<◌, unsigned_abs, FitsSigned, to_z, of_z, to_z-of_z, subst₂, sym, arith, lit<}
use Rattle.std.specs.Int.{w128, w64}
use Rattle.std.proofs.lemmas.Int.{fits_signed_from_abs, fits_signed_mul}
use Rattle.lowest_terms.specs.Coprime.{IsCoprime}

pub narrow : (z : ℤ) → FitsSigned w128 z → unsigned_abs z < 2 ^ 63 → to_z w64 (of_z w64 (to_z w128 (of_z w128 z))) ≡ z
narrow z wide small = let short : FitsSigned w64 z = fits_signed_from_abs w64 z small in simp to_z-of_z

pub widen_fitting : (z r : ℤ) → FitsSigned w64 z → r ≡ to_z w64 (of_z w64 z) → to_z w128 (of_z w128 r) ≡ z
widen_fitting z r short e =
    let wide : FitsSigned w128 z = record { sfits = omega (arith, short.sfits) } in rw e (simp to_z-of_z)

pub widen : (z r : ℤ) → unsigned_abs z < 2 ^ 63 → r ≡ to_z w64 (of_z w64 z) → to_z w128 (of_z w128 r) ≡ z
widen z r small e = widen_fitting z r (fits_signed_from_abs w64 z small) e

-- the product of two short numbers, formed in 128 bits
pub widened_product : (x y r s : ℤ) → unsigned_abs x < 2 ^ 63 → unsigned_abs y < 2 ^ 63 → r ≡ to_z w64 (of_z w64 x) → s ≡ to_z w64 (of_z w64 y) → to_z w128 (of_z w128 (to_z w128 (of_z w128 r) *ℤ to_z w128 (of_z w128 s))) ≡ x *ℤ y
widened_product x y r s left right e f =
    let product : FitsSigned w128 (x *ℤ y) = fits_signed_mul w128 x y (2 ^ 63) (2 ^ 63) (omega arith) (omega arith) (lit< tt) in
    rw (widen x r left e, widen y s right f) (to_z-of_z product)

-- every number of 64 bits but the least has its opposite there
pub short_unless_least : (n : ℤ) → FitsSigned w64 n → (of_z w64 n ≡ 9223372036854775808 → ⊥) → unsigned_abs n < 2 ^ 63
short_unless_least (pos n) fits least = omega (arith, fits.sfits)
short_unless_least (negsuc n) fits least = omega (arith, fits.sfits, least)

pub same_coprime : (m b n d : ℤ) → m ≡ n → b ≡ d → IsCoprime (unsigned_abs n) (unsigned_abs d) → IsCoprime (unsigned_abs m) (unsigned_abs b)
same_coprime m b n d nums dens lowest =
    subst₂ (λ n d. IsCoprime (unsigned_abs n) (unsigned_abs d)) (sym nums) (sym dens) lowest
