use Rattle.std.proofs.Common.{◌^◌, ◌*ℤ◌, FitsSigned, to_z-of_z, arith, lit<}
use Rattle.std.proofs.lemmas.Int.{fits_signed_mul}
use Rattle.std.specs.Int.{w128}
use Rattle.fraction.proofs.sized.product.Goals as goal

pub returns-then-unsigned_abs-lt-SHORT-2 : goal.returns-then-unsigned_abs-lt-SHORT-2
returns-then-unsigned_abs-lt-SHORT-2 c =
    let a : FitsSigned w128 c.args.a = c.ranges.a in
    let b : FitsSigned w128 c.args.b = c.ranges.b in
    let left = simp to_z-of_z at c.unsigned_abs.ensures.value in
    let right = simp to_z-of_z at c.unsigned_abs-then-unsigned_abs-lt-SHORT.ensures.value in
    let product : FitsSigned w128 (c.args.a *ℤ c.args.b) =
    fits_signed_mul w128 c.args.a c.args.b (2 ^ 63) (2 ^ 63) (omega arith) (omega arith) (lit< tt) in
    (product, simp to_z-of_z)
