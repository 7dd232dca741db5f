use Rattle.std.proofs.Common.{FitsSigned, to_z-of_z, arith}
use Rattle.std.specs.Int.{w128}
use Rattle.fraction.proofs.Widths.{narrow, same_coprime}
use Rattle.fraction.proofs.short.ShortFrac.from_parts.Goals as goal

pub invariant_of-result-clause-lowest : goal.invariant_of-result-clause-lowest
invariant_of-result-clause-lowest c =
    let num : FitsSigned w128 c.args.num = c.ranges.num in
    let den : FitsSigned w128 c.args.den = c.ranges.den in
    let num_size = simp to_z-of_z at c.unsigned_abs.ensures.value in
    let den_size = simp to_z-of_z at c.unsigned_abs-then-unsigned_abs-lt-SHORT.ensures.value in
    same_coprime _ _ c.args.num c.args.den (narrow c.args.num num (omega arith)) (narrow c.args.den den (omega arith)) c.requires.lowest
