use Rattle.std.proofs.Common.{rules, FitsSigned, to_z-of_z, arith}
use Rattle.std.specs.Int.{w128}
use Rattle.fraction.proofs.frac.FracOrderedField.mul.Goals as goal

pub reduce-right-requires-clause-within : goal.reduce-right-requires-clause-within
reduce-right-requires-clause-within g c =
    let num : FitsSigned w128 c.args.other.num = search rules in
    simp to_z-of_z (omega (arith, c.args.other.num_within, g.L.Limit.fits))

pub mul_cancelled-requires-clause-left : goal.mul_cancelled-requires-clause-left
mul_cancelled-requires-clause-left g c =
    let n : FitsSigned w128 c.args.self.num = search rules in
    let d : FitsSigned w128 c.args.other.den = search rules in
    record {
      common = c.reduce-left.ensures.common;
      num = simp to_z-of_z at c.reduce-left.ensures.num;
      den = simp to_z-of_z at c.reduce-left.ensures.den;
      positive = c.reduce-left.ensures.positive;
      lowest = c.reduce-left.ensures.lowest;
    }

pub mul_cancelled-requires-clause-right : goal.mul_cancelled-requires-clause-right
mul_cancelled-requires-clause-right g c =
    let n : FitsSigned w128 c.args.other.num = search rules in
    let d : FitsSigned w128 c.args.self.den = search rules in
    record {
      common = c.reduce-right.ensures.common;
      num = simp to_z-of_z at c.reduce-right.ensures.num;
      den = simp to_z-of_z at c.reduce-right.ensures.den;
      positive = c.reduce-right.ensures.positive;
      lowest = c.reduce-right.ensures.lowest;
    }
