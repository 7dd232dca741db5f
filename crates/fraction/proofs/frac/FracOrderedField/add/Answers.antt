use Rattle.std.proofs.Common.{rules, FitsSigned, to_z-of_z}
use Rattle.std.specs.Int.{w128}
use Rattle.fraction.proofs.frac.FracOrderedField.add.Goals as goal

pub add_over-requires : goal.add_over-requires
add_over-requires g c =
    let b : FitsSigned w128 c.args.self.den = search rules in
    let d : FitsSigned w128 c.args.other.den = search rules in
    record {
      common = c.denominators.ensures.common;
      num = simp to_z-of_z at c.denominators.ensures.num;
      den = simp to_z-of_z at c.denominators.ensures.den;
      positive = c.denominators.ensures.second;
      lowest = c.denominators.ensures.lowest;
    }
