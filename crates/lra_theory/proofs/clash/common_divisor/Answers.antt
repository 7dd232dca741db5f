use Rattle.std.proofs.Common.{FitsSigned, rules, to_z-of_z}
use Rattle.std.specs.Int.{w128}
use Rattle.lra_theory.proofs.UnitLaws.{gcd_some}
use Rattle.lra_theory.proofs.clash.common_divisor.Goals as goal

pub returns-clause-some : goal.returns-clause-some
returns-clause-some c =
    let left : FitsSigned w128 c.args.left = c.ranges.left in
    let right : FitsSigned w128 c.args.right = c.ranges.right in
    let found : FitsSigned w128 c.gcd.result = search rules in
    simp to_z-of_z (gcd_some c.args.left c.args.right c.gcd.result (simp to_z-of_z at c.gcd.ensures.exact) c.requires.left_some)
