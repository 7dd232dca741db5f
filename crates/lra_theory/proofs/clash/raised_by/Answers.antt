use Rattle.std.proofs.Common.{FitsSigned, to_z-of_z}
use Rattle.std.specs.Int.{w128}
use Rattle.std.proofs.lemmas.Int.{fits_signed_from_abs}
use Rattle.lra_theory.proofs.UnitLaws.{lcm_found, stuck_lcm}
use Rattle.lra_theory.proofs.clash.raised_by.Goals as goal

pub returns-in-Some-clause-some : goal.returns-in-Some-clause-some
returns-in-Some-clause-some c =
    let least : FitsSigned w128 c.args.least = c.ranges.least in
    let unit : FitsSigned w128 c.args.unit = c.ranges.unit in
    let found = lcm_found c.args.least c.args.unit c.in-Some.multiple (simp to_z-of_z at c.in-Some.ensures.exact) c.requires.some c.requires.unit_some in
    let multiple : FitsSigned w128 c.in-Some.multiple = fits_signed_from_abs w128 c.in-Some.multiple found.1 in
    simp to_z-of_z found.2

pub returns-in-None-clause-stuck : goal.returns-in-None-clause-stuck
returns-in-None-clause-stuck c =
    let least : FitsSigned w128 c.args.least = c.ranges.least in
    let unit : FitsSigned w128 c.args.unit = c.ranges.unit in
    let divisor : FitsSigned w128 c.common_divisor.result = fits_signed_from_abs w128 c.common_divisor.result c.common_divisor.ensures.within in
    let quotient : FitsSigned w128 c.quotient.result = fits_signed_from_abs w128 c.quotient.result c.quotient.ensures.within in
    stuck_lcm c.args.piece c.args.position c.args.least c.args.unit c.quotient.result c.common_divisor.result c.overflowing.result (simp to_z-of_z at c.overflowing.ensures) (simp to_z-of_z at c.quotient.ensures.exact) (simp to_z-of_z at c.common_divisor.ensures.exact) c.requires.unit_some (simp to_z-of_z at c.in-None.ensures.exact)
