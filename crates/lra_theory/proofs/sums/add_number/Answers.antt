use Rattle.std.proofs.Common.{FitsSigned, to_z-of_z}
use Rattle.std.specs.Int.{w128}
use Rattle.std.proofs.lemmas.Int.{fits_signed_from_abs}
use Rattle.lra_theory.proofs.sums.add_number.Goals as goal

pub returns-in-Err-clause-stuck : goal.returns-in-Err-clause-stuck
returns-in-Err-clause-stuck c =
    let mult : FitsSigned w128 c.args.mult = c.ranges.mult in
    let number : FitsSigned w128 c.args.number = c.ranges.number in
    let sum : FitsSigned w128 c.args.sums.now.bound = fits_signed_from_abs w128 c.args.sums.now.bound c.requires.sum in
    simp to_z-of_z at c.in-Err.ensures.stuck
