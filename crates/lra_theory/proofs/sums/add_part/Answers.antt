use Rattle.std.proofs.Common.{FitsSigned, sym, to_z-of_z}
use Rattle.std.specs.Int.{w128}
use Rattle.std.proofs.lemmas.Int.{fits_signed_from_abs}
use Rattle.lra_theory.proofs.SumLaws.{part-stuck_row}
use Rattle.lra_theory.proofs.sums.add_part.Goals as goal

pub returns-in-Some-clause-stuck : goal.returns-in-Some-clause-stuck
returns-in-Some-clause-stuck c =
    let mult : FitsSigned w128 c.args.part.mult = fits_signed_from_abs w128 c.args.part.mult c.requires.mult in
    part-stuck_row c.args.rows.now c.args.part c.in-Some.bound c.args.position c.args.sums.now c.add_row.result (sym c.in-Some.ensures.bound) (simp to_z-of_z at c.add_row.ensures.stuck)
