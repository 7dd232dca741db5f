use Rattle.std.proofs.Common.{FitsSigned, ap, to_z-of_z}
use Rattle.std.specs.Int.{w128}
use Rattle.std.proofs.lemmas.Int.{fits_signed_from_abs}
use Rattle.lra_theory.proofs.SumLaws.{row-added, row-stuck_bound, row-stuck_column, small_within}
use Rattle.lra_theory.proofs.sums.add_row.Goals as goal

pub returns-in-Ok-clause-added : goal.returns-in-Ok-clause-added
returns-in-Ok-clause-added c =
    let mult : FitsSigned w128 c.args.mult = c.ranges.mult in
    let num : FitsSigned w128 c.args.bound.num = fits_signed_from_abs w128 c.args.bound.num (small_within c.args.bound.num c.requires.of_rows.num) in
    let den : FitsSigned w128 c.args.bound.den = fits_signed_from_abs w128 c.args.bound.den (small_within c.args.bound.den c.requires.of_rows.den) in
    let factor : FitsSigned w128 c.signed-factor.result = fits_signed_from_abs w128 c.signed-factor.result (small_within c.signed-factor.result c.signed-factor.ensures.small) in
    let number : FitsSigned w128 c.signed.result = fits_signed_from_abs w128 c.signed.result (small_within c.signed.result c.signed.ensures.small) in
    row-added c.args.rows.now c.args.bound c.args.mult c.signed-factor.result c.signed.result c.args.sums.now c.add_number.new.sums c.add_form.new.sums.items c.add_number.result (simp to_z-of_z at c.signed-factor.ensures.exact) (simp to_z-of_z at c.signed.ensures.exact) (simp to_z-of_z at c.in-Ok.ensures.sums) (ap (λ v. v.items) c.add_number.ensures.columns) (simp to_z-of_z at c.add_number.ensures.exact)

pub returns-in-Ok-clause-stuck : goal.returns-in-Ok-clause-stuck
returns-in-Ok-clause-stuck c =
    let mult : FitsSigned w128 c.args.mult = c.ranges.mult in
    let num : FitsSigned w128 c.args.bound.num = fits_signed_from_abs w128 c.args.bound.num (small_within c.args.bound.num c.requires.of_rows.num) in
    let den : FitsSigned w128 c.args.bound.den = fits_signed_from_abs w128 c.args.bound.den (small_within c.args.bound.den c.requires.of_rows.den) in
    let factor : FitsSigned w128 c.signed-factor.result = fits_signed_from_abs w128 c.signed-factor.result (small_within c.signed-factor.result c.signed-factor.ensures.small) in
    let number : FitsSigned w128 c.signed.result = fits_signed_from_abs w128 c.signed.result (small_within c.signed.result c.signed.ensures.small) in
    row-stuck_bound c.args.rows.now c.args.bound c.args.mult c.signed.result c.columns.result c.args.position c.args.sums.now c.add_number.result (simp to_z-of_z at c.signed.ensures.exact) c.columns.ensures (simp to_z-of_z at c.add_number.ensures.stuck)

pub returns-in-Err-clause-stuck : goal.returns-in-Err-clause-stuck
returns-in-Err-clause-stuck c =
    let mult : FitsSigned w128 c.args.mult = c.ranges.mult in
    let num : FitsSigned w128 c.args.bound.num = fits_signed_from_abs w128 c.args.bound.num (small_within c.args.bound.num c.requires.of_rows.num) in
    let den : FitsSigned w128 c.args.bound.den = fits_signed_from_abs w128 c.args.bound.den (small_within c.args.bound.den c.requires.of_rows.den) in
    let factor : FitsSigned w128 c.signed-factor.result = fits_signed_from_abs w128 c.signed-factor.result (small_within c.signed-factor.result c.signed-factor.ensures.small) in
    row-stuck_column c.args.rows.now c.args.bound c.args.mult c.signed-factor.result c.args.position c.args.sums.now c.in-Err.stuck (simp to_z-of_z at c.signed-factor.ensures.exact) c.requires.columns (simp to_z-of_z at c.in-Err.ensures.stuck)
