use Rattle.std.proofs.Common.{FitsSigned, ℤ, to_z, to_z-of_z, unsigned_abs, ap}
use Rattle.std.specs.Int.{w128}
use Rattle.std.proofs.lemmas.Int.{fits_signed_from_abs}
use Rattle.lra_theory.specs.Clashes.{HasSmallUnit}
use Rattle.lra_theory.proofs.ListLaws.{all_more}
use Rattle.lra_theory.proofs.UnitLaws.{common_more, stuck_common}
use Rattle.lra_theory.proofs.clash.common.Goals as goal

pub returns-in-Err-clause-stuck : goal.returns-in-Err-clause-stuck
returns-in-Err-clause-stuck c =
    let least : ℤ = to_z w128 c.loop-position.least-bits in
    stuck_common c.args.pieces.now c.loop-position.position _ (unsigned_abs least) c.in-Err.stuck c.loop-position-test.true (ap unsigned_abs c.loop-position.invariant.exact) c.in-Err.ensures.stuck

pub loop-position-preserved : goal.loop-position-preserved
loop-position-preserved c =
    let least : ℤ = to_z w128 c.loop-position.least-bits in
    let next : FitsSigned w128 c.in-Ok.next = fits_signed_from_abs w128 c.in-Ok.next c.in-Ok.ensures.within in
    simp to_z-of_z (record {
      exact = common_more c.args.pieces.now c.loop-position.position _ least c.in-Ok.next c.loop-position-test.true c.loop-position.invariant.exact c.in-Ok.ensures.exact;
      within = c.in-Ok.ensures.within;
      some = c.in-Ok.ensures.some;
      units = all_more HasSmallUnit c.args.pieces.now c.loop-position.position _ c.loop-position-test.true c.loop-position.invariant.units c.in-Ok.ensures.unit;
    })
