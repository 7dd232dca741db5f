use Rattle.std.proofs.Common.{FitsSigned, to_z-of_z, unsigned_abs}
use Rattle.std.specs.Int.{w128}
use Rattle.whole.specs.Numbers.{IsWithin}
use Rattle.lra_theory.specs.Clashes.{part_of}
use Rattle.lra_theory.proofs.ListLaws.{all_last, map_more}
use Rattle.lra_theory.proofs.UnitLaws.{stuck_part}
use Rattle.lra_theory.proofs.clash.parts.Goals as goal

pub returns-in-Err-clause-stuck : goal.returns-in-Err-clause-stuck
returns-in-Err-clause-stuck c =
    let common : FitsSigned w128 c.args.common = c.ranges.common in
    stuck_part c.args.pieces.now c.loop-position.position _ _ c.in-Err.stuck c.loop-position-test.true (simp to_z-of_z at c.in-Err.ensures.stuck)

pub loop-position-preserved : goal.loop-position-preserved
loop-position-preserved c =
    let common : FitsSigned w128 c.args.common = c.ranges.common in
    simp to_z-of_z (record {
      parts = map_more (part_of (unsigned_abs c.args.common)) c.args.pieces.now c.loop-position.position _ c.loop-position.parts c.push.new.self c.in-Ok.part c.loop-position-test.true (simp to_z-of_z at c.loop-position.invariant.parts) c.in_ok-push-in-Ok.ensures.ok (simp to_z-of_z at c.in-Ok.ensures.exact);
      mults = all_last (λ p. IsWithin p.mult) c.loop-position.parts c.push.new.self c.in-Ok.part c.in_ok-push-in-Ok.ensures.ok c.loop-position.invariant.mults c.in-Ok.ensures.mult;
    })
