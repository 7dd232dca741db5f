use Rattle.lra_theory.proofs.SumLaws.{part-step, part-stuck}
use Rattle.lra_theory.proofs.sums.sums_fit.Goals as goal

pub returns-in-Err-clause-stuck : goal.returns-in-Err-clause-stuck
returns-in-Err-clause-stuck c =
    part-stuck c.args.rows.now c.args.parts.now c.loop-position.position _ c.loop-position-test.true c.loop-position.sums c.loop-position.invariant c.in-Err.stuck c.in-Err.ensures.stuck

pub loop-position-preserved : goal.loop-position-preserved
loop-position-preserved c =
    part-step c.args.rows.now c.args.parts.now c.loop-position.position _ c.loop-position-test.true c.loop-position.sums c.loop-position.invariant c.add_part.new.sums c.in-Ok.ensures.added c.in-Ok.ensures.columns c.in-Ok.ensures.within
