use Rattle.linear_form.proofs.DividedTerms.{changed_step}
use Rattle.clause_form.proofs.demands.each_signed.Goals as goal

pub loop-lit-preserved : goal.loop-lit-preserved
loop-lit-preserved c =
    changed_step _ c.deref_mut-lit-items.result.now c.loop-lit.lit-items c.loop-lit.lit-index _ c.signed.result c.loop-lit-test.true c.loop-lit.invariant c.signed.ensures
