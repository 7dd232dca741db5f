use Rattle.linear_form.proofs.DividedTerms.{changed_step}
use Rattle.linear_form.proofs.normalising.divided.Goals as goal

pub loop-term-preserved : goal.loop-term-preserved
loop-term-preserved c =
    changed_step _ c.deref_mut-term-items.result.now c.loop-term.term-items c.loop-term.term-index _ c.quotient.result c.loop-term-test.true c.loop-term.invariant c.quotient.ensures
