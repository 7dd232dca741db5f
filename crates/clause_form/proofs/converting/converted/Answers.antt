use Rattle.clause_form.proofs.FormulaLaws.{next_is_small}
use Rattle.clause_form.proofs.converting.converted.Goals as goal

pub simplified-requires : goal.simplified-requires
simplified-requires c =
    next_is_small c.args.columns c.deref-formula-items.result.now c.loop-formula.formula-index c.formula-item.result c.formula-item.is c.loop-formula-test.true c.loop-formula.invariant.small
