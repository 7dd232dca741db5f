use Rattle.lra_theory.proofs.TestLaws.{formulas_more}
use Rattle.lra_theory.proofs.tests.clauses.Goals as goal

pub loop-row-preserved : goal.loop-row-preserved
loop-row-preserved c =
    formulas_more 2 c.loop-row.formulas.items c.push.new.self.items c.in_ok-formula.field-0
    c.in_ok-push.ensures.items c.loop-row.invariant c.in_ok-formula.ensures
