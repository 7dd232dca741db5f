use Rattle.std.proofs.Common.{subst}
use Rattle.whole.specs.Budget.{counts}
use Rattle.clause_form.specs.declared.theory.Heard.{Heard}
use Rattle.clause_search.specs.Steps.{Asks, LeavesLess}
use Rattle.clause_search.proofs.step.after.Goals as goal

pub returns-in-Clash-clause-steps : goal.returns-in-Clash-clause-steps
returns-in-Clash-clause-steps g c s work asks less =
    c.conflict.ensures.steps s (subst (λ (h : Heard). Asks g.T.Theory.relations c.args.clauses.now s c.args.course.now (g.T.Theory.seen c.args.theory.now) (counts c.args.budget.now) h) c.in-Clash.is asks) work (subst (λ (h : Heard). LeavesLess work c.args.course.now (counts c.args.budget.now) h) c.in-Clash.is less)
