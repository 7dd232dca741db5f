use Rattle.std.proofs.Common.{sym, ◌∙◌, ap, subst}
use Rattle.whole.specs.Budget.{counts}
use Rattle.clause_form.specs.Journals.{literals}
use Rattle.clause_search.specs.declared.guide.Advice.{Advice}
use Rattle.clause_search.specs.Advices.{IfStop}
use Rattle.clause_search.proofs.AnswerLaws.{calm_of, paused}
use Rattle.clause_search.proofs.step.consult.Goals as goal

pub advise-advice-requires : goal.advise-advice-requires
advise-advice-requires g c =
    let old = c.requires.deciding.1.0.0.underway in record {
      formed = old.formed;
      rows = old.rows;
      calm = calm_of g.T.Theory.relations c.args.clauses.now c.requires.deciding.0 c.args.course.now (g.T.Theory.seen c.args.theory.now) (counts c.args.budget.now) (paused g.T.Theory.relations c.args.clauses.now c.requires.deciding.0 c.args.course.now (g.T.Theory.seen c.args.theory.now) (counts c.args.budget.now) c.args.wish c.requires.deciding.1);
      told = old.told ∙ ap literals (sym c.as_slice-2.ensures);
    }

pub returns-then-may_stop-clause-turns : goal.returns-then-may_stop-clause-turns
returns-then-may_stop-clause-turns g c s deciding = (
  paused g.T.Theory.relations c.args.clauses.now s c.args.course.now (g.T.Theory.seen c.args.theory.now) (counts c.args.budget.now) c.args.wish deciding,
  (c.if-may_stop.true, subst (λ (a : Advice). IfStop (g.G.Guide.stops c.args.clauses.now c.advise-advice.new.self c.args.theory.now) a) c.in-Stop.is c.advise-advice.ensures),
)
