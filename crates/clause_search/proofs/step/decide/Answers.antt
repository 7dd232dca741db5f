use Rattle.std.proofs.Common.{None}
use Rattle.whole.specs.Budget.{counts}
use Rattle.clause_search.specs.Courses.{work_left}
use Rattle.clause_search.proofs.AnswerLaws.{complete, may_decide, wish_free}
use Rattle.clause_search.proofs.CourseLaws.{may_be_told}
use Rattle.clause_search.proofs.step.decide.Goals as goal

pub choose-requires-clause-wish : goal.choose-requires-clause-wish
choose-requires-clause-wish g c = wish_free g.T.Theory.relations c.args.clauses.now c.requires.deciding.0 c.args.course.now (g.T.Theory.seen c.args.theory.now) (counts c.args.budget.now) c.args.wish c.requires.deciding.1

pub assume-heard-requires : goal.assume-heard-requires
assume-heard-requires g c =
    may_be_told g.T.Theory.relations c.args.clauses.now c.requires.deciding.0 c.args.course.now.trail c.args.course.now.lemmas c.args.course.now.journal.moves (g.T.Theory.seen c.args.theory.now) (counts c.args.budget.now) c.in-Some.lit None c.args.budget.now.within (may_decide g.T.Theory.relations c.args.clauses.now c.requires.deciding.0 c.args.course.now (g.T.Theory.seen c.args.theory.now) (counts c.args.budget.now) c.args.wish c.in-Some.lit c.requires.deciding.1 c.in-Some.ensures)

pub after-requires : goal.after-requires
after-requires g c = record {
  covering = c.assume-heard.ensures.covering c.args.clauses.now c.requires.covering;
  asks = (c.requires.deciding.0, c.assume-heard.ensures.asks c.args.clauses.now c.requires.deciding.0 (may_decide g.T.Theory.relations c.args.clauses.now c.requires.deciding.0 c.args.course.now (g.T.Theory.seen c.args.theory.now) (counts c.args.budget.now) c.args.wish c.in-Some.lit c.requires.deciding.1 c.in-Some.ensures));
}

pub returns-in-Some-clause-steps : goal.returns-in-Some-clause-steps
returns-in-Some-clause-steps g c s deciding =
    c.after.ensures.steps s (work_left c.args.course.now (counts c.args.budget.now)) (c.assume-heard.ensures.asks c.args.clauses.now s (may_decide g.T.Theory.relations c.args.clauses.now s c.args.course.now (g.T.Theory.seen c.args.theory.now) (counts c.args.budget.now) c.args.wish c.in-Some.lit deciding c.in-Some.ensures)) c.assume-heard.ensures.less

pub returns-in-None-clause-steps : goal.returns-in-None-clause-steps
returns-in-None-clause-steps g c s deciding = complete g.T.Theory.relations c.args.clauses.now s c.args.course.now (g.T.Theory.seen c.args.theory.now) (counts c.args.budget.now) c.args.wish deciding c.in-None.ensures
