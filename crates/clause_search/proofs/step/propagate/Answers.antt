use Rattle.std.proofs.Common.{Some}
use Rattle.whole.specs.Budget.{counts}
use Rattle.clause_search.specs.Courses.{work_left}
use Rattle.clause_search.proofs.AnswerLaws.{may_propagate}
use Rattle.clause_search.proofs.CourseLaws.{may_be_told}
use Rattle.clause_search.proofs.step.propagate.Goals as goal

pub assume-heard-requires : goal.assume-heard-requires
assume-heard-requires g c =
    may_be_told g.T.Theory.relations c.args.clauses.now c.requires.propagating.0 c.args.course.now.trail c.args.course.now.lemmas c.args.course.now.journal.moves (g.T.Theory.seen c.args.theory.now) (counts c.args.budget.now) c.args.reason.lit (Some c.args.reason.by) c.args.budget.now.within (may_propagate g.T.Theory.relations c.args.clauses.now c.requires.propagating.0 c.args.course.now (g.T.Theory.seen c.args.theory.now) (counts c.args.budget.now) c.args.reason.lit c.args.reason.by c.requires.propagating.1)

pub after-requires : goal.after-requires
after-requires g c = record {
  covering = c.assume-heard.ensures.covering c.args.clauses.now c.requires.covering;
  asks = (c.requires.propagating.0, c.assume-heard.ensures.asks c.args.clauses.now c.requires.propagating.0 (may_propagate g.T.Theory.relations c.args.clauses.now c.requires.propagating.0 c.args.course.now (g.T.Theory.seen c.args.theory.now) (counts c.args.budget.now) c.args.reason.lit c.args.reason.by c.requires.propagating.1));
}

pub returns-clause-steps : goal.returns-clause-steps
returns-clause-steps g c s propagating =
    c.after.ensures.steps s (work_left c.args.course.now (counts c.args.budget.now)) (c.assume-heard.ensures.asks c.args.clauses.now s (may_propagate g.T.Theory.relations c.args.clauses.now s c.args.course.now (g.T.Theory.seen c.args.theory.now) (counts c.args.budget.now) c.args.reason.lit c.args.reason.by propagating)) c.assume-heard.ensures.less
