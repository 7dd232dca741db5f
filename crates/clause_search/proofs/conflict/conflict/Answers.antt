use Rattle.whole.specs.Budget.{counts}
use Rattle.clause_search.proofs.ConflictLaws.{begun_from, conflict_begun, false_of, few_for, jump_of, learned_for, refuted, start_for, steps_refuted, trail_for, true_of}
use Rattle.clause_search.proofs.conflict.conflict.Goals as goal

pub best_lesson-requires : goal.best_lesson-requires
best_lesson-requires g c =
    let begun = conflict_begun g.T.Theory.relations c.args.clauses.now c.requires.start.0 c.args.course.now (g.T.Theory.seen c.args.theory.now) (counts c.args.budget.now) c.args.start c.requires.start.1 in record {
      few = few_for g.T.Theory.relations c.args.clauses.now c.requires.start.0 c.args.course.now.trail c.args.course.now.lemmas c.args.course.now.journal.moves (g.T.Theory.seen c.args.theory.now) (counts c.args.budget.now) c.args.start c.as_slice.result.now c.args.budget.now.within begun c.as_slice.ensures;
      trail = trail_for g.T.Theory.relations c.args.clauses.now c.requires.start.0 c.args.course.now.trail c.args.course.now.lemmas c.args.course.now.journal.moves (g.T.Theory.seen c.args.theory.now) (counts c.args.budget.now) c.args.start c.as_slice.result.now begun c.as_slice.ensures;
      start = start_for g.T.Theory.relations c.args.clauses.now c.requires.start.0 c.args.course.now.trail c.args.course.now.lemmas c.args.course.now.journal.moves (g.T.Theory.seen c.args.theory.now) (counts c.args.budget.now) c.args.start c.as_slice.result.now begun c.as_slice.ensures;
    }

pub returns-then-is_empty-clause-steps : goal.returns-then-is_empty-clause-steps
returns-then-is_empty-clause-steps g c s fails work most =
    let begun = conflict_begun g.T.Theory.relations c.args.clauses.now s c.args.course.now (g.T.Theory.seen c.args.theory.now) (counts c.args.budget.now) c.args.start fails in
    let here = learned_for c.args.clauses.now c.args.course.now.trail c.args.course.now.lemmas c.as_slice.result.now c.args.start c.in-Ok.field-0 c.as_slice.ensures c.in-Ok.ensures.learned in
    let from = begun_from g.T.Theory.relations c.args.clauses.now s c.args.course.now.trail c.args.course.now.lemmas c.args.course.now.journal.moves (g.T.Theory.seen c.args.theory.now) (counts c.args.budget.now) c.args.start here.from begun here.one in
    steps_refuted g.T.Theory.relations c.args.clauses.now s work c.args.course.now.lemmas (record { clause = c.in-Ok.field-0.clause; proof = c.in-Ok.field-0.proof }) c.refute.new.course (g.T.Theory.seen c.args.theory.now) (counts c.args.budget.now) c.refute.result c.refute.ensures (λ e. refuted g.T.Theory.relations c.args.clauses.now s c.args.course.now.trail c.args.course.now.lemmas c.args.course.now.journal.moves (g.T.Theory.seen c.args.theory.now) (counts c.args.budget.now) here.from (record { clause = c.in-Ok.field-0.clause; proof = c.in-Ok.field-0.proof }) c.in-Ok.field-0.keep c.refute.new.course c.args.budget.now.within from here.follows (true_of c.is_empty.result c.is_empty.ensures c.if-is_empty.true) e)

pub returns-else-is_empty-clause-steps : goal.returns-else-is_empty-clause-steps
returns-else-is_empty-clause-steps g c s fails work most =
    let begun = conflict_begun g.T.Theory.relations c.args.clauses.now s c.args.course.now (g.T.Theory.seen c.args.theory.now) (counts c.args.budget.now) c.args.start fails in
    let here = learned_for c.args.clauses.now c.args.course.now.trail c.args.course.now.lemmas c.as_slice.result.now c.args.start c.in-Ok.field-0 c.as_slice.ensures c.in-Ok.ensures.learned in
    let from = begun_from g.T.Theory.relations c.args.clauses.now s c.args.course.now.trail c.args.course.now.lemmas c.args.course.now.journal.moves (g.T.Theory.seen c.args.theory.now) (counts c.args.budget.now) c.args.start here.from begun here.one in
    c.backjump.ensures.steps s (jump_of g.T.Theory.relations c.args.clauses.now s c.args.course.now.trail c.args.course.now.lemmas c.args.course.now.journal.moves (g.T.Theory.seen c.args.theory.now) (counts c.args.budget.now) here.from (record { clause = c.in-Ok.field-0.clause; proof = c.in-Ok.field-0.proof }) c.in-Ok.field-0.keep from here.follows here.exact (false_of c.is_empty.result c.is_empty.ensures c.if-is_empty.false)) work most

pub returns-else-is_empty-clause-covering : goal.returns-else-is_empty-clause-covering
returns-else-is_empty-clause-covering g c =
    let begun = conflict_begun g.T.Theory.relations c.args.clauses.now c.requires.start.0 c.args.course.now (g.T.Theory.seen c.args.theory.now) (counts c.args.budget.now) c.args.start c.requires.start.1 in
    let here = learned_for c.args.clauses.now c.args.course.now.trail c.args.course.now.lemmas c.as_slice.result.now c.args.start c.in-Ok.field-0 c.as_slice.ensures c.in-Ok.ensures.learned in
    let from = begun_from g.T.Theory.relations c.args.clauses.now c.requires.start.0 c.args.course.now.trail c.args.course.now.lemmas c.args.course.now.journal.moves (g.T.Theory.seen c.args.theory.now) (counts c.args.budget.now) c.args.start here.from begun here.one in
    c.backjump.ensures.covering c.requires.start.0 (jump_of g.T.Theory.relations c.args.clauses.now c.requires.start.0 c.args.course.now.trail c.args.course.now.lemmas c.args.course.now.journal.moves (g.T.Theory.seen c.args.theory.now) (counts c.args.budget.now) here.from (record { clause = c.in-Ok.field-0.clause; proof = c.in-Ok.field-0.proof }) c.in-Ok.field-0.keep from here.follows here.exact (false_of c.is_empty.result c.is_empty.ensures c.if-is_empty.false))
