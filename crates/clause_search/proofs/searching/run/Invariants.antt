use Rattle.std.proofs.Common.{◌≡◌}
use Rattle.whole.specs.Budget.{counts}
use Rattle.clause_search.specs.Courses.{IsAt, work_left}
use Rattle.clause_search.specs.Upkeep.{IsCovering}
use Rattle.clause_search.proofs.searching.run.Given as goal

abbrev pub invariant-steps : goal.invariant-steps
invariant-steps g l = record {
  at : IsAt g.T.Theory.relations l.clauses (g.T.Theory.seen l.fn.theory).state l.course (g.T.Theory.seen l.theory) (counts l.budget);
  covering : IsCovering l.clauses l.course;
  rows : (g.T.Theory.seen l.theory).rows ≡ (g.T.Theory.seen l.fn.theory).rows;
  limit : l.budget.limit ≡ l.fn.budget.limit;
}

abbrev pub decreases-steps : goal.decreases-steps
decreases-steps g l = work_left l.course (counts l.budget)
