use Rattle.std.proofs.Common.{◌≡◌, vec_len}
use Rattle.clause_form.specs.Derivations.{rows_of}
use Rattle.learned_clause.specs.Trails.{known_with}
use Rattle.clause_search.specs.Starts.{IsLearnedHere}
use Rattle.clause_search.proofs.lessons.best_lesson.Given as goal

abbrev pub invariant-starts : goal.invariant-starts
invariant-starts l = record {
  best : IsLearnedHere (rows_of l.clauses) (known_with l.clauses.clauses l.lemmas) l.trail.entries l.fn.start l.best;
  occurrences : l.agenda.occurrences ≡ l.fn.agenda.occurrences;
}

abbrev pub decreases-starts : goal.decreases-starts
decreases-starts l = vec_len l.agenda.fresh
