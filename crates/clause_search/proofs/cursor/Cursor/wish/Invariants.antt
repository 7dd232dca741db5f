use Rattle.std.proofs.Common.{◌-◌, length}
use Rattle.clause_form.specs.Journals.{literals}
use Rattle.learned_clause.specs.Trails.{known_with}
use Rattle.clause_search.specs.Cursors.{IsMarked}
use Rattle.clause_search.proofs.cursor.Cursor.wish.Given as goal

abbrev pub invariant-loop-self : goal.invariant-loop-self
invariant-loop-self l = IsMarked (known_with l.clauses.clauses l.lemmas) (literals l.trail.entries) l.self

abbrev pub decreases-loop-self : goal.decreases-loop-self
decreases-loop-self l = length (known_with l.clauses.clauses l.lemmas) - l.self.next
