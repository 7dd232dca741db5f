use Rattle.std.proofs.Common.{◌≡◌, []}
use Rattle.std.specs.BinaryHeap.{heap_items, heap_len}
use Rattle.clause_form.specs.Journals.{literals}
use Rattle.learned_clause.specs.Trails.{known_with}
use Rattle.clause_search.specs.Agendas.{Covers}
use Rattle.clause_search.proofs.agenda.Agenda.next_unit.Given as goal

abbrev pub invariant-loop-waiting : goal.invariant-loop-waiting
invariant-loop-waiting l = record {
  fresh : l.self.fresh.items ≡ [];
  occurrences : l.self.occurrences ≡ l.initial.self.occurrences;
  covers : Covers (known_with l.clauses.clauses l.lemmas) (literals l.trail.entries) [] (heap_items l.self.units);
}

abbrev pub decreases-loop-waiting : goal.decreases-loop-waiting
decreases-loop-waiting l = heap_len l.self.units
