use Rattle.std.proofs.Common.{[], length, take}
use Rattle.std.specs.BinaryHeap.{heap_items}
use Rattle.clause_search.specs.Agendas.{Covers, IsIndexed}
use Rattle.clause_search.proofs.agenda.Agenda.new.Given as goal

abbrev pub invariant-loop-number : goal.invariant-loop-number
invariant-loop-number l = record {
  indexed : IsIndexed (length l.clauses.atoms) (take l.number l.clauses.clauses) l.agenda.occurrences.lists.items;
  covers : Covers (take l.number l.clauses.clauses) [] l.agenda.fresh.items (heap_items l.agenda.units);
}
