use Rattle.std.proofs.Common.{refl}
use Rattle.std.specs.BinaryHeap.{heap_items, heap_len}
use Rattle.clause_form.specs.Journals.{literals}
use Rattle.learned_clause.specs.Trails.{known_with}
use Rattle.clause_search.proofs.AgendaLaws.{covers_popped, settled_of}
use Rattle.clause_search.proofs.agenda.Agenda.next_unit.Goals as goal

pub loop-waiting-preserved : goal.loop-waiting-preserved
loop-waiting-preserved c = record {
  fresh = c.loop-waiting.invariant.fresh;
  occurrences = c.loop-waiting.invariant.occurrences;
  covers = covers_popped (known_with c.args.clauses.now.clauses c.args.lemmas.now) (literals c.args.trail.now.entries) (heap_items c.loop-waiting.self.units) (heap_items c.pop.new.self) c.in-Some.waiting.now c.pop.result (heap_len c.loop-waiting.self.units) c.in_default-given.ensures c.in-Some.ensures.lookup (c.in-Some.ensures.variant.0 refl) c.pop.ensures.variant c.pop.ensures.top c.pop.ensures.permutation c.loop-waiting.invariant.covers;
}

pub returns-clause-found : goal.returns-clause-found
returns-clause-found c =
    settled_of (known_with c.args.clauses.now.clauses c.args.lemmas.now) (literals c.args.trail.now.entries) (heap_items c.loop-waiting.self.units) c.in_default.ensures.item.3 c.loop-waiting.invariant.covers
