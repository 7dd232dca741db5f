use Rattle.std.proofs.Common.{◌≡◌, ℕ, ◌≤◌, vec_len}
use Rattle.std.specs.BinaryHeap.{heap_items}
use Rattle.clause_form.specs.Derivations.{NamesOnce}
use Rattle.clause_form.specs.Journals.{literals}
use Rattle.learned_clause.specs.Trails.{known_with}
use Rattle.clause_search.specs.Agendas.{Covers}
use Rattle.clause_search.proofs.agenda.Agenda.next_false.Given as goal

abbrev pub invariant-loop-number : goal.invariant-loop-number
invariant-loop-number l = record {
  fewer : vec_len l.self.fresh ≤ vec_len l.initial.self.fresh;
  occurrences : l.self.occurrences ≡ l.initial.self.occurrences;
  covers : (n : ℕ) → NamesOnce n (literals l.trail.entries) → Covers (known_with l.clauses.clauses l.lemmas) (literals l.trail.entries) l.initial.self.fresh.items (heap_items l.initial.self.units) → Covers (known_with l.clauses.clauses l.lemmas) (literals l.trail.entries) l.self.fresh.items (heap_items l.self.units);
}

abbrev pub decreases-loop-number : goal.decreases-loop-number
decreases-loop-number l = vec_len l.self.fresh
