use Rattle.std.proofs.Common.{take}
use Rattle.clause_search.specs.Agendas.{HasGrown, IsListed}
use Rattle.clause_search.proofs.occurrences.Occurrences.list.Given as goal

abbrev pub invariant-loop-lit : goal.invariant-loop-lit
invariant-loop-lit l = record {
  grown : HasGrown l.initial.self.lists.items l.self.lists.items;
  listed : IsListed l.self.lists.items l.number (take l.lit-index l.clause);
}
