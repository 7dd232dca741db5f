use Rattle.std.proofs.Common.{◌≡◌, length}
use Rattle.clause_search.proofs.occurrences.Occurrences.new.Given as goal

abbrev pub invariant-loop-literal : goal.invariant-loop-literal
invariant-loop-literal l = length l.lists.items ≡ l._literal
