use Rattle.std.proofs.Common.{◌≡◌, length}
use Rattle.learned_clause.specs.Trails.{entries}
use Rattle.learned_clause.specs.Resolvents.{AreRanked}
use Rattle.learned_clause.proofs.marks.Marks.new.Given as goal

abbrev pub invariant-loop-k : goal.invariant-loop-k
invariant-loop-k l = (length l.ranks ≡ l.atoms) × AreRanked (entries l.trail) l.k l.ranks
