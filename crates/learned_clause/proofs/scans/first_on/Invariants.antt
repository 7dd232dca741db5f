use Rattle.learned_clause.specs.Trails.{entries}
use Rattle.learned_clause.specs.Resolvents.{NoneOn}
use Rattle.learned_clause.proofs.scans.first_on.Given as goal

abbrev pub invariant-loop-k : goal.invariant-loop-k
invariant-loop-k l = NoneOn (entries l.trail) l.marks.on l.from l.k
