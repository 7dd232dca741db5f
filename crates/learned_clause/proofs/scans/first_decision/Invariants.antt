use Rattle.learned_clause.specs.Trails.{entries}
use Rattle.learned_clause.specs.Resolvents.{NoneDecided}
use Rattle.learned_clause.proofs.scans.first_decision.Given as goal

abbrev pub invariant-loop-k : goal.invariant-loop-k
invariant-loop-k l = NoneDecided (entries l.trail) l.from l.k
