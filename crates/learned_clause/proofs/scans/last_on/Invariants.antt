use Rattle.std.proofs.Common.{◌≤◌}
use Rattle.learned_clause.specs.Trails.{entries}
use Rattle.learned_clause.specs.Resolvents.{NoneOn}
use Rattle.learned_clause.proofs.scans.last_on.Given as goal

abbrev pub invariant-loop-last : goal.invariant-loop-last
invariant-loop-last l = (l.last ≤ l.many) × NoneOn (entries l.trail) l.marks.on l.last l.many

abbrev pub decreases-loop-last : goal.decreases-loop-last
decreases-loop-last l = l.last
