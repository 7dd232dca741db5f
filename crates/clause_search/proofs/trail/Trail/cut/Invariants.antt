use Rattle.std.proofs.Common.{◌≡◌, length, take}
use Rattle.clause_search.proofs.trail.Trail.cut.Given as goal

abbrev pub invariant-loop-self : goal.invariant-loop-self
invariant-loop-self l = (l.self.atoms ≡ l.initial.self.atoms) × (take l.keep l.self.entries ≡ take l.keep l.initial.self.entries)

abbrev pub decreases-loop-self : goal.decreases-loop-self
decreases-loop-self l = length l.self.entries
