use Rattle.std.proofs.Common.{ℕ, ◌<◌}
use Rattle.clause_form.specs.Derivations.{HasAtom}
use Rattle.clause_form.specs.Journals.{literals}
use Rattle.clause_search.proofs.trail.Trail.first_free.Given as goal

abbrev pub invariant-loop-atom : goal.invariant-loop-atom
invariant-loop-atom l = (k : ℕ) → k < l.atom → HasAtom k (literals l.self.entries)
