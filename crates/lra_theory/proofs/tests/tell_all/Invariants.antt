use Rattle.std.proofs.Common.{length}
use Rattle.lra_theory.specs.Examples.{HasTold}
use Rattle.lra_theory.specs.Standings.{seen}
use Rattle.lra_theory.proofs.tests.tell_all.Given as goal

-- the atoms below this one were told
abbrev pub invariant-loop-atom : goal.invariant-loop-atom
invariant-loop-atom g l = HasTold l.atom (length l.signs) (seen g.F.OrderedField.value l.theory)
