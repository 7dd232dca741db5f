use Rattle.std.proofs.Common.{take}
use Rattle.lra_theory.specs.Totals.{AreSums}
use Rattle.lra_theory.proofs.sums.sums_fit.Given as goal

abbrev pub invariant-loop-position : goal.invariant-loop-position
invariant-loop-position l = AreSums l.rows (take l.position l.parts) l.sums
