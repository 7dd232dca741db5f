use Rattle.std.proofs.Common.{take}
use Rattle.learned_clause.specs.Resolvents.{AreMarked}
use Rattle.learned_clause.proofs.marks.Marks.mark_all.Given as goal

abbrev pub invariant-loop-lit : goal.invariant-loop-lit
invariant-loop-lit l = AreMarked l.initial.self (take l.lit-index l.lits) l.self
