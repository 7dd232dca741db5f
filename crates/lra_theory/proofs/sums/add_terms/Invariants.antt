use Rattle.std.proofs.Common.{take}
use Rattle.lra_theory.proofs.TotalLaws.{Adding}
use Rattle.lra_theory.proofs.sums.add_terms.Given as goal

abbrev pub invariant-loop-term : goal.invariant-loop-term
invariant-loop-term l = Adding l.mult l.factor l.initial.sums.items (take l.term-index l.terms) l.sums.items
