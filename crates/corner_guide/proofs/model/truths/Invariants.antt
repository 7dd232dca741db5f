use Rattle.std.proofs.Common.{unsigned_abs, take}
use Rattle.linear_form.specs.Sums.{entry}
use Rattle.corner_guide.proofs.TruthLaws.{AgreeAll}
use Rattle.corner_guide.proofs.model.truths.Given as goal

abbrev pub invariant-loop-atom : goal.invariant-loop-atom
invariant-loop-atom g l = AgreeAll l.clauses (entry l.values.values) (unsigned_abs l.values.over) (take l.atom-index l.clauses.atoms) l.truths
