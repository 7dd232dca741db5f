use Rattle.std.proofs.Common.{◌≡◌, map, take}
use Rattle.farkas_cert.specs.Literals.{negation}
use Rattle.clause_form.specs.Journals.{literals}
use Rattle.learned_clause.specs.Trails.{entries}
use Rattle.learned_clause.specs.Resolvents.{held}
use Rattle.learned_clause.proofs.cutting.clause_of.Given as goal

abbrev pub invariant-loop-k : goal.invariant-loop-k
invariant-loop-k l = l.clause.items ≡ map negation (held l.marks.on (literals (take l.k (entries l.trail))))
