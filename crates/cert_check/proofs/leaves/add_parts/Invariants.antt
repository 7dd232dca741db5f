use Rattle.std.proofs.Common.{drop}
use Rattle.clause_form.specs.Derivations.{rows_of}
use Rattle.cert_check.specs.Desks.{Running}
use Rattle.cert_check.proofs.leaves.add_parts.Given as goal

abbrev pub invariant-loop-part : goal.invariant-loop-part
invariant-loop-part l = Running (rows_of l.clauses) l.parts (drop l.part-index l.parts) l.sums l.total
