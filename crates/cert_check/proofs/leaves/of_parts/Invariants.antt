use Rattle.std.proofs.Common.{◌≡◌, drop}
use Rattle.clause_form.specs.Derivations.{rows_of}
use Rattle.cert_check.specs.Causes.{of_parts}
use Rattle.cert_check.proofs.leaves.of_parts.Given as goal

abbrev pub invariant-loop-part : goal.invariant-loop-part
invariant-loop-part l =
    of_parts (rows_of l.clauses) l.path.lits (drop l.part-index l.parts) ≡ of_parts (rows_of l.clauses) l.path.lits l.parts
