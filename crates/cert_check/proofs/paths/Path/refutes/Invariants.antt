use Rattle.std.proofs.Common.{◌≡◌, drop}
use Rattle.cert_check.specs.Causes.{is_false_on}
use Rattle.cert_check.proofs.paths.Path.refutes.Given as goal

abbrev pub invariant-loop-lit : goal.invariant-loop-lit
invariant-loop-lit l = is_false_on l.self.lits (drop l.lit-index l.lits) ≡ is_false_on l.self.lits l.lits
