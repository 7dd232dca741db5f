use Rattle.std.proofs.Common.{◌≡◌, ◌-◌, true, map, length, drop}
use Rattle.farkas_cert.specs.Literals.{negation}
use Rattle.cert_check.specs.Causes.{names_once}
use Rattle.cert_check.proofs.paths.Path.assume_negations.Given as goal

abbrev pub invariant-loop-i : goal.invariant-loop-i
invariant-loop-i l =
    (l.self.atoms ≡ l.initial.self.atoms)
    × (l.self.lits ≡ map negation (drop (length l.clause - l.i) l.clause))
    × (names_once l.initial.self.atoms (drop (length l.clause - l.i) l.clause) ≡ true)
