use Rattle.std.proofs.Common.{◌≡◌, drop}
use Rattle.cert_check.proofs.paths.Path.clear.Given as goal

abbrev pub invariant-loop-step : goal.invariant-loop-step
invariant-loop-step l = (l.self.atoms ≡ l.initial.self.atoms) × (l.self.lits ≡ drop l._step l.initial.self.lits)
