use Rattle.std.proofs.Common.{◌≡◌, ◌++◌, drop}
use Rattle.ctrl_types.specs.Resolving.{unset}
use Rattle.ctrl_types.proofs.resolving.places.Given as goal

abbrev pub invariant-loop-state : goal.invariant-loop-state
invariant-loop-state l = l.places ++ unset (drop l._state-index l.states) ≡ unset l.states
