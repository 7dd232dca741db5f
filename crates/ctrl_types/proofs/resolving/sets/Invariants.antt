use Rattle.std.proofs.Common.{◌≡◌, drop, length}
use Rattle.ctrl_types.specs.Denominators.{IsScale}
use Rattle.ctrl_types.specs.Resolving.{sets_by, unset}
use Rattle.ctrl_types.proofs.resolving.sets.Given as goal

abbrev pub invariant-loop-line : goal.invariant-loop-line
invariant-loop-line l = record {
  told : sets_by l.scope.states.now (drop l.line-index l.lines) l.places l.den ≡ sets_by l.scope.states.now l.lines (unset l.scope.states.now) l.initial.den;
  places_are : length l.places ≡ length l.scope.states.now;
  within : IsScale l.den;
}
