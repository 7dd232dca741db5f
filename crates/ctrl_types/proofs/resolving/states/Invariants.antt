use Rattle.std.proofs.Common.{◌≡◌, [], drop, take}
use Rattle.text_lines.proofs.StepLaws.{with_front}
use Rattle.ctrl_types.specs.Denominators.{IsScale}
use Rattle.ctrl_types.specs.Resolving.{states_by}
use Rattle.ctrl_types.specs.Scopes.{AreNames}
use Rattle.ctrl_types.proofs.resolving.states.Given as goal

abbrev pub invariant-loop-line : goal.invariant-loop-line
invariant-loop-line l = record {
  told : with_front l.states (states_by (take l.line-index l.lines) (drop l.line-index l.lines) l.den) ≡ states_by [] l.lines l.initial.den;
  numbered : AreNames l.names.keys (take l.line-index l.lines);
  within : IsScale l.den;
}
