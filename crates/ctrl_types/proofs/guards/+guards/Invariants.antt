use Rattle.std.proofs.Common.{◌≡◌, drop, map}
use Rattle.std.specs.Prelude.{IfSome}
use Rattle.text_lines.proofs.StepLaws.{with_front}
use Rattle.condition_syntax.specs.Trees.{condition_of}
use Rattle.ctrl_types.specs.Tests.{test_of}
use Rattle.ctrl_types.specs.Denominators.{IsScale}
use Rattle.ctrl_types.specs.Resolving.{EachReadable, gates_by}
use Rattle.ctrl_types.proofs.guards.+guards.Given as goal

abbrev pub invariant-gates-loop-part : goal.invariant-gates-loop-part
invariant-gates-loop-part l = record {
  told : with_front (map test_of l.gates.items) (gates_by l.scope.states.now (map condition_of (drop l.part-index l.part-items)) l.seen) ≡ gates_by l.scope.states.now (map condition_of l.part-items) l.initial.seen;
  readable : EachReadable (map condition_of (drop l.part-index l.part-items));
  within : IfSome l.seen.den IsScale;
}
