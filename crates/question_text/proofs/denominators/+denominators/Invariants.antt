use Rattle.std.proofs.Common.{◌≡◌, drop, map}
use Rattle.std.specs.Prelude.{IfSome}
use Rattle.std.specs.List.{flat_map}
use Rattle.condition_syntax.specs.Trees.{condition_of}
use Rattle.ctrl_types.specs.Denominators.{IsScale, with_numbers}
use Rattle.ctrl_types.specs.Statements.{condition_numbers}
use Rattle.question_text.specs.Resolution.{EachAsked}
use Rattle.question_text.proofs.denominators.+denominators.Given as goal

abbrev pub invariant-with_parts-loop-part : goal.invariant-with_parts-loop-part
invariant-with_parts-loop-part l = record {
  told : with_numbers l.common (flat_map condition_numbers (map condition_of (drop l.part-index l.part-items)))
      ≡ with_numbers l.fn.den (flat_map condition_numbers (map condition_of l.part-items));
  asked : EachAsked (map condition_of (drop l.part-index l.part-items));
  within : IfSome l.common IsScale;
}
