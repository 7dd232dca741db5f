use Rattle.std.proofs.Common.{◌≡◌, drop, map}
use Rattle.std.specs.List.{list_any}
use Rattle.question_text.specs.Conditions.{condition_of}
use Rattle.question_text.specs.Resolution.{mixes}
use Rattle.question_text.proofs.kinds.+kinds.Given as goal

abbrev pub invariant-one_mixes-loop-part : goal.invariant-one_mixes-loop-part
invariant-one_mixes-loop-part l =
    list_any (mixes l.states) (map condition_of (drop l.part-index l.part-items)) ≡ list_any (mixes l.states) (map condition_of l.part-items)
