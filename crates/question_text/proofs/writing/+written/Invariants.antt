use Rattle.std.proofs.Common.{◌≡◌, ◌++◌, drop, map}
use Rattle.condition_syntax.specs.Trees.{condition_of as written_of}
use Rattle.question_text.specs.Conditions.{condition_of}
use Rattle.question_text.specs.Texts.{condition_written}
use Rattle.question_text.proofs.writing.+written.Given as goal

abbrev pub invariant-conditions-loop-part : goal.invariant-conditions-loop-part
invariant-conditions-loop-part l =
    map written_of l.written.items ++ map (condition_written l.states l.setting) (map condition_of (drop l.part-index l.part-items))
    ≡ map (condition_written l.states l.setting) (map condition_of l.part-items)
