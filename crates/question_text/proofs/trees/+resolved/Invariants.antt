use Rattle.std.proofs.Common.{◌≡◌, drop, map}
use Rattle.question_text.specs.Conditions.{condition_of}
use Rattle.question_text.specs.NamedValues.{each_found}
use Rattle.question_text.proofs.FoundLoop.{behind}
use Rattle.question_text.proofs.TreeLaws.{part_meant}
use Rattle.question_text.proofs.trees.+resolved.Given as goal

-- the parts so far and those to come are all the parts
abbrev pub invariant-conditions-loop-part : goal.invariant-conditions-loop-part
invariant-conditions-loop-part l =
    behind (map condition_of l.resolved.items) (each_found (part_meant l.states l.setting) (drop l.part-index l.part-items))
    ≡ each_found (part_meant l.states l.setting) l.part-items
