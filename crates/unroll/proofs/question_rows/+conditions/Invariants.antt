use Rattle.std.proofs.Common.{◌≡◌, ◌++◌, drop, map}
use Rattle.question_text.specs.Conditions.{conjunction, condition_of, disjunction}
use Rattle.unroll.specs.ClaimFormulas.{trees}
use Rattle.unroll.specs.QuestionFormulas.{condition_tree}
use Rattle.unroll.specs.QuestionLimits.{CanBuild}
use Rattle.unroll.proofs.question_rows.+conditions.Given as goal

-- the formulas so far, and those of the parts to come, are those of all
abbrev pub invariant-all_hold-loop-part : goal.invariant-all_hold-loop-part
invariant-all_hold-loop-part l =
    (trees l.formulas.items ++ map (condition_tree l.shape l.at) (drop l.part-index l.part-items) ≡ map (condition_tree l.shape l.at) l.part-items)
    × CanBuild l.shape l.at (conjunction (map condition_of (drop l.part-index l.part-items)))

-- the formulas so far, and those of the parts to come, are those of all
abbrev pub invariant-any_holds-loop-part : goal.invariant-any_holds-loop-part
invariant-any_holds-loop-part l =
    (trees l.formulas.items ++ map (condition_tree l.shape l.at) (drop l.part-index l.part-items) ≡ map (condition_tree l.shape l.at) l.part-items)
    × CanBuild l.shape l.at (disjunction (map condition_of (drop l.part-index l.part-items)))
