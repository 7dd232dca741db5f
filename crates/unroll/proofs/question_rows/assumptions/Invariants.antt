use Rattle.std.proofs.Common.{◌≡◌, ◌++◌, drop, map}
use Rattle.unroll.specs.ClaimFormulas.{trees}
use Rattle.unroll.specs.QuestionFormulas.{condition_tree}
use Rattle.unroll.proofs.question_rows.assumptions.Given as goal

-- the formulas so far, and those of the assumptions to come, are those of all
abbrev pub invariant-loop-assumption : goal.invariant-loop-assumption
invariant-loop-assumption l =
    trees l.formulas.items ++ map (condition_tree l.shape l.at) (drop l.assumption-index l.assumption-items) ≡ map (condition_tree l.shape l.at) l.assumption-items
