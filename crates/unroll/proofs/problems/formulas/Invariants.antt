use Rattle.std.proofs.Common.{[]}
use Rattle.std.specs.Prelude.{flat_map}
use Rattle.weighing.specs.First.{below}
use Rattle.unroll.specs.ClaimFormulas.{Adds}
use Rattle.ctrl_meaning.specs.Flows.{shape_for}
use Rattle.unroll.specs.Problems.{row_problem}
use Rattle.unroll.proofs.problems.formulas.Given as goal

-- the formulas of the rows so far
abbrev pub invariant-loop-row : goal.invariant-loop-row
invariant-loop-row l =
    Adds (shape_for l.controller l.question.setting) [] (flat_map (row_problem l.controller l.question) (below l.row)) l.formulas.items
