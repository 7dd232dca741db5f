use Rattle.std.specs.Prelude.{flat_map}
use Rattle.weighing.specs.First.{below}
use Rattle.claims.specs.Subjects.{constant, of_state, part}
use Rattle.ctrl_meaning.specs.Opening.{declared_state, range_claims}
use Rattle.unroll.specs.ClaimFormulas.{Adds}
use Rattle.unroll.proofs.openings.plus_opening.Given as goal

-- the formulas of the states so far stand after those before
abbrev pub invariant-loop-state : goal.invariant-loop-state
invariant-loop-state l =
    Adds l.shape l.fn.formulas.items (flat_map (λ j. range_claims part (declared_state l.controller j) (of_state l.row l.flow j) constant) (below l.state)) l.formulas.items
