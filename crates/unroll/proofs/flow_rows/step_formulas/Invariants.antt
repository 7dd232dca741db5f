use Rattle.std.specs.Prelude.{◌≡◌}
use Rattle.claims.specs.Subjects.{each_flow, part}
use Rattle.ctrl_meaning.specs.Flows.{step_claims}
use Rattle.ctrl_meaning.specs.Steps.{stepping}
use Rattle.unroll.specs.ClaimFormulas.{claim_formulas, trees}
use Rattle.unroll.proofs.flow_rows.step_formulas.Given as goal

-- the formulas of the flows so far
abbrev pub invariant-loop-index : goal.invariant-loop-index
invariant-loop-index l = trees l.formulas.items ≡ claim_formulas l.shape (each_flow (λ f. step_claims part l.controller (stepping l.setting l.row f)) l.index)
