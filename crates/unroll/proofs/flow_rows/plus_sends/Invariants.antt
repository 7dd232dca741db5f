use Rattle.std.specs.Prelude.{[], ◌∷◌}
use Rattle.claims.specs.Subjects.{each_flow, part}
use Rattle.ctrl_meaning.specs.Sends.{send_claim}
use Rattle.ctrl_meaning.specs.Steps.{sending}
use Rattle.unroll.specs.ClaimFormulas.{Adds}
use Rattle.unroll.proofs.flow_rows.plus_sends.Given as goal

-- the formulas of the flows so far stand after those before
abbrev pub invariant-loop-index : goal.invariant-loop-index
invariant-loop-index l =
    Adds l.shape l.fn.formulas.items (each_flow (λ f. send_claim part (sending l.setting l.row f) l.controller.window l.controller.rate ∷ []) l.index) l.formulas.items
