use Rattle.std.proofs.Common.{◌≡◌, ◌∷◌, []}
use Rattle.weighing.specs.Weighed.{times, weighed_from}
use Rattle.run_rows.specs.Runs.{served}
use Rattle.claims.specs.Subjects.{each_flow}
use Rattle.path_server.proofs.entries.plus_service.Given as goal

-- the terms of the flows passed so far are in the sum
abbrev pub invariant-loop-index : goal.invariant-loop-index
invariant-loop-index l =
    l.weighing ≡ weighed_from l.fn.start (each_flow (λ f. times l.scale.unit (served l.run l.row f) ∷ []) l.index)
