use Rattle.std.proofs.Common.{◌≡◌, ◌∷◌, [], pos, negsuc}
use Rattle.weighing.specs.Weighed.{times, weighed_from}
use Rattle.run_rows.specs.Runs.{lost}
use Rattle.claims.specs.Subjects.{each_flow}
use Rattle.path_server.proofs.entries.plus_new_losses.Given as goal

-- the terms of the flows passed so far are in the sum
abbrev pub invariant-loop-index : goal.invariant-loop-index
invariant-loop-index l =
    l.weighing ≡ weighed_from l.fn.start
    (each_flow (λ f. times (pos 1) (lost l.run l.row f) ∷ times (negsuc 0) (lost l.run l.before f) ∷ []) l.index)
