use Rattle.std.proofs.Common.{◌≡◌, Ok}
use Rattle.weighing.specs.First.{below, first}
use Rattle.path_server.specs.Places.{examined, places_of_row}
use Rattle.path_server.proofs.admission.examine.Given as goal

-- nothing is amiss on the rows passed so far
abbrev pub invariant-loop-row : goal.invariant-loop-row
invariant-loop-row l = first (λ i. first (examined l.path l.run) (places_of_row l.run i)) (below l.row) ≡ Ok tt
