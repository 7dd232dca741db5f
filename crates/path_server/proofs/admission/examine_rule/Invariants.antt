use Rattle.std.proofs.Common.{◌≡◌, Ok}
use Rattle.weighing.specs.First.{below, first}
use Rattle.path_server.specs.Places.{at_place, examined}
use Rattle.path_server.proofs.admission.examine_rule.Given as goal

-- nothing is amiss for the flows passed so far
abbrev pub invariant-loop-flow : goal.invariant-loop-flow
invariant-loop-flow l = first (λ f. examined l.path l.run (at_place l.row l.rule f)) (below l.flow) ≡ Ok tt
