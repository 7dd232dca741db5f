use Rattle.std.proofs.Common.{◌≡◌, Ok, take}
use Rattle.weighing.specs.First.{first}
use Rattle.path_server.specs.Places.{examined, places_of_rule, rules}
use Rattle.path_server.proofs.admission.examine_row.Given as goal

-- nothing is amiss under the rules passed so far
abbrev pub invariant-loop-rule : goal.invariant-loop-rule
invariant-loop-rule l = first (λ rule. first (examined l.path l.run) (places_of_rule l.run l.row rule)) (take l.rule-index rules) ≡ Ok tt
