-- The claims of a row in the order in which it is examined: by rules, in a rule by flows, flow 0 being the path as a whole.
use Rattle.std.specs.Prelude.{ℕ, ◌+◌, ℤ, List, flat_map}
use Rattle.weighing.specs.Claim.{Claims}
use Rattle.weighing.specs.First.{below}
use Rattle.claims.specs.Subjects.{Subject}
use Rattle.path_server.specs.Claims.{rule_claims}
use Rattle.path_server.specs.Places.{rules}
use Rattle.path_server.specs.Servers.{Server}
use Rattle.path_server.specs.declared.path_rules.PathRule.{PathRule}

unfoldable pub claims_of_rule : {T : Type 0} → (ℤ → Subject → T) → ℕ → Server → ℕ → PathRule → List (Claims T)
claims_of_rule term n p i rule = flat_map (rule_claims term n p rule i) (below (n + 1))

unfoldable pub row_claims : {T : Type 0} → (ℤ → Subject → T) → ℕ → Server → ℕ → List (Claims T)
row_claims term n p i = flat_map (claims_of_rule term n p i) rules
