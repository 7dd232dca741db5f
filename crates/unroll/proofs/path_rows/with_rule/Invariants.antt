use Rattle.std.specs.Prelude.{flat_map}
use Rattle.weighing.specs.First.{below}
use Rattle.claims.specs.Subjects.{part}
use Rattle.path_server.specs.Claims.{rule_claims}
use Rattle.path_server.specs.Servers.{server_of}
use Rattle.unroll.specs.ClaimFormulas.{Adds}
use Rattle.unroll.proofs.path_rows.with_rule.Given as goal

-- the claims of the flows passed so far
abbrev pub invariant-loop-flow : goal.invariant-loop-flow
invariant-loop-flow l =
    Adds l.shape l.fn.formulas.items (flat_map (rule_claims part l.shape.flows (server_of l.path) l.fn.rule l.row) (below l.flow)) l.formulas.items
