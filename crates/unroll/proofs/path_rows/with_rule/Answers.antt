use Rattle.std.proofs.Common.{◌≡◌, ◌+◌, subst, arith}
use Rattle.std.specs.Prelude.{flat_map}
use Rattle.weighing.specs.First.{below}
use Rattle.claims.specs.Subjects.{part}
use Rattle.path_server.specs.Claims.{rule_claims}
use Rattle.path_server.specs.RowClaims.{claims_of_rule}
use Rattle.path_server.specs.Servers.{server_of}
use Rattle.unroll.specs.ClaimFormulas.{Adds}
use Rattle.unroll.proofs.path_rows.with_rule.Goals as goal

pub returns : goal.returns
unfolding claims_of_rule
returns c =
    let all : c.loop-flow.flow ≡ c.args.shape.now.flows + 1 = omega arith in
    subst (λ n. Adds c.args.shape.now c.args.formulas.items
    (flat_map (rule_claims part c.args.shape.now.flows (server_of c.args.path.now) c.args.rule c.args.row) (below n)) c.loop-flow.formulas.items)
    all c.loop-flow.invariant
