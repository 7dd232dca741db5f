use Rattle.std.proofs.Common.{[], take}
use Rattle.std.specs.Prelude.{flat_map}
use Rattle.claims.specs.Subjects.{part}
use Rattle.path_server.specs.Places.{rules}
use Rattle.path_server.specs.RowClaims.{claims_of_rule}
use Rattle.path_server.specs.Servers.{server_of}
use Rattle.unroll.specs.ClaimFormulas.{Adds}
use Rattle.unroll.proofs.path_rows.row_formulas.Given as goal

-- the claims of the rules passed so far
abbrev pub invariant-loop-rule : goal.invariant-loop-rule
invariant-loop-rule l =
    Adds l.shape [] (flat_map (claims_of_rule part l.shape.flows (server_of l.path) l.row) (take l.rule-index rules)) l.formulas.items
