use Rattle.std.proofs.lemmas.Bool.Decides.{nat_tests}
use Rattle.std.specs.Prelude.{nat_lt, false, if◌then◌else◌}
use Rattle.std.proofs.Common.{◌≡◌, ◌∙◌, ap, sym, ℕ, ◌≤◌, [], ◌∷◌, ◌++◌, arith}
use Rattle.claims.specs.Subjects.{in_run}
use Rattle.weighing.specs.Claim.{all_claims, compare, outcome}
use Rattle.weighing.specs.Weight.{Weight}
use Rattle.weighing.specs.Weighed.{related, weighed}
use Rattle.weighing.specs.declared.weighings.Rel5.TheVariants.{AtLeast}
use Rattle.run_rows.specs.Runs.{flow_count}
use Rattle.path_server.specs.Claims.{allowance, floor_claims, opposite, rate_scale, service}
use Rattle.run_rows.specs.declared.rows.Run.{Run}
use Rattle.path_server.specs.Servers.{Server, server_of}
use Rattle.path_server.specs.Scales.{factors}
use Rattle.path_server.proofs.Flows.{two_parts}
use Rattle.path_server.proofs.server_rules.floor.Goals as goal

of_path : (r : Run) (p : Server) (i f : ℕ) → f ≤ 0 → outcome i (all_claims (floor_claims (in_run r) (flow_count r 0) p i f))
    ≡ related AtLeast (weighed i (service (in_run r) (flow_count r 0) (rate_scale p) i ++ allowance (in_run r) p (opposite (rate_scale p)) i p.jitter)).sum
unfolding floor_claims
of_path r p i f none =
    let is : nat_lt 0 f ≡ false = grind (arith, nat_tests, none) in
    ap (λ b. outcome i (all_claims (if b then []
    else compare (service (in_run r) (flow_count r 0) (rate_scale p) i ++ allowance (in_run r) p (opposite (rate_scale p)) i p.jitter) AtLeast ∷ []))) is

pub returns : goal.returns
returns c =
    let r = c.args.run.now in
    let p = server_of c.args.path.now in
    c.stands.ensures.exact ∙ ap (λ (w : Weight). related AtLeast w.sum)
    (two_parts c.args.row c.new.result c.plus_service-served.result c.plus_allowance.result
    (λ s. service (in_run r) (flow_count r 0) s c.args.row) (λ s. allowance (in_run r) p s c.args.row p.jitter)
    (factors c.args.scales.now.rate) (factors c.opposite-opposite.result) (rate_scale p) (opposite (rate_scale p))
    c.new.ensures c.plus_service-served.ensures c.plus_allowance.ensures
    c.requires.scales_in.rate_value (c.opposite-opposite.ensures.value ∙ ap opposite c.requires.scales_in.rate_value))
    ∙ sym (of_path r p c.args.row c.args.flow c.if-flow-gt0.false)
