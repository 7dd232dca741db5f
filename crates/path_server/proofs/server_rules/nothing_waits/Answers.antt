use Rattle.std.proofs.Common.{◌∙◌, ap}
use Rattle.claims.specs.Subjects.{in_run}
use Rattle.weighing.specs.Weight.{Weight}
use Rattle.weighing.specs.Weighed.{related}
use Rattle.weighing.specs.declared.weighings.Rel5.TheVariants.{AtLeast}
use Rattle.run_rows.specs.Runs.{flow_count}
use Rattle.path_server.specs.Claims.{accepted, allowance, nothing_waits, opposite, rate_scale}
use Rattle.path_server.specs.Scales.{factors}
use Rattle.path_server.specs.Servers.{server_of}
use Rattle.path_server.proofs.Flows.{two_parts}
use Rattle.path_server.proofs.server_rules.nothing_waits.Goals as goal

pub returns : goal.returns
unfolding nothing_waits
returns c =
    let r = c.args.run.now in
    let p = server_of c.args.path.now in
    c.stands.ensures.exact ∙ ap (λ (w : Weight). related AtLeast w.sum)
    (two_parts c.args.row c.new.result c.plus_allowance-allowed.result c.plus_accepted.result
    (λ s. allowance (in_run r) p s c.args.row 0) (λ s. accepted (in_run r) (flow_count r 0) s c.args.row)
    (factors c.args.scales.now.rate) (factors c.opposite-opposite.result) (rate_scale p) (opposite (rate_scale p))
    c.new.ensures c.plus_allowance-allowed.ensures c.plus_accepted.ensures
    c.requires.scales_in.rate_value (c.opposite-opposite.ensures.value ∙ ap opposite c.requires.scales_in.rate_value))
