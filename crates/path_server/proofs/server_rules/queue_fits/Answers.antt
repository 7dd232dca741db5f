use Rattle.std.proofs.Common.{◌∙◌, ap}
use Rattle.claims.specs.Subjects.{in_run}
use Rattle.weighing.specs.Weight.{Weight}
use Rattle.weighing.specs.Weighed.{related}
use Rattle.weighing.specs.declared.weighings.Rel5.TheVariants.{AtLeast}
use Rattle.run_rows.specs.Runs.{flow_count}
use Rattle.path_server.specs.Claims.{accepted, allowance, common_scale, opposite, queue_fits, room}
use Rattle.path_server.specs.Scales.{factors}
use Rattle.path_server.specs.Servers.{server_of}
use Rattle.path_server.proofs.Flows.{three_parts}
use Rattle.path_server.proofs.server_rules.queue_fits.Goals as goal

pub returns : goal.returns
unfolding queue_fits
returns c =
    let r = c.args.run.now in
    let p = server_of c.args.path.now in
    let b = c.args.buffer.now in
    c.stands.ensures.exact ∙ ap (λ (w : Weight). related AtLeast w.sum)
    (three_parts c.args.row c.new.result c.plus_allowance-allowed.result c.plus_room-roomy.result c.plus_accepted.result
    (λ s. allowance (in_run r) p s c.args.row 0) (λ s. room (in_run r) b s) (λ s. accepted (in_run r) (flow_count r 0) s c.args.row)
    (factors c.args.scale.now) (factors c.args.scale.now) (factors c.opposite-opposite.result)
    (common_scale p b) (common_scale p b) (opposite (common_scale p b))
    c.new.ensures c.plus_allowance-allowed.ensures c.plus_room-roomy.ensures c.plus_accepted.ensures
    c.requires.scale_value c.requires.scale_value (c.opposite-opposite.ensures.value ∙ ap opposite c.requires.scale_value))
