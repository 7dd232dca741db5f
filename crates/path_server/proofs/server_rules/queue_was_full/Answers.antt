use Rattle.std.proofs.Common.{◌∙◌, ap, ◌-◌}
use Rattle.claims.specs.Subjects.{in_run}
use Rattle.weighing.specs.Weight.{Weight}
use Rattle.weighing.specs.Weighed.{related}
use Rattle.weighing.specs.declared.weighings.Rel5.TheVariants.{AtLeast}
use Rattle.run_rows.specs.Runs.{flow_count}
use Rattle.path_server.specs.Claims.{accepted, allowance, common_scale, opposite, queue_was_full, room}
use Rattle.path_server.specs.Scales.{factors}
use Rattle.path_server.specs.Servers.{server_of}
use Rattle.path_server.proofs.Flows.{three_parts}
use Rattle.path_server.proofs.server_rules.queue_was_full.Goals as goal

pub returns : goal.returns
unfolding queue_was_full
returns c =
    let r = c.args.run.now in
    let p = server_of c.args.path.now in
    let b = c.args.buffer.now in
    let turned = c.opposite-opposite.ensures.value ∙ ap opposite c.requires.scale_value in
    c.stands.ensures.exact ∙ ap (λ (w : Weight). related AtLeast w.sum)
    (three_parts c.args.row c.new.result c.plus_accepted-waiting.result c.plus_allowance-over.result c.plus_room.result
    (λ s. accepted (in_run r) (flow_count r 0) s c.args.row) (λ s. allowance (in_run r) p s (c.args.row - 1) 0) (λ s. room (in_run r) b s)
    (factors c.args.scale.now) (factors c.opposite-opposite.result) (factors c.opposite-opposite.result)
    (common_scale p b) (opposite (common_scale p b)) (opposite (common_scale p b))
    c.new.ensures c.plus_accepted-waiting.ensures c.plus_allowance-over.ensures c.plus_room.ensures
    c.requires.scale_value turned turned)
