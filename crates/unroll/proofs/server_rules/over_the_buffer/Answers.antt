use Rattle.std.proofs.Common.{◌∙◌, ap}
use Rattle.claims.specs.Subjects.{part}
use Rattle.path_server.specs.Claims.{accepted, allowance, common_scale, opposite, room}
use Rattle.path_server.specs.Scales.{factors}
use Rattle.path_server.specs.Servers.{server_of}
use Rattle.unroll.proofs.SumLaws.{three_lists}
use Rattle.unroll.proofs.server_rules.over_the_buffer.Goals as goal

pub returns : goal.returns
returns c =
    let s = c.args.shape.now in
    let p = server_of c.args.path.now in
    let b = c.args.buffer.now in
    let k = common_scale p b in
    let scale = c.of_buffer-scale.ensures.value in
    let turned = c.opposite-opposite.ensures.value ∙ ap opposite scale in
    three_lists s c.new.result c.in_ok-accepted.accepted c.in_ok-waiting.waiting c.plus_room.result
    (λ f. accepted part s.flows f c.args.row) (λ f. allowance part p f c.args.before 0) (λ f. room part b f)
    (factors c.of_buffer-scale.result) (factors c.opposite-opposite.result) (factors c.opposite-opposite.result) k (opposite k) (opposite k)
    c.new.ensures c.in_ok-accepted.ensures.value c.in_ok-waiting.ensures.value (c.plus_room.ensures s)
    scale turned turned
