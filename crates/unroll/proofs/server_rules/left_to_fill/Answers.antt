use Rattle.std.proofs.Common.{◌≡◌, ◌∙◌, ap, refl, subst}
use Rattle.std.specs.Prelude.{IfOk}
use Rattle.claims.specs.Subjects.{part}
use Rattle.path_server.specs.Claims.{accepted, allowance, common_scale, opposite, room}
use Rattle.path_server.specs.Scales.{factors}
use Rattle.path_server.specs.Servers.{server_of}
use Rattle.unroll.specs.Sums.{ColumnSum}
use Rattle.unroll.proofs.SumLaws.{three_lists}
use Rattle.unroll.proofs.server_rules.left_to_fill.Goals as goal

pub returns : goal.returns
returns c =
    let s = c.args.shape.now in
    let p = server_of c.args.path.now in
    let b = c.args.buffer.now in
    let k = common_scale p b in
    let scale = c.of_buffer-scale.ensures.value in
    subst (λ (x : ColumnSum). IfOk c.plus_accepted.result (λ sum. sum ≡ x))
    (three_lists s c.new.result c.in_ok-allowed.allowed c.plus_room-roomy.result _
    (λ f. allowance part p f c.args.row 0) (λ f. room part b f) (λ f. accepted part s.flows f c.args.row)
    (factors c.of_buffer-scale.result) (factors c.of_buffer-scale.result) (factors c.opposite-opposite.result) k k (opposite k)
    c.new.ensures c.in_ok-allowed.ensures.value (c.plus_room-roomy.ensures s) refl
    scale scale (c.opposite-opposite.ensures.value ∙ ap opposite scale))
    c.plus_accepted.ensures.value
