use Rattle.std.proofs.Common.{◌≡◌, ◌∙◌, ◌+◌, ap, arith}
use Rattle.claims.specs.Columns.{flow_made}
use Rattle.linear_form.specs.Sums.{entry}
use Rattle.unroll.proofs.RunLaws.{one_more_made}
use Rattle.unroll.proofs.runs.flows.Goals as goal

pub loop-index-preserved : goal.loop-index-preserved
loop-index-preserved c =
    let made = flow_made c.args.shape.now (entry c.args.values.now) c.args.row in
    one_more_made made 1 c.loop-index.index c.loop-index.flows.items c.push.new.self.items c.in_ok-one_flow.field-0 c.loop-index.invariant
    (c.in_ok-one_flow.ensures ∙ ap made (let e : c.loop-index.index + 1 ≡ 1 + c.loop-index.index = omega arith in e)) c.in_ok-push.ensures.items
