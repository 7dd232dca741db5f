use Rattle.std.proofs.Common.{◌≡◌, ◌∙◌, ◌+◌, ap, arith}
use Rattle.claims.specs.Columns.{row_made}
use Rattle.linear_form.specs.Sums.{entry}
use Rattle.unroll.proofs.RunLaws.{one_more_made}
use Rattle.unroll.proofs.runs.rows.Goals as goal

pub loop-row-preserved : goal.loop-row-preserved
loop-row-preserved c =
    let made = row_made c.args.shape.now (entry c.args.values.now) in
    one_more_made made 0 c.loop-row.row c.loop-row.rows.items c.push.new.self.items c.in_ok-one_row.field-0 c.loop-row.invariant
    (c.in_ok-one_row.ensures ∙ ap made (let e : c.loop-row.row ≡ 0 + c.loop-row.row = omega arith in e)) c.in_ok-push.ensures.items
