use Rattle.std.specs.Prelude.{[]}
use Rattle.claims.specs.Subjects.{part}
use Rattle.ctrl_meaning.specs.Flows.{opening_claims}
use Rattle.unroll.proofs.TreeFormulas.{adds_flow}
use Rattle.unroll.proofs.flow_rows.opening_row.Goals as goal

pub loop-index-preserved : goal.loop-index-preserved
loop-index-preserved c =
    adds_flow c.args.shape.now [] c.loop-index.formulas.items c.in_ok-formulas.formulas.items (opening_claims part c.args.controller.now c.args.row) c.loop-index.index
    c.loop-index.invariant c.in_ok-formulas.ensures
