use Rattle.std.proofs.Common.{◌∙◌, ap, ◌∷◌, [], arith}
use Rattle.weighing.specs.Weighed.{times}
use Rattle.run_rows.specs.Runs.{served}
use Rattle.run_rows.specs.declared.rows.FlowRow.{FlowRow}
use Rattle.path_server.proofs.Flows.{one_more_flow, one_term}
use Rattle.path_server.proofs.entries.plus_service.Goals as goal

pub loop-index-preserved : goal.loop-index-preserved
loop-index-preserved c =
    one_more_flow c.args.start c.loop-index.weighing c.plus_all-weighing.result
    (λ f. times c.args.scale.now.unit (served c.args.run.now c.args.row f) ∷ [])
    c.loop-index.index c.loop-index.invariant
    (c.plus_all-weighing.ensures.exact ∙ one_term c.loop-index.weighing c.args.scale.now.unit c.flow-now.result.now.s _
    (omega (arith, c.requires.scale_in.unit_to)) (c.flow-now.ensures.within c.requires.run_in).bounded.s_in
    (ap (λ (e : FlowRow). e.s) c.flow-now.ensures.value))
