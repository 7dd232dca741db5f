use Rattle.std.proofs.Common.{◌∙◌, ap, ◌∷◌, [], arith}
use Rattle.weighing.specs.Weighed.{times}
use Rattle.run_rows.specs.Runs.{arrived, lost}
use Rattle.run_rows.specs.declared.rows.FlowRow.{FlowRow}
use Rattle.path_server.proofs.Flows.{one_more_flow, two_terms}
use Rattle.path_server.proofs.entries.plus_accepted.Goals as goal

pub loop-index-preserved : goal.loop-index-preserved
loop-index-preserved c =
    one_more_flow c.args.start c.loop-index.weighing c.plus_all-weighing.result
    (λ f. times c.args.scale.now.unit (arrived c.args.run.now c.args.row f) ∷ times c.args.scale.now.minus (lost c.args.run.now c.args.row f) ∷ [])
    c.loop-index.index c.loop-index.invariant
    (c.plus_all-weighing.ensures.exact ∙ two_terms c.loop-index.weighing
    c.args.scale.now.unit c.flow-now.result.now.a _ c.args.scale.now.minus c.flow-now.result.now.l _
    (omega (arith, c.requires.scale_in.unit_to)) (c.flow-now.ensures.within c.requires.run_in).bounded.a_in
    (ap (λ (e : FlowRow). e.a) c.flow-now.ensures.value)
    (omega (arith, c.requires.scale_in.minus_to)) (c.flow-now.ensures.within c.requires.run_in).bounded.l_in
    (ap (λ (e : FlowRow). e.l) c.flow-now.ensures.value))
