use Rattle.std.proofs.Common.{◌∙◌, ap, ◌∷◌, [], pos, negsuc, arith}
use Rattle.weighing.specs.Weighed.{times}
use Rattle.run_rows.specs.Runs.{lost}
use Rattle.run_rows.specs.declared.rows.FlowRow.{FlowRow}
use Rattle.path_server.proofs.Flows.{one_more_flow, two_terms}
use Rattle.path_server.proofs.entries.plus_new_losses.Goals as goal

pub loop-index-preserved : goal.loop-index-preserved
loop-index-preserved c =
    one_more_flow c.args.start c.loop-index.weighing c.plus_all-weighing.result
    (λ f. times (pos 1) (lost c.args.run.now c.args.row f) ∷ times (negsuc 0) (lost c.args.run.now c.args.before f) ∷ [])
    c.loop-index.index c.loop-index.invariant
    (c.plus_all-weighing.ensures.exact ∙ two_terms c.loop-index.weighing (pos 1) c.flow-new.result.now.l _ (negsuc 0) c.flow-old.result.now.l _
    (omega arith) (c.flow-new.ensures.within c.requires.run_in).bounded.l_in (ap (λ (e : FlowRow). e.l) c.flow-new.ensures.value)
    (omega arith) (c.flow-old.ensures.within c.requires.run_in).bounded.l_in (ap (λ (e : FlowRow). e.l) c.flow-old.ensures.value))
