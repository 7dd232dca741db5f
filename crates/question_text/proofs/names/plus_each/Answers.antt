use Rattle.std.proofs.Common.{◌∙◌, ap, ◌∷◌, []}
use Rattle.weighing.specs.Weighed.{added, times}
use Rattle.path_server.proofs.Flows.{one_more_flow}
use Rattle.claim_values.proofs.Sums.{entry_is, given}
use Rattle.question_text.specs.NameMeanings.{counted}
use Rattle.question_text.proofs.names.plus_each.Goals as goal

pub loop-index-preserved : goal.loop-index-preserved
loop-index-preserved c =
    one_more_flow c.args.start c.loop-index.weighing c.plus-weighing.result
    (λ f. times (given c.args.factor) (counted c.args.run.now c.args.count c.args.row f) ∷ [])
    c.loop-index.index c.loop-index.invariant
    (c.plus-weighing.ensures ∙ ap (λ y. added c.loop-index.weighing (given c.args.factor) y)
    (entry_is c.entry-number.result _ c.entry-number.ensures.within c.entry-number.ensures.value))
