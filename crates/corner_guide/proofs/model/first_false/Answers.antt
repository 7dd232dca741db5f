use Rattle.std.proofs.Common.{◌∙◌, subst, sym, take, get_or}
use Rattle.std.proofs.lemmas.List.{take_more}
use Rattle.clause_form.specs.Models.{HasTrue, Satisfies}
use Rattle.clause_search.specs.Answers.{truth_in}
use Rattle.corner_guide.proofs.TruthLaws.{satisfies_more}
use Rattle.corner_guide.proofs.model.first_false.Goals as goal

pub loop-clause-preserved : goal.loop-clause-preserved
loop-clause-preserved c =
    subst (Satisfies (truth_in c.args.truths.now)) (sym (take_more c.args.clauses.now c.loop-clause.clause-index c.clause-item.result c.loop-clause-test.true))
    (satisfies_more (truth_in c.args.truths.now) (take c.loop-clause.clause-index c.args.clauses.now) (get_or c.args.clauses.now c.loop-clause.clause-index c.clause-item.result)
    c.loop-clause.invariant
    (subst (HasTrue (truth_in c.args.truths.now)) (c.as_slice.ensures ∙ c.clause-item.is) (c.has_true.ensures c.if-not-has_true.false)))
