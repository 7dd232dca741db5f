use Rattle.run_rows.specs.Runs.{flow_count}
use Rattle.claims.specs.Subjects.{in_run}
use Rattle.std.proofs.Common.{◌∙◌, ap, pos, get_or}
use Rattle.weighing.specs.Weighed.{weighed_from}
use Rattle.claim_values.proofs.Sums.{factor_is, piece_more}
use Rattle.question_text.specs.declared.conditions.QTerm.{QTerm}
use Rattle.question_text.specs.declared.conditions.Of.TheVariants.{One}
use Rattle.question_text.specs.Expressions.{lin_terms, term_terms}
use Rattle.question_text.specs.NameMeanings.{of_terms}
use Rattle.question_text.proofs.expressions.plus_lin.Goals as goal

abbrev none : QTerm
none = record { coef = record { num = pos 0; den = pos 0 }; of = One }

pub loop-term-preserved : goal.loop-term-preserved
loop-term-preserved c =
    let ts = c.as_slice-term-items.result.now in
    let t : QTerm = get_or ts c.loop-term.term-index none in
    piece_more (term_terms (in_run c.args.run.now) (flow_count c.args.run.now 0) c.args.at.now c.args.side c.args.scale) c.loop-term.weighing c.plus_of-weighing.result
    (weighed_from c.args.start (lin_terms (in_run c.args.run.now) (flow_count c.args.run.now 0) c.args.at.now c.args.side c.args.scale ts)) ts c.loop-term.term-index none
    c.loop-term-test.true c.loop-term.invariant
    (c.plus_of-weighing.ensures
    ∙ ap (λ k. weighed_from c.loop-term.weighing (of_terms (in_run c.args.run.now) (flow_count c.args.run.now 0) c.args.at.now k t.of))
    (factor_is c.scaled-factor.result _ c.scaled-factor.ensures.size c.scaled-factor.ensures.value))
