use Rattle.claims.specs.Subjects.{in_run}
use Rattle.std.proofs.Common.{◌∙◌, ap, pos, get_or}
use Rattle.weighing.specs.Weighed.{weighed_from}
use Rattle.ctrl_types.specs.declared.expressions.LinTerm.{LinTerm}
use Rattle.ctrl_types.specs.declared.expressions.Source.TheVariants.{One}
use Rattle.ctrl_meaning.specs.Expressions.{lin_terms, source_terms, term_terms}
use Rattle.claim_values.proofs.Sums.{factor_is, piece_more}
use Rattle.ctrl_meaning.proofs.expressions.plus_lin.Goals as goal

abbrev none : LinTerm
none = record { coef = record { num = pos 0; den = pos 0 }; of = One }

pub loop-term-preserved : goal.loop-term-preserved
loop-term-preserved c =
    let ts = c.as_slice-term-items.result.now in
    let t : LinTerm = get_or ts c.loop-term.term-index none in
    piece_more (term_terms (in_run c.args.run.now) c.args.at.now c.args.side c.args.scale) c.loop-term.weighing c.plus_source-weighing.result
    (weighed_from c.args.start (lin_terms (in_run c.args.run.now) c.args.at.now c.args.side c.args.scale ts)) ts c.loop-term.term-index none
    c.loop-term-test.true c.loop-term.invariant
    (c.plus_source-weighing.ensures
    ∙ ap (λ k. weighed_from c.loop-term.weighing (source_terms (in_run c.args.run.now) c.args.at.now k t.of))
    (factor_is c.scaled-factor.result _ c.scaled-factor.ensures.size c.scaled-factor.ensures.value))
