use Rattle.std.proofs.Common.{◌∙◌, ap, pos, get_or, arith}
use Rattle.claims.specs.Subjects.{part}
use Rattle.ctrl_types.specs.declared.expressions.LinTerm.{LinTerm}
use Rattle.ctrl_types.specs.declared.expressions.Source.TheVariants.{One}
use Rattle.ctrl_meaning.specs.Expressions.{lin_terms, source_terms, term_terms}
use Rattle.unroll.specs.Sums.{with_parts}
use Rattle.unroll.proofs.PartSums.{given_is, piece_more}
use Rattle.unroll.proofs.sums.Sum.plus_lin.Goals as goal

abbrev none : LinTerm
none = record { coef = record { num = pos 0; den = pos 0 }; of = One }

pub loop-term-preserved : goal.loop-term-preserved
loop-term-preserved c =
    let s = c.args.shape.now in
    let ts = c.as_slice-term-items.result.now in
    let t : LinTerm = get_or ts c.loop-term.term-index none in
    let made = c.in_ok-sum.ensures in
    let size = made.constant in
    let so_far = c.loop-term.invariant.1 in (
      piece_more s (term_terms part c.args.at.now c.args.side c.args.scale) c.loop-term.sum c.in_ok-sum.sum
          (with_parts s c.args.self (lin_terms part c.args.at.now c.args.side c.args.scale ts)) ts c.loop-term.term-index none c.loop-term-test.true c.loop-term.invariant.0
          (made.value ∙ ap (λ k. with_parts s c.loop-term.sum (source_terms part c.args.at.now k t.of))
          (given_is c.scaled-factor.result _ c.scaled-factor.ensures.size c.scaled-factor.ensures.value)),
      omega (arith, size, so_far),
    )
