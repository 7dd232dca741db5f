use Rattle.std.proofs.Common.{◌≤◌, ◌∙◌, ap, sym, subst, pos, drop, ◌+◌}
use Rattle.std.specs.Prelude.{All}
use Rattle.question_text.specs.declared.conditions.QTerm.{QTerm}
use Rattle.question_text.specs.declared.conditions.Of.TheVariants.{One}
use Rattle.question_text.specs.Expressions.{HasNum, scale_with}
use Rattle.question_text.proofs.Scales.{scale_step}
use Rattle.unroll.proofs.name_sums.scale_with.Goals as goal

abbrev none : QTerm
none = record { coef = record { num = pos 0; den = pos 0 }; of = One }

pub with_denominator-scale-requires-clause-least_to : goal.with_denominator-scale-requires-clause-least_to
with_denominator-scale-requires-clause-least_to c =
    let same = sym c.as_slice-term-items.ensures in
    (scale_step c.loop-term.scale c.args.start c.as_slice-term-items.result.now c.loop-term.term-index none c.loop-term-test.true
    (subst (All HasNum) same c.requires.numbers_in) c.loop-term.invariant.1 c.loop-term.invariant.0
    (subst (λ ts. scale_with c.args.start ts ≤ 1000000) same c.requires.least_to)).least_to

pub loop-term-preserved : goal.loop-term-preserved
loop-term-preserved c =
    let same = sym c.as_slice-term-items.ensures in
    let more =
    scale_step c.loop-term.scale c.args.start c.as_slice-term-items.result.now c.loop-term.term-index none c.loop-term-test.true
    (subst (All HasNum) same c.requires.numbers_in) c.loop-term.invariant.1 c.loop-term.invariant.0
    (subst (λ ts. scale_with c.args.start ts ≤ 1000000) same c.requires.least_to) in (
      ap (λ s. scale_with s (drop (c.loop-term.term-index + 1) c.as_slice-term-items.result.now)) c.with_denominator-scale.ensures.exact ∙ more.next,
      subst (λ s. 1 ≤ s) (sym c.with_denominator-scale.ensures.exact) more.some,
    )
