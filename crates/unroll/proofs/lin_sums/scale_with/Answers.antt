use Rattle.std.proofs.Common.{◌≤◌, ◌∙◌, ap, sym, subst, pos, drop, ◌+◌}
use Rattle.std.specs.Prelude.{All}
use Rattle.ctrl_types.specs.declared.expressions.LinTerm.{LinTerm}
use Rattle.ctrl_types.specs.declared.expressions.Source.TheVariants.{One}
use Rattle.ctrl_meaning.specs.Expressions.{IsTerm, scale_with}
use Rattle.run_rows.specs.Runs.{state_count}
use Rattle.ctrl_meaning.proofs.Scales.{scale_step}
use Rattle.unroll.proofs.lin_sums.scale_with.Goals as goal

abbrev none : LinTerm
none = record { coef = record { num = pos 0; den = pos 0 }; of = One }

pub with_denominator-scale-requires-clause-least_to : goal.with_denominator-scale-requires-clause-least_to
with_denominator-scale-requires-clause-least_to c =
    let n = state_count c.args.shape.now c.args.at.now.states in
    let same = sym c.as_slice-term-items.ensures in
    (scale_step n c.loop-term.scale c.args.start c.as_slice-term-items.result.now c.loop-term.term-index none c.loop-term-test.true
    (subst (All (IsTerm n)) same c.requires.terms_in) c.loop-term.invariant.1 c.loop-term.invariant.0
    (subst (λ ts. scale_with c.args.start ts ≤ 1000000) same c.requires.least_to)).least_to

pub loop-term-preserved : goal.loop-term-preserved
loop-term-preserved c =
    let n = state_count c.args.shape.now c.args.at.now.states in
    let same = sym c.as_slice-term-items.ensures in
    let more =
    scale_step n c.loop-term.scale c.args.start c.as_slice-term-items.result.now c.loop-term.term-index none c.loop-term-test.true
    (subst (All (IsTerm n)) same c.requires.terms_in) c.loop-term.invariant.1 c.loop-term.invariant.0
    (subst (λ ts. scale_with c.args.start ts ≤ 1000000) same c.requires.least_to) in (
      ap (λ s. scale_with s (drop (c.loop-term.term-index + 1) c.as_slice-term-items.result.now)) c.with_denominator-scale.ensures.exact ∙ more.next,
      subst (λ s. 1 ≤ s) (sym c.with_denominator-scale.ensures.exact) more.some,
    )
