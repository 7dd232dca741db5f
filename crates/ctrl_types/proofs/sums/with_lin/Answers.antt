use Rattle.std.proofs.Common.{List, map, pos, ◌∙◌, ap}
use Rattle.ctrl_types.specs.declared.expressions.LinTerm.{LinTerm}
use Rattle.ctrl_types.specs.declared.expressions.Source.TheVariants.{One}
use Rattle.ctrl_types.specs.Denominators.{with_numbers}
use Rattle.ctrl_types.specs.Resolving.{with_lin}
use Rattle.ctrl_types.proofs.LoopLaws.{numbers_go_on, numbers_end}
use Rattle.ctrl_types.proofs.sums.with_lin.Goals as goal

abbrev none : LinTerm
none = record { coef = record { num = pos 0; den = pos 0 }; of = One }

pub loop-term-preserved : goal.loop-term-preserved
loop-term-preserved c = record {
  told = numbers_go_on c.as_slice-term-items.result.now c.loop-term.term-index none c.loop-term.common c.with_number-common.result
      (with_numbers c.args.den (map (λ (t : LinTerm). t.coef) c.as_slice-term-items.result.now)) c.loop-term-test.true c.with_number-common.ensures.exact c.loop-term.invariant.told;
  within = c.with_number-common.ensures.within;
}

pub returns-clause-exact : goal.returns-clause-exact
unfolding with_lin
returns-clause-exact c =
    numbers_end c.as_slice-term-items.result.now c.loop-term.term-index c.loop-term.common
    (with_numbers c.args.den (map (λ (t : LinTerm). t.coef) c.as_slice-term-items.result.now)) c.loop-term-test.false c.loop-term.invariant.told
    ∙ ap (λ (ts : List LinTerm). with_numbers c.args.den (map (λ (t : LinTerm). t.coef) ts)) c.as_slice-term-items.ensures
