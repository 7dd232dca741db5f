use Rattle.std.proofs.Common.{ap, ◌∙◌}
use Rattle.ctrl_types.specs.Denominators.{with_numbers}
use Rattle.ctrl_types.specs.Statements.{coefs}
use Rattle.question_text.proofs.DenominatorLaws.{terms_go_on, terms_end}
use Rattle.question_text.proofs.denominators.with_expr.Goals as goal

pub loop-term-preserved : goal.loop-term-preserved
loop-term-preserved c = record {
  told = terms_go_on c.as_slice-term-items.result.now c.loop-term.term-index c.term-item.result c.loop-term.common c.with_number-common.result _
      c.term-item.is c.loop-term-test.true c.with_number-common.ensures.exact c.loop-term.invariant.told;
  within = c.with_number-common.ensures.within;
}

pub returns-clause-exact : goal.returns-clause-exact
returns-clause-exact c =
    terms_end c.as_slice-term-items.result.now c.loop-term.term-index c.loop-term.common (with_numbers c.args.den (coefs c.as_slice-term-items.result.now))
    c.loop-term-test.false c.loop-term.invariant.told
    ∙ ap (λ ts. with_numbers c.args.den (coefs ts)) c.as_slice-term-items.ensures
