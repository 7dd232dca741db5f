use Rattle.std.proofs.Common.{get_or}
use Rattle.cert_check.proofs.SumLaws.{none_term, product_fits, product_passed, adding_loop, adding_done}
use Rattle.cert_check.proofs.sums.Sums.add_terms.Goals as goal

pub overflow_mul-factor : goal.overflow_mul-factor
overflow_mul-factor c =
    product_fits c.args.factor (get_or c.args.terms.now c.loop-term.term-index none_term).coef c.requires.factor (c.requires.small c.loop-term.term-index none_term c.loop-term-test.true)

pub add-requires-clause-number : goal.add-requires-clause-number
add-requires-clause-number c =
    product_passed c.args.factor (get_or c.args.terms.now c.loop-term.term-index none_term).coef c.requires.factor (c.requires.small c.loop-term.term-index none_term c.loop-term-test.true)

pub loop-term-preserved : goal.loop-term-preserved
loop-term-preserved c =
    adding_loop c.args.mult c.args.factor c.args.terms.now c.args.self.now c.loop-term.term-index c.loop-term.self c.add.new.self c.loop-term-test.true c.requires.columns c.requires.small c.requires.factor c.loop-term.invariant c.add.ensures.sums c.add.ensures.within

pub returns-clause-sums : goal.returns-clause-sums
returns-clause-sums c =
    adding_done c.args.mult c.args.factor c.args.terms.now c.args.self.now c.loop-term.term-index c.loop-term.self c.loop-term-test.false c.requires.mult c.requires.factor c.loop-term.invariant
