use Rattle.std.proofs.lemmas.Result.{err_from_is_err_and}
use Rattle.question_text.proofs.LineLoop.{lines_go_on, lines_fail, lines_end}
use Rattle.question_text.proofs.lines.assumes.Goals as goal

pub returns-in_err-assume-clause-exact : goal.returns-in_err-assume-clause-exact
returns-in_err-assume-clause-exact c =
    let p = err_from_is_err_and c.from_residual.result c.from_residual.ensures.1 in
    rw (p.1, p.2)
    (lines_fail c.args.states.now c.args.setting.now c.args.lines.now c.loop-line.line-index c.loop-line.den c.loop-line.resolved _ c.loop-line.invariant.told
    c.line-item.result _ c.line-item.is c.loop-line-test.true c.in_err-assume.ensures.exact)

pub loop-line-preserved : goal.loop-line-preserved
loop-line-preserved c = record {
  told = lines_go_on c.args.states.now c.args.setting.now c.args.lines.now c.loop-line.line-index c.loop-line.den c.loop-line.resolved _ c.loop-line.invariant.told
      c.line-item.result c.in_ok-assume.assume c.wanted.new.den c.push.new.self c.line-item.is c.loop-line-test.true c.in_ok-assume.ensures.exact c.in_ok-push.ensures.ok;
  within = c.in_ok-assume.ensures.within;
}

pub returns-clause-exact : goal.returns-clause-exact
returns-clause-exact c =
    lines_end c.args.states.now c.args.setting.now c.args.lines.now c.loop-line.line-index c.loop-line.den c.loop-line.resolved _ c.loop-line.invariant.told c.loop-line-test.false
