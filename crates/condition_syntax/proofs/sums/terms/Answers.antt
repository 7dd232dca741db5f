use Rattle.std.proofs.Common.{List, ap, sym, ◌∙◌, Ok}
use Rattle.std.proofs.lemmas.Result.{err_from_is_err_and}
use Rattle.condition_syntax.specs.declared.expressions.ETerm.{ETerm}
use Rattle.condition_syntax.specs.Expressions.{terms_by}
use Rattle.condition_syntax.proofs.TermLoop.{terms_go_on, terms_end, terms_fail, terms_full}
use Rattle.condition_syntax.proofs.sums.terms.Goals as goal

pub returns-in_err-term-clause-exact : goal.returns-in_err-term-clause-exact
returns-in_err-term-clause-exact c =
    let p = err_from_is_err_and c.from_residual.result c.from_residual.ensures.1 in
    rw (p.1, p.2)
    (terms_fail c.args.style c.loop-i._i c.loop-i.negative c.loop-i.terms c.loop-i.cursor.tokens (terms_by c.args.style 16 c.args.negative c.args.cursor.now.tokens) c.loop-i.invariant.told
    c.in_err-term.field-0.0 c.loop-i-test.true c.in_err-term.ensures.exact)

pub returns-in-None-clause-exact : goal.returns-in-None-clause-exact
returns-in-None-clause-exact c =
    terms_end c.args.style c.loop-i._i c.loop-i.negative c.loop-i.terms c.loop-i.cursor.tokens (terms_by c.args.style 16 c.args.negative c.args.cursor.now.tokens) c.loop-i.invariant.told
    c.in_ok-term.term c.term.new.cursor.tokens c.loop-i-test.true c.in_ok-term.ensures.exact (sym c.in-None.ensures)
    ∙ ap (λ (ts : List ETerm). Ok (ts, c.term.new.cursor.tokens)) (sym c.in_ok-push.ensures.ok)

pub loop-i-preserved : goal.loop-i-preserved
loop-i-preserved c = record {
  told = rw (c.in_ok-push.ensures.ok, c.advance.ensures)
      (terms_go_on c.args.style c.loop-i._i c.loop-i.negative c.loop-i.terms c.loop-i.cursor.tokens (terms_by c.args.style 16 c.args.negative c.args.cursor.now.tokens) c.loop-i.invariant.told
      c.in_ok-term.term c.term.new.cursor.tokens c.in-Some.next c.loop-i-test.true c.in_ok-term.ensures.exact (sym c.in-Some.ensures));
  line = cc;
}

pub returns-clause-exact : goal.returns-clause-exact
returns-clause-exact c =
    rw c.extra_term.ensures
    (terms_full c.args.style c.loop-i._i c.loop-i.negative c.loop-i.terms c.loop-i.cursor.tokens (terms_by c.args.style 16 c.args.negative c.args.cursor.now.tokens) c.loop-i.invariant.told
    c.loop-i-test.false)
