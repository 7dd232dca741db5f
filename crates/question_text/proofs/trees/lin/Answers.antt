use Rattle.std.proofs.Common.{ap, sym, ◌∙◌, Err}
use Rattle.question_text.specs.NamedValues.{term_meant}
use Rattle.question_text.proofs.FoundLoop.{goes_on, stops, ends}
use Rattle.question_text.proofs.TreeLaws.{lin_found, lin_missing, term_found, term_missing}
use Rattle.question_text.proofs.trees.lin.Goals as goal

pub returns-in-None : goal.returns-in-None
returns-in-None c =
    lin_missing c.args.states.now c.args.setting.now c.args.expr.now c.args.line c.as_slice-term-items.result.now c.as_slice-term-items.ensures
    (stops (term_meant c.args.states.now c.args.setting.now) c.as_slice-term-items.result.now c.loop-term.term-index c.loop-term.terms _ c.loop-term.invariant
    c.term-item.result c.term-item.is c.loop-term-test.true (term_missing c.args.states.now c.args.setting.now c.term-item.result c.in-None.ensures))
    ∙ ap (λ r. Err r) (sym c.refusal.ensures)

pub loop-term-preserved : goal.loop-term-preserved
loop-term-preserved c =
    rw c.in_ok-push.ensures.ok
    (goes_on (term_meant c.args.states.now c.args.setting.now) c.as_slice-term-items.result.now c.loop-term.term-index c.loop-term.terms _ c.loop-term.invariant
    c.term-item.result _ c.term-item.is c.loop-term-test.true (term_found c.args.states.now c.args.setting.now c.term-item.result c.in-Some.of c.in-Some.ensures))

pub returns : goal.returns
returns c =
    lin_found c.args.states.now c.args.setting.now c.args.expr.now c.args.line c.as_slice-term-items.result.now c.loop-term.terms c.as_slice-term-items.ensures
    (ends (term_meant c.args.states.now c.args.setting.now) c.as_slice-term-items.result.now c.loop-term.term-index c.loop-term.terms _ c.loop-term.invariant c.loop-term-test.false)
