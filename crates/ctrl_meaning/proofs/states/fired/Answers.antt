use Rattle.std.proofs.Common.{◌∙◌, ap, sym, true, Ok, Result, Option, ℕ, ◌-◌, length, arith}
use Rattle.std.proofs.lemmas.Result.{err_from_is_err_and}
use Rattle.whole.specs.declared.answers.Stuck.{Stuck}
use Rattle.weighing.proofs.QueryLaws.{asked_more, asked_none, asked_stops}
use Rattle.ctrl_meaning.specs.Steps.{fired, firing, guard_outcome}
use Rattle.ctrl_meaning.proofs.Questions.{guard_asked}
use Rattle.ctrl_meaning.proofs.states.fired.Goals as goal

pub loop-rule-init : goal.loop-rule-init
loop-rule-init c = asked_none true (guard_outcome c.args.controller.now c.args.run.now c.args.at.now)

pub returns-in_err-holds : goal.returns-in_err-holds
unfolding fired
returns-in_err-holds c =
    let p = err_from_is_err_and c.from_residual.result c.from_residual.ensures.1 in
    let asks = guard_asked c.args.controller.now c.args.run.now c.args.at.now c.loop-rule.rule c.as_slice-rules.result.now
    c.index-rules-rule.result c.gate_holds.result c.as_slice-rules.ensures (omega (arith, c.loop-rule-test.true))
    c.gate_holds.ensures in
    rw (p.1, p.2) (sym (ap (firing (length c.args.controller.now.rules - 1))
    (asked_stops true (guard_outcome c.args.controller.now c.args.run.now c.args.at.now) _ c.loop-rule.rule
    (length c.args.controller.now.rules) c.loop-rule.found c.loop-rule.invariant (sym asks ∙ c.in_err-holds.was)
    (omega (arith, c.loop-rule-test.true, ap length c.as_slice-rules.ensures)))))

pub loop-rule-preserved : goal.loop-rule-preserved
loop-rule-preserved c =
    let asks = guard_asked c.args.controller.now c.args.run.now c.args.at.now c.loop-rule.rule c.as_slice-rules.result.now
    c.index-rules-rule.result c.gate_holds.result c.as_slice-rules.ensures (omega (arith, c.loop-rule-test.true))
    c.gate_holds.ensures in
    asked_more true (guard_outcome c.args.controller.now c.args.run.now c.args.at.now) c.loop-rule.rule
    c.loop-rule.found c.in_ok-holds.holds c.loop-rule.invariant (sym asks ∙ c.in_ok-holds.was)
    ∙ ap (λ o. let r : Result (Option ℕ) Stuck = Ok o in r) (sym c.noted-found.ensures)
