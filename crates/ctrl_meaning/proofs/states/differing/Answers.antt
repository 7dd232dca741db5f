use Rattle.std.proofs.Common.{◌∙◌, ap, sym, false, Ok, Result, Option, ℕ, ◌<◌, length, arith}
use Rattle.std.proofs.lemmas.Result.{err_from_is_err_and}
use Rattle.whole.specs.declared.answers.Stuck.{Stuck}
use Rattle.weighing.proofs.QueryLaws.{asked_more, asked_none, asked_stops}
use Rattle.ctrl_meaning.specs.Steps.{differing, set_outcome}
use Rattle.ctrl_meaning.proofs.Questions.{set_asked, sets_are}
use Rattle.ctrl_meaning.proofs.states.differing.Goals as goal

pub loop-state-init : goal.loop-state-init
loop-state-init c = asked_none false (set_outcome c.args.controller.now c.args.run.now c.args.at.now c.args.rule)

pub returns-in_err-holds : goal.returns-in_err-holds
unfolding differing
returns-in_err-holds c =
    let p = err_from_is_err_and c.from_residual.result c.from_residual.ensures.1 in
    let among : c.args.rule < length c.as_slice.result.now = omega (arith, c.requires.rule_in, ap length c.as_slice.ensures) in
    let sets = sets_are c.args.controller.now c.args.rule c.as_slice.result.now c.index-as_slice-rule.result c.as_slice-sets.result.now
    c.as_slice.ensures among c.as_slice-sets.ensures in
    let inside : c.loop-state.state < length c.args.controller.now.states = omega (arith, c.loop-state-test.true, c.len-state-end.ensures) in
    let asks = set_asked c.args.controller.now c.args.run.now c.args.at.now c.args.rule c.loop-state.state c.as_slice.result.now
    c.index-as_slice-rule.result c.as_slice-sets.result.now c.index-sets-state.result c.is_set.result c.as_slice.ensures among
    c.as_slice-sets.ensures (omega (arith, inside, ap length sets, c.requires.can.places c.args.rule c.requires.rule_in))
    c.index-sets-state.is c.is_set.ensures in
    rw (p.1, p.2) (sym (asked_stops false (set_outcome c.args.controller.now c.args.run.now c.args.at.now c.args.rule) _ c.loop-state.state
    (length c.args.controller.now.states) c.loop-state.found c.loop-state.invariant (sym asks ∙ c.in_err-holds.was) inside))

pub loop-state-preserved : goal.loop-state-preserved
loop-state-preserved c =
    let among : c.args.rule < length c.as_slice.result.now = omega (arith, c.requires.rule_in, ap length c.as_slice.ensures) in
    let sets = sets_are c.args.controller.now c.args.rule c.as_slice.result.now c.index-as_slice-rule.result c.as_slice-sets.result.now
    c.as_slice.ensures among c.as_slice-sets.ensures in
    let inside : c.loop-state.state < length c.args.controller.now.states = omega (arith, c.loop-state-test.true, c.len-state-end.ensures) in
    let asks = set_asked c.args.controller.now c.args.run.now c.args.at.now c.args.rule c.loop-state.state c.as_slice.result.now
    c.index-as_slice-rule.result c.as_slice-sets.result.now c.index-sets-state.result c.is_set.result c.as_slice.ensures among
    c.as_slice-sets.ensures (omega (arith, inside, ap length sets, c.requires.can.places c.args.rule c.requires.rule_in))
    c.index-sets-state.is c.is_set.ensures in
    asked_more false (set_outcome c.args.controller.now c.args.run.now c.args.at.now c.args.rule) c.loop-state.state
    c.loop-state.found c.in_ok-holds.holds c.loop-state.invariant (sym asks ∙ c.in_ok-holds.was)
    ∙ ap (λ o. let r : Result (Option ℕ) Stuck = Ok o in r) (sym c.noted-found.ensures)
