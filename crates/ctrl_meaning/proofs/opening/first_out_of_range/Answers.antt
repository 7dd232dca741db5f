use Rattle.std.proofs.Common.{◌∙◌, ap, sym, false, Ok, Result, Option, ℕ, length, arith}
use Rattle.std.proofs.lemmas.Result.{err_from_is_err_and}
use Rattle.whole.specs.declared.answers.Stuck.{Stuck}
use Rattle.weighing.proofs.QueryLaws.{asked_more, asked_none, asked_stops}
use Rattle.ctrl_meaning.specs.Opening.{state_in_range}
use Rattle.ctrl_meaning.proofs.Questions.{range_asked}
use Rattle.ctrl_meaning.proofs.opening.first_out_of_range.Goals as goal

pub loop-state-init : goal.loop-state-init
loop-state-init c = asked_none false (state_in_range c.args.controller.now c.args.run.now c.args.row c.args.flow)

pub returns-in_err-holds : goal.returns-in_err-holds
returns-in_err-holds c =
    let p = err_from_is_err_and c.from_residual.result c.from_residual.ensures.1 in
    let asks = range_asked c.args.controller.now c.args.run.now c.args.row c.args.flow c.loop-state.state c.as_slice.result.now
    c.index-as_slice-state.result c.state-value.result c.is_in_range.result c.as_slice.ensures
    (omega (arith, c.loop-state-test.true, c.len-state-end.ensures, ap length c.as_slice.ensures))
    c.index-as_slice-state.is (c.state-value.ensures.within c.requires.run_in) c.state-value.ensures.value
    c.requires.run_in.fits.bounded.over_in c.is_in_range.ensures in
    rw (p.1, p.2) (sym (asked_stops false (state_in_range c.args.controller.now c.args.run.now c.args.row c.args.flow) _ c.loop-state.state
    (length c.args.controller.now.states) c.loop-state.found c.loop-state.invariant (sym asks ∙ c.in_err-holds.was)
    (omega (arith, c.loop-state-test.true, c.len-state-end.ensures))))

pub loop-state-preserved : goal.loop-state-preserved
loop-state-preserved c =
    let asks = range_asked c.args.controller.now c.args.run.now c.args.row c.args.flow c.loop-state.state c.as_slice.result.now
    c.index-as_slice-state.result c.state-value.result c.is_in_range.result c.as_slice.ensures
    (omega (arith, c.loop-state-test.true, c.len-state-end.ensures, ap length c.as_slice.ensures))
    c.index-as_slice-state.is (c.state-value.ensures.within c.requires.run_in) c.state-value.ensures.value
    c.requires.run_in.fits.bounded.over_in c.is_in_range.ensures in
    asked_more false (state_in_range c.args.controller.now c.args.run.now c.args.row c.args.flow) c.loop-state.state
    c.loop-state.found c.in_ok-holds.holds c.loop-state.invariant (sym asks ∙ c.in_ok-holds.was)
    ∙ ap (λ o. let r : Result (Option ℕ) Stuck = Ok o in r) (sym c.noted-found.ensures)
