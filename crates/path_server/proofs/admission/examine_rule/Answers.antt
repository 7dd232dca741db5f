use Rattle.std.proofs.Common.{◌≡◌, ◌∙◌, sym, subst, ◌+◌, arith, Ok}
use Rattle.std.proofs.lemmas.Result.{err_from_is_err_and}
use Rattle.weighing.specs.First.{below, first}
use Rattle.weighing.proofs.Events.{first-map, first_more, first_stops}
use Rattle.run_rows.specs.Runs.{flow_count}
use Rattle.path_server.specs.Places.{at_place, examined, places_of_rule}
use Rattle.path_server.proofs.admission.examine_rule.Goals as goal

pub returns-in_err-examine_place : goal.returns-in_err-examine_place
unfolding places_of_rule
returns-in_err-examine_place c =
    let p = err_from_is_err_and c.from_residual.result c.from_residual.ensures.1 in
    rw (p.1, p.2) (sym (first-map (examined c.args.path.now c.args.run.now) (at_place c.args.row c.args.rule) (below (flow_count c.args.run.now 0 + 1))
    ∙ first_stops (λ f. examined c.args.path.now c.args.run.now (at_place c.args.row c.args.rule f)) _ c.loop-flow.flow (flow_count c.args.run.now 0 + 1)
    c.loop-flow.invariant (sym c.examine_place.ensures ∙ c.in_err-examine_place.was)
    (omega (arith, c.loop-flow-test.true, c.flow_count-flow-end.ensures))))

pub loop-flow-preserved : goal.loop-flow-preserved
loop-flow-preserved c =
    first_more (λ f. examined c.args.path.now c.args.run.now (at_place c.args.row c.args.rule f)) c.loop-flow.flow
    c.loop-flow.invariant (sym c.examine_place.ensures ∙ c.in_ok-examine_place.was)

pub returns : goal.returns
unfolding places_of_rule
returns c =
    let all : c.loop-flow.flow ≡ flow_count c.args.run.now 0 + 1 = omega (arith, c.loop-flow-test.false, c.flow_count-flow-end.ensures) in
    sym (first-map (examined c.args.path.now c.args.run.now) (at_place c.args.row c.args.rule) (below (flow_count c.args.run.now 0 + 1))
    ∙ subst (λ n. first (λ f. examined c.args.path.now c.args.run.now (at_place c.args.row c.args.rule f)) (below n) ≡ Ok tt) all c.loop-flow.invariant)
