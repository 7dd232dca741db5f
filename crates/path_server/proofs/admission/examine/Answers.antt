use Rattle.std.proofs.Common.{◌≡◌, ◌∙◌, sym, subst, arith, Ok, length}
use Rattle.std.proofs.lemmas.Result.{err_from_is_err_and}
use Rattle.weighing.specs.First.{below, first}
use Rattle.weighing.proofs.Events.{first-flat_map, first_more, first_stops}
use Rattle.path_server.specs.Places.{examined, places, places_of_row}
use Rattle.path_server.proofs.admission.examine.Goals as goal

pub returns-in_err-examine_row : goal.returns-in_err-examine_row
unfolding places
returns-in_err-examine_row c =
    let p = err_from_is_err_and c.from_residual.result c.from_residual.ensures.1 in
    rw (p.1, p.2) (sym (first-flat_map (examined c.args.path.now c.args.run.now) (places_of_row c.args.run.now) (below (length c.args.run.now.rows))
    ∙ first_stops (λ i. first (examined c.args.path.now c.args.run.now) (places_of_row c.args.run.now i)) _ c.loop-row.row (length c.args.run.now.rows)
    c.loop-row.invariant (sym c.examine_row.ensures.exact ∙ c.in_err-examine_row.was)
    (omega (arith, c.loop-row-test.true, c.row_count-row-end.ensures))))

pub loop-row-preserved : goal.loop-row-preserved
loop-row-preserved c =
    first_more (λ i. first (examined c.args.path.now c.args.run.now) (places_of_row c.args.run.now i)) c.loop-row.row
    c.loop-row.invariant (sym c.examine_row.ensures.exact ∙ c.in_ok-examine_row.was)

pub returns : goal.returns
unfolding places
returns c =
    let all : c.loop-row.row ≡ length c.args.run.now.rows = omega (arith, c.loop-row-test.false, c.row_count-row-end.ensures) in
    sym (first-flat_map (examined c.args.path.now c.args.run.now) (places_of_row c.args.run.now) (below (length c.args.run.now.rows))
    ∙ subst (λ n. first (λ i. first (examined c.args.path.now c.args.run.now) (places_of_row c.args.run.now i)) (below n) ≡ Ok tt) all c.loop-row.invariant)
