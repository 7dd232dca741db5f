use Rattle.std.proofs.Common.{◌≡◌, ◌∙◌, sym, subst, arith, Ok, length}
use Rattle.std.proofs.lemmas.Result.{err_from_is_err_and}
use Rattle.weighing.specs.First.{below, first}
use Rattle.weighing.proofs.Events.{first-flat_map, first_more, first_stops}
use Rattle.trace_replay.specs.Replaying.{found, places_of_row, places_of_rows}
use Rattle.trace_replay.proofs.fitted.FittedRun.examine_rows.Goals as goal

pub returns-in_err-examine_row : goal.returns-in_err-examine_row
unfolding places_of_rows
returns-in_err-examine_row c =
    let p = err_from_is_err_and c.from_residual.result c.from_residual.ensures.1 in
    let f = found c.args.self.controller.now c.args.self.question.now c.args.self.run.now in
    let g = places_of_row c.args.self.controller.now c.args.self.question.now c.args.self.run.now in
    rw (p.1, p.2) (sym (first-flat_map f g (below (length c.args.self.run.now.rows))
    ∙ first_stops (λ i. first f (g i)) _ c.loop-row.row (length c.args.self.run.now.rows)
    c.loop-row.invariant (sym c.examine_row.ensures ∙ c.in_err-examine_row.was) (omega (arith, c.loop-row-test.true, c.row_count-row-end.ensures))))

pub loop-row-preserved : goal.loop-row-preserved
loop-row-preserved c =
    first_more (λ i. first (found c.args.self.controller.now c.args.self.question.now c.args.self.run.now)
    (places_of_row c.args.self.controller.now c.args.self.question.now c.args.self.run.now i)) c.loop-row.row
    c.loop-row.invariant (sym c.examine_row.ensures ∙ c.in_ok-examine_row.was)

pub returns : goal.returns
unfolding places_of_rows
returns c =
    let f = found c.args.self.controller.now c.args.self.question.now c.args.self.run.now in
    let g = places_of_row c.args.self.controller.now c.args.self.question.now c.args.self.run.now in
    let all : c.loop-row.row ≡ length c.args.self.run.now.rows = omega (arith, c.loop-row-test.false, c.row_count-row-end.ensures) in
    sym (first-flat_map f g (below (length c.args.self.run.now.rows))
    ∙ subst (λ n. first (λ i. first f (g i)) (below n) ≡ Ok tt) all c.loop-row.invariant)
