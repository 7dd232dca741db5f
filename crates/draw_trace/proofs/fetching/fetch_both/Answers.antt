use Rattle.std.proofs.lemmas.Result.{err_from_is_err_and}
use Rattle.draw_trace.proofs.FetchLaws.{both_fetched, first_ends, second_ends}
use Rattle.draw_trace.proofs.fetching.fetch_both.Goals as goal

pub returns-in_err-question-clause-halted : goal.returns-in_err-question-clause-halted
returns-in_err-question-clause-halted g c =
    let p = err_from_is_err_and c.from_residual.result c.from_residual.ensures.1 in
    rw (p.1, p.2) (first_ends _ _ _ _ _ c.in_err-question.ensures.halted)

pub returns-in_err-trace-clause-halted : goal.returns-in_err-trace-clause-halted
returns-in_err-trace-clause-halted g c =
    let p = err_from_is_err_and c.from_residual-in_err-trace.result c.from_residual-in_err-trace.ensures.1 in
    rw (p.1, p.2) (second_ends _ _ _ _ _ _ _ c.fetch.ensures.later c.in_ok-question.ensures.found c.in_err-trace.ensures.halted)

pub returns-clause-found : goal.returns-clause-found
returns-clause-found g c =
    both_fetched _ _ _ _ _ _ c.fetch.ensures.later c.in_ok-question.ensures.found c.in_ok-trace.ensures.found
