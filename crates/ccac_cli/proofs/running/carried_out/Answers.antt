use Rattle.std.proofs.lemmas.Result.{err_from_is_err_and}
use Rattle.ccac_cli.proofs.CarryLaws.{files_enough, order_settled, order_stops, texts_short, texts_taken}
use Rattle.ccac_cli.proofs.running.carried_out.Goals as goal

pub fetch_all-requires : goal.fetch_all-requires
fetch_all-requires g c = files_enough c.args.command c.entry.result c.entry.ensures _ c.requires

pub returns-in_err-texts : goal.returns-in_err-texts
returns-in_err-texts g c =
    let p = err_from_is_err_and c.from_residual.result c.from_residual.ensures.1 in
    rw (p.1, p.2) (order_stops c.args.command c.entry.result c.entry.ensures _ _ _ _ c.in_err-texts.ensures.halted)

pub answer-requires-clause-taken : goal.answer-requires-clause-taken
answer-requires-clause-taken g c =
    texts_taken _ c.args.command _ _ c.args.names.now _ _ c.in_ok-texts.ensures.found c.as_slice.ensures.value c.requires

pub answer-requires-clause-short : goal.answer-requires-clause-short
answer-requires-clause-short g c = texts_short _ _ _ _ _ c.in_ok-texts.ensures.found c.as_slice.ensures.value

pub returns : goal.returns
returns g c =
    order_settled c.args.command c.entry.result c.entry.ensures _ _ _ _ _ _ c.in_ok-texts.ensures.found c.as_slice.ensures.value c.answer.ensures
