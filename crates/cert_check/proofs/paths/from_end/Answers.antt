use Rattle.std.proofs.Common.{length, ◌-◌, ◌<◌, arith}
use Rattle.std.proofs.lemmas.Option.{slice_get-get_or}
use Rattle.cert_check.proofs.paths.from_end.Goals as goal

pub returns : goal.returns
returns c =
    let here : length c.args.lits.now - 1 - c.args.i < length c.args.lits.now = omega arith in
    slice_get-get_or c.args.lits.now (length c.args.lits.now - 1 - c.args.i) _ here
