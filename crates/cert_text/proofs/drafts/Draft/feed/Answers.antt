use Rattle.std.proofs.lemmas.Result.{err_from_is_err_and}
use Rattle.cert_text.specs.Tables.{line_numbers}
use Rattle.cert_text.proofs.DraftLaws.{fed_by, fed_fails}
use Rattle.cert_text.proofs.drafts.Draft.feed.Goals as goal

pub returns-in_err-found : goal.returns-in_err-found
returns-in_err-found c =
    let p = err_from_is_err_and c.from_residual.result c.from_residual.ensures.1 in
    rw (p.1, p.2) (fed_fails c.args.self.now c.args.number c.args.line.now c.in_err-found.field-0.0 c.in_err-found.ensures.exact)

pub returns : goal.returns
returns c =
    fed_by c.args.self.now c.take.new.self c.args.number c.args.line.now (line_numbers c.args.self.now.want c.in_ok-found.found) c.in_ok-found.ensures.exact c.in_ok-take.ensures
