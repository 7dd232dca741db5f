use Rattle.std.proofs.lemmas.Result.{err_from_is_err_and}
use Rattle.question_syntax.proofs.Exactness.{setting_same, fails_still}
use Rattle.question_syntax.proofs.reading.read_setting.Goals as goal

pub returns-clause-only : goal.returns-clause-only
returns-clause-only c s is = setting_same c.in_ok-read_syntax.field-0 s (c.in_ok-read_syntax.ensures.only s is)

pub returns-in_err-read_syntax-clause-only : goal.returns-in_err-read_syntax-clause-only
returns-in_err-read_syntax-clause-only c s is =
    let p = err_from_is_err_and c.from_residual.result c.from_residual.ensures.1 in
    rw (p.1, p.2) (fails_still c.in_err-read_syntax.field-0.0 s s.setting (c.in_err-read_syntax.ensures.only s is))
