use Rattle.std.proofs.lemmas.Result.{err_from_is_err_and}
use Rattle.line_tables.specs.Tables.{rule_of, rules_of}
use Rattle.line_tables.proofs.RowLaws.{row_read, word_fails, row_fails}
use Rattle.line_tables.proofs.rows.row_of.Goals as goal

pub returns-in_err-at-clause-exact : goal.returns-in_err-at-clause-exact
returns-in_err-at-clause-exact c =
    let p = err_from_is_err_and c.from_residual.result c.from_residual.ensures.1 in
    rw (p.1, p.2) (word_fails (rules_of c.args.lines.now) c.requires c.args.spot c.args.fields.now c.in_err-at.field-0.0 (c.in_err-at.ensures.exact c.requires))

pub returns-in_err-numbers-clause-exact : goal.returns-in_err-numbers-clause-exact
returns-in_err-numbers-clause-exact c =
    let p = err_from_is_err_and c.from_residual-in_err-numbers.result c.from_residual-in_err-numbers.ensures.1 in
    rw (p.1, p.2)
    (row_fails c.in_err-numbers.field-0.0 (rules_of c.args.lines.now) c.requires c.args.spot c.in_ok-at.at (rule_of c.in_ok-at.line) c.args.fields.now c.take_word.new.fields (c.in_ok-at.ensures.exact c.requires) c.in_ok-at.ensures.line
    c.in_err-numbers.ensures.exact)

pub returns-clause-exact : goal.returns-clause-exact
returns-clause-exact c =
    row_read (rules_of c.args.lines.now) c.requires c.args.spot c.in_ok-at.at (rule_of c.in_ok-at.line) c.args.fields.now c.take_word.new.fields c.in_ok-numbers.numbers (c.in_ok-at.ensures.exact c.requires) c.in_ok-at.ensures.line
    c.in_ok-numbers.ensures.exact
