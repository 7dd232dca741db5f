use Rattle.condition_syntax.specs.Expressions.{expr_by}
use Rattle.condition_syntax.proofs.Exactness.{halt_fails}
use Rattle.condition_syntax.proofs.reading.whole_expr.Goals as goal

pub returns-in-Err-clause-exact : goal.returns-in-Err-clause-exact
returns-in-Err-clause-exact c =
    rw (c.read_fault.ensures, c.number-line.ensures) (halt_fails c.args.style c.args.cursor.now.line c.in-Err.halt (expr_by c.args.style c.args.cursor.now.tokens) c.in-Err.ensures.exact)
