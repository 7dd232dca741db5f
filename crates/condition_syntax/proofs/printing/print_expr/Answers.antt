use Rattle.condition_syntax.proofs.Exactness.{expr_is_printed}
use Rattle.condition_syntax.proofs.printing.print_expr.Goals as goal

pub returns-clause-again : goal.returns-clause-again
returns-clause-again c = λ style front spelled from. expr_is_printed style front c.args.expr.now.terms c.expr_bytes.result c.expr_bytes.ensures spelled from
