use Rattle.condition_syntax.proofs.LimitLaws.{taken_expr_within}
use Rattle.condition_syntax.proofs.Exactness.{expr_is_taken, expr_is_read, expr_is_refused, expr_is_first}
use Rattle.condition_syntax.proofs.reading.read_expr.Goals as goal

pub returns-clause-taken : goal.returns-clause-taken
returns-clause-taken c = expr_is_taken c.args.style c.args.cursor.now.line c.args.cursor.now.tokens c.whole_expr.new.cursor.tokens c.whole_expr.result c.whole_expr.ensures.exact

pub returns-clause-again : goal.returns-clause-again
returns-clause-again c = expr_is_read c.args.style c.args.cursor.now.line c.args.cursor.now.tokens c.whole_expr.new.cursor.tokens c.whole_expr.result c.whole_expr.ensures.exact

pub returns-clause-refused : goal.returns-clause-refused
returns-clause-refused c = expr_is_refused c.args.style c.args.cursor.now.line c.args.cursor.now.tokens c.whole_expr.new.cursor.tokens c.whole_expr.result c.whole_expr.ensures.exact

pub returns-clause-first : goal.returns-clause-first
returns-clause-first c = expr_is_first c.args.style c.args.cursor.now.line c.args.cursor.now.tokens c.whole_expr.new.cursor.tokens c.whole_expr.result c.whole_expr.ensures.exact

pub returns-clause-within : goal.returns-clause-within
returns-clause-within c =
    taken_expr_within c.args.style c.args.cursor.now.tokens c.whole_expr.new.cursor.tokens c.whole_expr.result
    (expr_is_taken c.args.style c.args.cursor.now.line c.args.cursor.now.tokens c.whole_expr.new.cursor.tokens c.whole_expr.result c.whole_expr.ensures.exact)
