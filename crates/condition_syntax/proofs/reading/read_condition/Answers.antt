use Rattle.condition_syntax.proofs.LimitLaws.{taken_condition_within}
use Rattle.condition_syntax.proofs.Exactness.{condition_is_taken, condition_is_read, condition_is_refused, condition_is_first}
use Rattle.condition_syntax.proofs.reading.read_condition.Goals as goal

pub returns-clause-taken : goal.returns-clause-taken
returns-clause-taken c = condition_is_taken c.args.style c.args.cursor.now.line c.args.cursor.now.tokens c.whole_condition.new.cursor.tokens c.whole_condition.result c.whole_condition.ensures.exact

pub returns-clause-again : goal.returns-clause-again
returns-clause-again c = condition_is_read c.args.style c.args.cursor.now.line c.args.cursor.now.tokens c.whole_condition.new.cursor.tokens c.whole_condition.result c.whole_condition.ensures.exact

pub returns-clause-refused : goal.returns-clause-refused
returns-clause-refused c = condition_is_refused c.args.style c.args.cursor.now.line c.args.cursor.now.tokens c.whole_condition.new.cursor.tokens c.whole_condition.result c.whole_condition.ensures.exact

pub returns-clause-first : goal.returns-clause-first
returns-clause-first c = condition_is_first c.args.style c.args.cursor.now.line c.args.cursor.now.tokens c.whole_condition.new.cursor.tokens c.whole_condition.result c.whole_condition.ensures.exact

pub returns-clause-within : goal.returns-clause-within
returns-clause-within c =
    taken_condition_within c.args.style c.args.cursor.now.tokens c.whole_condition.new.cursor.tokens c.whole_condition.result
    (condition_is_taken c.args.style c.args.cursor.now.line c.args.cursor.now.tokens c.whole_condition.new.cursor.tokens c.whole_condition.result c.whole_condition.ensures.exact)
