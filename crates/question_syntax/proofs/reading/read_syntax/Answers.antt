use Rattle.question_syntax.proofs.Exactness.{is_found, is_read, is_refused, is_first}
use Rattle.question_syntax.proofs.ConditionLimits.{found_within}
use Rattle.question_syntax.proofs.reading.read_syntax.Goals as goal

pub returns-clause-found : goal.returns-clause-found
returns-clause-found c = is_found c.args.bytes.now c.whole_text.result c.whole_text.ensures

pub returns-clause-only : goal.returns-clause-only
returns-clause-only c = is_read c.args.bytes.now c.whole_text.result c.whole_text.ensures

pub returns-clause-refused : goal.returns-clause-refused
returns-clause-refused c = is_refused c.args.bytes.now c.whole_text.result c.whole_text.ensures

pub returns-clause-first : goal.returns-clause-first
returns-clause-first c = is_first c.args.bytes.now c.whole_text.result c.whole_text.ensures

pub returns-clause-limits : goal.returns-clause-limits
returns-clause-limits c = found_within c.args.bytes.now c.whole_text.result (is_found c.args.bytes.now c.whole_text.result c.whole_text.ensures)
