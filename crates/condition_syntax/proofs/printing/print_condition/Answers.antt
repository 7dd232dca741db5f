use Rattle.condition_syntax.specs.Trees.{condition_of}
use Rattle.condition_syntax.proofs.Exactness.{condition_is_printed, is_no_deeper}
use Rattle.condition_syntax.proofs.printing.print_condition.Goals as goal

pub returns-clause-again : goal.returns-clause-again
returns-clause-again c = λ style front spelled from. condition_is_printed style front (condition_of c.args.condition.now) c.condition_bytes.result c.condition_bytes.ensures spelled from

pub returns-clause-no_deeper : goal.returns-clause-no_deeper
returns-clause-no_deeper c = λ style room front spelled from. is_no_deeper style room front (condition_of c.args.condition.now) c.condition_bytes.result c.condition_bytes.ensures spelled from
