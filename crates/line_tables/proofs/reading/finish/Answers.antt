use Rattle.std.proofs.Common.{map}
use Rattle.line_tables.specs.Tables.{numbers}
use Rattle.line_tables.proofs.TextLaws.{whole_at_end, more_at_end}
use Rattle.line_tables.proofs.reading.finish.Goals as goal

pub returns-in-Done : goal.returns-in-Done
returns-in-Done c = λ rules rest is. whole_at_end c.args.letter rules c.args.spot (map numbers c.args.found) c.args.number rest c.args.is_finished c.in-Done.is c.if-is_finished.true is

pub returns-in-Done-2 : goal.returns-in-Done-2
returns-in-Done-2 c = λ rules rest is.
    more_at_end c.args.letter rules c.args.spot (map numbers c.args.found) c.args.number rest c.args.is_finished c.refusal-in-Done-2.result c.in-Done.is c.if-is_finished.false is c.refusal-in-Done-2.ensures
