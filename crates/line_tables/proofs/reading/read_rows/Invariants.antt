use Rattle.std.proofs.Common.{length}
use Rattle.line_tables.specs.Tables.{format, rules_of}
use Rattle.line_tables.proofs.TextLaws.{Fed}
use Rattle.line_tables.proofs.reading.read_rows.Given as goal

abbrev pub invariant-loop-text : goal.invariant-loop-text
invariant-loop-text l = Fed (format l.letter (rules_of l.lines)) l.spot l.found l.left l.bytes

abbrev pub decreases-loop-text : goal.decreases-loop-text
decreases-loop-text l = length l.left.pieces
