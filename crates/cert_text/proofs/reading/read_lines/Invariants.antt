use Rattle.std.proofs.Common.{length}
use Rattle.cert_text.proofs.FeedLaws.{Feeds}
use Rattle.cert_text.proofs.reading.read_lines.Given as goal

abbrev pub invariant-loop-line : goal.invariant-loop-line
invariant-loop-line l = Feeds l.draft l.lines l.bytes

abbrev pub decreases-loop-line : goal.decreases-loop-line
decreases-loop-line l = length l.lines.pieces
