use Rattle.std.proofs.Common.{◌≡◌, length}
use Rattle.source_text.specs.Lines.{kept}
use Rattle.source_text.proofs.lines.next_kept.Given as goal

abbrev pub invariant-loop-line : goal.invariant-loop-line
invariant-loop-line l = (kept l.initial.lines.lines ≡ kept l.lines.lines) × (l.lines.end ≡ l.initial.lines.end)

abbrev pub decreases-loop-line : goal.decreases-loop-line
decreases-loop-line l = length l.lines.lines
