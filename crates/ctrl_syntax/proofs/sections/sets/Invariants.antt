use Rattle.std.proofs.Common.{◌≡◌, length}
use Rattle.std.specs.Prelude.{codes}
use Rattle.text_lines.proofs.StepLaws.{with_front}
use Rattle.ctrl_syntax.specs.Reading.{line_by, set_at, many_by}
use Rattle.ctrl_syntax.proofs.sections.sets.Given as goal

abbrev pub invariant-loop-alloc : goal.invariant-loop-alloc
invariant-loop-alloc l = with_front l.sets (many_by (codes "set") (line_by set_at) (length l.rest.lines) l.rest) ≡ many_by (codes "set") (line_by set_at) (length l.initial.rest.lines) l.initial.rest

abbrev pub decreases-loop-alloc : goal.decreases-loop-alloc
decreases-loop-alloc l = length l.rest.lines
