use Rattle.std.proofs.Common.{◌≡◌, ◌≤◌, ◌-◌, length}
use Rattle.std.specs.Prelude.{codes}
use Rattle.text_lines.proofs.StepLaws.{with_front}
use Rattle.ctrl_syntax.specs.Reading.{line_by, state_at, many_by}
use Rattle.ctrl_syntax.proofs.sections.states.Given as goal

abbrev pub invariant-loop-alloc : goal.invariant-loop-alloc
invariant-loop-alloc l = record {
  told : with_front l.states (many_by (codes "state") (line_by state_at) (8 - length l.states) l.rest) ≡ many_by (codes "state") (line_by state_at) 8 l.initial.rest;
  few : length l.states ≤ 8;
}

abbrev pub decreases-loop-alloc : goal.decreases-loop-alloc
decreases-loop-alloc l = 8 - length l.states
