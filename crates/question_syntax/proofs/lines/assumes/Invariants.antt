use Rattle.std.proofs.Common.{◌≡◌, ◌≤◌, ◌-◌, length}
use Rattle.std.specs.Prelude.{codes}
use Rattle.text_lines.proofs.StepLaws.{with_front}
use Rattle.ctrl_syntax.specs.Reading.{many_within}
use Rattle.question_syntax.specs.Sections.{all_wanted_of}
use Rattle.question_syntax.specs.Reading.{refusal, wanted_by, assumes_by}
use Rattle.question_syntax.proofs.lines.assumes.Given as goal

abbrev pub invariant-loop-alloc : goal.invariant-loop-alloc
invariant-loop-alloc l = record {
  told : with_front (all_wanted_of l.assumes) (many_within (refusal 9) (codes "assume") (wanted_by (codes "assume")) (16 - length l.assumes) l.rest) ≡ assumes_by l.initial.rest;
  few : length l.assumes ≤ 16;
}

abbrev pub decreases-loop-alloc : goal.decreases-loop-alloc
decreases-loop-alloc l = 16 - length l.assumes
