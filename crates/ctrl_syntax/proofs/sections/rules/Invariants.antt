use Rattle.std.proofs.Common.{◌≡◌, ◌≤◌, ◌-◌, length}
use Rattle.std.specs.Prelude.{codes}
use Rattle.text_lines.proofs.StepLaws.{with_front}
use Rattle.ctrl_syntax.specs.Sections.{rules_of}
use Rattle.ctrl_syntax.specs.Reading.{rule_by, many_by}
use Rattle.ctrl_syntax.proofs.sections.rules.Given as goal

abbrev pub invariant-loop-alloc : goal.invariant-loop-alloc
invariant-loop-alloc l = record {
  told : with_front (rules_of l.rules) (many_by (codes "rule") rule_by (16 - length l.rules) l.rest) ≡ many_by (codes "rule") rule_by 16 l.initial.rest;
  few : length l.rules ≤ 16;
}

abbrev pub decreases-loop-alloc : goal.decreases-loop-alloc
decreases-loop-alloc l = 16 - length l.rules
