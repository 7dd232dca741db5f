use Rattle.std.proofs.Common.{◌≡◌, drop, map}
use Rattle.text_lines.proofs.StepLaws.{with_front}
use Rattle.ctrl_types.specs.Denominators.{IsScale}
use Rattle.question_syntax.specs.Sections.{all_wanted_of}
use Rattle.question_text.specs.Conditions.{condition_of}
use Rattle.question_text.specs.Resolution.{wanteds_by}
use Rattle.question_text.proofs.lines.assumes.Given as goal

-- the lines so far and those to come are all the lines
abbrev pub invariant-loop-line : goal.invariant-loop-line
invariant-loop-line l = record {
  told : with_front (map condition_of l.resolved) (wanteds_by l.states l.setting (all_wanted_of (drop l.line-index l.lines)) l.den)
      ≡ wanteds_by l.states l.setting (all_wanted_of l.lines) l.initial.den;
  within : IsScale l.den;
}
