use Rattle.std.proofs.Common.{◌≡◌, ◌++◌, drop, map}
use Rattle.question_syntax.specs.Sections.{all_wanted_of}
use Rattle.question_text.specs.Conditions.{condition_of}
use Rattle.question_text.specs.Texts.{wanted_written}
use Rattle.question_text.proofs.writing.lines.Given as goal

abbrev pub invariant-loop-cond : goal.invariant-loop-cond
invariant-loop-cond l =
    all_wanted_of l.written ++ map (wanted_written l.states l.setting) (map condition_of (drop l.cond-index l.conds))
    ≡ map (wanted_written l.states l.setting) (map condition_of l.conds)
