use Rattle.std.proofs.Common.{◌≡◌, ◌++◌, drop}
use Rattle.std.specs.Prelude.{flat_map, codes}
use Rattle.ctrl_syntax.specs.Printed.{line_text}
use Rattle.question_syntax.specs.Sections.{all_wanted_of}
use Rattle.question_syntax.specs.Printed.{wanted_text}
use Rattle.question_syntax.proofs.printing.put_assumes.Given as goal

abbrev pub invariant-loop-assume : goal.invariant-loop-assume
invariant-loop-assume l =
    l.out.items ++ flat_map (line_text (wanted_text (codes "assume "))) (all_wanted_of (drop l.assume-index l.assumes))
    ≡ l.fn.out.items ++ flat_map (line_text (wanted_text (codes "assume "))) (all_wanted_of l.assumes)
