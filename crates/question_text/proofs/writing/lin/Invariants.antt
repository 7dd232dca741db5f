use Rattle.std.proofs.Common.{◌≡◌, ◌++◌, drop, map}
use Rattle.question_text.specs.NamedValues.{term_written}
use Rattle.question_text.proofs.writing.lin.Given as goal

abbrev pub invariant-loop-part : goal.invariant-loop-part
invariant-loop-part l = l.terms ++ map (term_written l.states l.setting) (drop l.part-index l.part-items) ≡ map (term_written l.states l.setting) l.part-items
