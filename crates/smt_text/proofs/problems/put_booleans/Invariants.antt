use Rattle.std.proofs.Common.{◌≡◌, ◌++◌, drop, string_bytes}
use Rattle.smt_text.specs.Texts.{boolean_line, counted}
use Rattle.smt_text.proofs.problems.put_booleans.Given as goal

abbrev pub invariant-loop-atom : goal.invariant-loop-atom
invariant-loop-atom l = string_bytes l.out ≡ string_bytes l.initial.out ++ counted boolean_line l.atom
