use Rattle.std.proofs.Common.{◌≡◌, ◌++◌, drop, string_bytes}
use Rattle.smt_text.specs.Texts.{counted, real_line}
use Rattle.smt_text.proofs.problems.put_reals.Given as goal

abbrev pub invariant-loop-column : goal.invariant-loop-column
invariant-loop-column l = string_bytes l.out ≡ string_bytes l.initial.out ++ counted real_line l.column
