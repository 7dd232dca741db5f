use Rattle.std.proofs.Common.{◌≡◌, ◌++◌, drop, string_bytes}
use Rattle.text_lines.specs.Steps.{numbered}
use Rattle.smt_text.specs.Texts.{tie_text}
use Rattle.smt_text.proofs.problems.put_ties.Given as goal

abbrev pub invariant-loop-i : goal.invariant-loop-i
invariant-loop-i l = string_bytes l.out ++ numbered (tie_text l.clauses) l.i (drop l.i l.atoms) ≡ string_bytes l.initial.out ++ numbered (tie_text l.clauses) 0 l.atoms
