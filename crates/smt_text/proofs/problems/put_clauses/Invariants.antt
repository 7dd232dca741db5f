use Rattle.std.proofs.Common.{◌≡◌, ◌++◌, drop, string_bytes}
use Rattle.smt_text.specs.Texts.{listed, clause_text}
use Rattle.smt_text.proofs.problems.put_clauses.Given as goal

abbrev pub invariant-loop-clause : goal.invariant-loop-clause
invariant-loop-clause l = string_bytes l.out ++ listed clause_text (drop l.clause-index l.clauses) ≡ string_bytes l.initial.out ++ listed clause_text l.clauses
