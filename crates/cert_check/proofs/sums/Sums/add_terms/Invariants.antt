use Rattle.std.proofs.Common.{drop}
use Rattle.cert_check.proofs.SumLaws.{Adding}
use Rattle.cert_check.proofs.sums.Sums.add_terms.Given as goal

abbrev pub invariant-loop-term : goal.invariant-loop-term
invariant-loop-term l = Adding l.mult l.factor l.terms l.initial.self (drop l.term-index l.terms) l.self
