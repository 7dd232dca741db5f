use Rattle.std.proofs.Common.{drop}
use Rattle.linear_form.proofs.CommonDivisor.{IsFound}
use Rattle.linear_form.proofs.normalising.divisor_of.Given as goal

abbrev pub invariant-loop-term : goal.invariant-loop-term
invariant-loop-term l = IsFound l.terms (drop l.term-index l.terms) l.divisor
