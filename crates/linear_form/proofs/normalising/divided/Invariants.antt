use Rattle.std.proofs.Common.{◌≡◌, map, ◌++◌, take, drop, unsigned_abs}
use Rattle.linear_form.specs.NormalForm.{quotient}
use Rattle.linear_form.proofs.normalising.divided.Given as goal

abbrev pub invariant-loop-term : goal.invariant-loop-term
invariant-loop-term l = l.term-items ≡ map (quotient l.negate (unsigned_abs l.divisor)) (take l.term-index l.initial.term-items) ++ drop l.term-index l.initial.term-items
