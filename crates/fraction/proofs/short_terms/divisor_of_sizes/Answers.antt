use Rattle.std.proofs.Common.{sym, ◌∙◌, arith}
use Rattle.whole.proofs.Divisors.{gcd_of-zero, gcd_of-mod}
use Rattle.fraction.proofs.short_terms.divisor_of_sizes.Goals as goal

pub loop-y-preserved : goal.loop-y-preserved
loop-y-preserved c = gcd_of-mod _ _ ∙ c.loop-y.invariant

pub returns : goal.returns
returns c = sym (gcd_of-zero _ _ (omega arith)) ∙ c.loop-y.invariant
