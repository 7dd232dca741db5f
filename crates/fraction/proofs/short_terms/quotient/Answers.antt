use Rattle.std.proofs.Common.{◌*ℤ◌, ap, ◌∙◌, arith}
use Rattle.std.specs.Int.{w64}
use Rattle.std.proofs.lemmas.Int.{ints, quot_is, quot_fits}
use Rattle.lowest_terms.proofs.Scaling.{exact_quotient}
use Rattle.fraction.proofs.short_terms.quotient.Goals as goal

pub returns : goal.returns
returns c =
    let a = c.args in
    ap (λ z. z *ℤ a.divisor) (quot_is w64 a.n a.divisor c.ranges.n c.ranges.divisor (quot_fits w64 a.n a.divisor c.ranges.n (omega (arith, ints))))
    ∙ exact_quotient a.n a.divisor c.requires.positive c.requires.divides
