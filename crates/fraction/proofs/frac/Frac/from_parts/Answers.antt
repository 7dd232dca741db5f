use Rattle.std.proofs.Common.{unsigned_abs, FitsSigned, to_z-of_z, subst₂, sym}
use Rattle.std.specs.Int.{w128}
use Rattle.lowest_terms.specs.Coprime.{IsCoprime}
use Rattle.fraction.proofs.frac.Frac.from_parts.Goals as goal

pub invariant_of-result-clause-lowest : goal.invariant_of-result-clause-lowest
invariant_of-result-clause-lowest g c =
    let num : FitsSigned w128 c.args.num = c.ranges.num in
    let den : FitsSigned w128 c.args.den = c.ranges.den in
    subst₂ (λ x y. IsCoprime (unsigned_abs x) (unsigned_abs y)) (sym (to_z-of_z num)) (sym (to_z-of_z den)) c.requires.lowest
