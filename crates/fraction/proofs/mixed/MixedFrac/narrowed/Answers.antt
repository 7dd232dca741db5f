use Rattle.std.proofs.Common.{rules, FitsSigned, to_z-of_z, ◌∙◌}
use Rattle.std.specs.Int.{w128}
use Rattle.lowest_terms.proofs.Reduction.{pos-size}
use Rattle.fraction.proofs.Widths.{same_coprime}
use Rattle.fraction.proofs.mixed.MixedFrac.narrowed.Goals as goal

pub from_parts-requires-clause-lowest : goal.from_parts-requires-clause-lowest
from_parts-requires-clause-lowest c =
    let frac = c.args.frac in
    let num : FitsSigned w128 c.parts-num.result.0 = search rules in
    let den : FitsSigned w128 c.parts-num.result.1 = search rules in
    same_coprime _ _ frac.num frac.den
    (to_z-of_z num ∙ c.parts-num.ensures.num)
    (to_z-of_z den ∙ c.parts-num.ensures.den ∙ pos-size frac.den frac.positive)
    frac.lowest
