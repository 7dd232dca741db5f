use Rattle.std.proofs.Common.{rules, ◌≡◌, ◌-ℤ◌, pos, unsigned_abs, neg_ℤ, FitsSigned, to_z, of_z, to_z-of_z, sym, ◌∙◌, ap, arith, subst₂}
use Rattle.std.specs.Int.{w128}
use Rattle.lowest_terms.specs.Coprime.{IsCoprime}
use Rattle.whole.proofs.Integers.{unsigned_abs-neg_ℤ}
use Rattle.fraction.specs.Value.{same_value}
use Rattle.fraction.proofs.Signs.{negated, opposite_value}
use Rattle.fraction.proofs.frac.FracOrderedField.neg.Goals as goal
use Rattle.fraction.proofs.frac.FracOrderedField.neg.Goals.{Start}
use Rattle.fraction.proofs.frac.FracOrderedField.neg.Given.{Over}

num_is : (g : Over) (c : Start g) → to_z w128 (of_z w128 (pos 0 -ℤ to_z w128 (of_z w128 c.args.self.num))) ≡ neg_ℤ c.args.self.num
num_is g c = negated w128 c.args.self.num (search rules) (omega (arith, c.args.self.num_within, g.L.Limit.fits))

pub from_parts-requires-clause-lowest : goal.from_parts-requires-clause-lowest
from_parts-requires-clause-lowest g c =
    let at = (goal.at.from_parts-requires-clause-lowest g c).Start in
    let den : FitsSigned w128 c.args.self.den = search rules in
    subst₂ (λ n d. IsCoprime n (unsigned_abs d)) (sym (ap unsigned_abs (num_is g at) ∙ unsigned_abs-neg_ℤ c.args.self.num)) (sym (to_z-of_z den)) c.args.self.lowest

pub returns : goal.returns
returns g c =
    let at = (goal.at.returns g c).Start in
    let x = c.from_parts.result in
    let den : FitsSigned w128 c.args.self.den = search rules in
    same_value x.num x.den (neg_ℤ c.args.self.num) c.args.self.den x.positive c.args.self.positive
    (c.from_parts.ensures.num ∙ num_is g at)
    (simp to_z-of_z at c.from_parts.ensures.den)
    ∙ opposite_value c.args.self.num c.args.self.den c.args.self.positive
