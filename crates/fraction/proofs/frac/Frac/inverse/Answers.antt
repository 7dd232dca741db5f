use Rattle.std.proofs.Common.{rules, ◌≡◌, ◌-ℤ◌, pos, unsigned_abs, neg_ℤ, FitsSigned, to_z, of_z, to_z-of_z, sym, ◌∙◌, ap, arith, subst₂, ◌*ℤ◌}
use Rattle.std.specs.Int.{w128}
use Rattle.std.proofs.Math.IntN.{*ℤ_comm}
use Rattle.lowest_terms.specs.Coprime.{IsCoprime}
use Rattle.lowest_terms.proofs.CoprimeLaws.{IsCoprime-swap}
use Rattle.whole.proofs.Integers.{unsigned_abs-neg_ℤ}
use Rattle.fraction.proofs.Signs.{negated, inverse_value, opposite_parts}
use Rattle.fraction.proofs.frac.Frac.inverse.Goals as goal
use Rattle.fraction.proofs.frac.Frac.inverse.Goals.{Start}
use Rattle.fraction.proofs.frac.Frac.inverse.Given.{Over}

num_is : (g : Over) (c : Start g) → to_z w128 (of_z w128 (pos 0 -ℤ to_z w128 (of_z w128 c.args.self.num))) ≡ neg_ℤ c.args.self.num
num_is g c = negated w128 c.args.self.num (search rules) (omega (arith, c.args.self.num_within, g.L.Limit.fits))

den_is : (g : Over) (c : Start g) → to_z w128 (of_z w128 (pos 0 -ℤ to_z w128 (of_z w128 c.args.self.den))) ≡ neg_ℤ c.args.self.den
den_is g c = negated w128 c.args.self.den (search rules) (omega (arith, c.args.self.den_within, g.L.Limit.fits))

pub from_parts-requires-clause-lowest : goal.from_parts-requires-clause-lowest
from_parts-requires-clause-lowest g c =
    let at = (goal.at.from_parts-requires-clause-lowest g c).Start in
    subst₂ IsCoprime
    (sym (ap unsigned_abs (den_is g at) ∙ unsigned_abs-neg_ℤ c.args.self.den))
    (sym (ap unsigned_abs (num_is g at) ∙ unsigned_abs-neg_ℤ c.args.self.num))
    (IsCoprime-swap _ _ c.args.self.lowest)

pub from_parts-requires-else-self-lt0-clause-lowest : goal.from_parts-requires-else-self-lt0-clause-lowest
from_parts-requires-else-self-lt0-clause-lowest g c =
    let num : FitsSigned w128 c.args.self.num = search rules in
    let den : FitsSigned w128 c.args.self.den = search rules in
    subst₂ (λ n d. IsCoprime (unsigned_abs n) (unsigned_abs d)) (sym (to_z-of_z den)) (sym (to_z-of_z num)) (IsCoprime-swap _ _ c.args.self.lowest)

pub returns-then-self-lt0 : goal.returns-then-self-lt0
returns-then-self-lt0 g c =
    let at = (goal.at.returns-then-self-lt0 g c).Start in
    let x = c.from_parts.result in
    inverse_value x.num x.den c.args.self.num c.args.self.den x.positive c.args.self.positive
    (ap (λ z. z *ℤ c.args.self.num) (c.from_parts.ensures.num ∙ den_is g at)
    ∙ opposite_parts c.args.self.num c.args.self.den
    ∙ ap (λ z. z *ℤ c.args.self.den) (sym (c.from_parts.ensures.den ∙ num_is g at)))

pub returns-else-self-lt0 : goal.returns-else-self-lt0
returns-else-self-lt0 g c =
    let num : FitsSigned w128 c.args.self.num = search rules in
    let den : FitsSigned w128 c.args.self.den = search rules in
    let x = c.from_parts-else-self-lt0.result in
    inverse_value x.num x.den c.args.self.num c.args.self.den x.positive c.args.self.positive
    (ap (λ z. z *ℤ c.args.self.num) (simp to_z-of_z at c.from_parts-else-self-lt0.ensures.num)
    ∙ *ℤ_comm c.args.self.den c.args.self.num
    ∙ ap (λ z. z *ℤ c.args.self.den) (sym (simp to_z-of_z at c.from_parts-else-self-lt0.ensures.den)))
