use Rattle.std.proofs.Common.{rules, unsigned_abs, FitsSigned, to_z-of_z, inl, inr, subst₂, sym, ◌∙◌, ap}
use Rattle.std.specs.Int.{w128}
use Rattle.ordered_field.specs.Rational.{whole, ◌*ℚ◌}
use Rattle.lowest_terms.specs.Coprime.{IsCoprime}
use Rattle.fraction.specs.Value.{same_value}
use Rattle.fraction.proofs.SumSteps.{on_err_of}
use Rattle.fraction.proofs.Dividing.{reduced_divides, reduced_wide, reduced_kept}
use Rattle.fraction.proofs.frac.Frac.new.Goals as goal

pub returns-in_err-num-clause-wide : goal.returns-in_err-num-clause-wide
returns-in_err-num-clause-wide g c =
    let r = c.reduce-lowest.result in
    let n : FitsSigned w128 c.args.n = c.ranges.n in
    let d : FitsSigned w128 c.args.d = c.ranges.d in
    let num : FitsSigned w128 c.reduce-lowest.result.num = search rules in
    let n_is = simp to_z-of_z at c.reduce-lowest.ensures.num in
    let d_is = simp to_z-of_z at c.reduce-lowest.ensures.den in
    let wide = simp to_z-of_z at c.in_err-num.ensures.wide in
    on_err_of _ (reduced_wide r.num r.den r.common c.args.n c.args.d c.reduce-lowest.ensures.positive c.requires.positive n_is d_is c.reduce-lowest.ensures.lowest g.L.Limit.LIMIT (inl wide))

pub returns-in_err-den-clause-wide : goal.returns-in_err-den-clause-wide
returns-in_err-den-clause-wide g c =
    let r = c.reduce-lowest.result in
    let n : FitsSigned w128 c.args.n = c.ranges.n in
    let d : FitsSigned w128 c.args.d = c.ranges.d in
    let den : FitsSigned w128 c.reduce-lowest.result.den = search rules in
    let n_is = simp to_z-of_z at c.reduce-lowest.ensures.num in
    let d_is = simp to_z-of_z at c.reduce-lowest.ensures.den in
    let wide = simp to_z-of_z at c.in_err-den.ensures.wide in
    on_err_of _ (reduced_wide r.num r.den r.common c.args.n c.args.d c.reduce-lowest.ensures.positive c.requires.positive n_is d_is c.reduce-lowest.ensures.lowest g.L.Limit.LIMIT (inr wide))

pub from_parts-requires-clause-lowest : goal.from_parts-requires-clause-lowest
from_parts-requires-clause-lowest g c =
    let r_num : FitsSigned w128 c.reduce-lowest.result.num = search rules in
    let r_den : FitsSigned w128 c.reduce-lowest.result.den = search rules in
    let num : FitsSigned w128 c.in_ok-num.num = search rules in
    let den : FitsSigned w128 c.in_ok-den.den = search rules in
    let same_num = simp to_z-of_z at c.in_ok-num.ensures.exact in
    let same_den = simp to_z-of_z at c.in_ok-den.ensures.exact in
    simp to_z-of_z
    (subst₂ (λ x y. IsCoprime (unsigned_abs x) (unsigned_abs y)) (sym same_num) (sym same_den) c.reduce-lowest.ensures.lowest)

pub returns-clause-exact : goal.returns-clause-exact
returns-clause-exact g c =
    let r = c.reduce-lowest.result in
    let x = c.from_parts.result in
    let n : FitsSigned w128 c.args.n = c.ranges.n in
    let d : FitsSigned w128 c.args.d = c.ranges.d in
    let r_num : FitsSigned w128 c.reduce-lowest.result.num = search rules in
    let r_den : FitsSigned w128 c.reduce-lowest.result.den = search rules in
    let num : FitsSigned w128 c.in_ok-num.num = search rules in
    let den : FitsSigned w128 c.in_ok-den.den = search rules in
    let same_num = (simp to_z-of_z at c.from_parts.ensures.num) ∙ (simp to_z-of_z at c.in_ok-num.ensures.exact) in
    let same_den = (simp to_z-of_z at c.from_parts.ensures.den) ∙ (simp to_z-of_z at c.in_ok-den.ensures.exact) in
    let n_is = simp to_z-of_z at c.reduce-lowest.ensures.num in
    let d_is = simp to_z-of_z at c.reduce-lowest.ensures.den in
    ap (λ v. v *ℚ whole c.args.d) (same_value x.num x.den r.num r.den x.positive c.reduce-lowest.ensures.positive same_num same_den)
    ∙ reduced_divides r.num r.den r.common c.args.n c.args.d c.reduce-lowest.ensures.positive c.requires.positive n_is d_is c.reduce-lowest.ensures.lowest

pub returns-clause-kept : goal.returns-clause-kept
returns-clause-kept g c =
    let r = c.reduce-lowest.result in
    let n : FitsSigned w128 c.args.n = c.ranges.n in
    let d : FitsSigned w128 c.args.d = c.ranges.d in
    let r_num : FitsSigned w128 c.reduce-lowest.result.num = search rules in
    let r_den : FitsSigned w128 c.reduce-lowest.result.den = search rules in
    let n_is = simp to_z-of_z at c.reduce-lowest.ensures.num in
    let d_is = simp to_z-of_z at c.reduce-lowest.ensures.den in
    let num_within = simp to_z-of_z at c.in_ok-num.ensures.kept in
    let den_within = simp to_z-of_z at c.in_ok-den.ensures.kept in
    reduced_kept r.num r.den r.common c.args.n c.args.d c.reduce-lowest.ensures.positive c.requires.positive n_is d_is c.reduce-lowest.ensures.lowest g.L.Limit.LIMIT num_within den_within
