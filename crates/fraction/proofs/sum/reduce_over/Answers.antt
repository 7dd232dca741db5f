use Rattle.std.proofs.Common.{rules, ◌≡◌, ◌-◌, ◌^◌, ◌≤ℤ◌, ◌*ℤ◌, pos, unsigned_abs, FitsSigned, to_z, of_z, to_z-of_z, subst, subst₂, sym, arith}
use Rattle.std.specs.Int.{w128}
use Rattle.std.proofs.lemmas.Int.{fits_signed_from_abs}
use Rattle.lowest_terms.specs.Coprime.{IsCoprime}
use Rattle.fraction.proofs.Adding.{over_coprime, over_times, over_fits, over_part_fits}
use Rattle.fraction.proofs.Multiplying.{positive_product}
use Rattle.fraction.proofs.sum.reduce_over.Goals as goal
use Rattle.fraction.proofs.sum.reduce_over.Goals.{After-reduce-lowest}

-- the divisor that is left times the one taken out of it
common_is : (c : After-reduce-lowest) → c.reduce-lowest.result.den *ℤ c.reduce-lowest.result.common ≡ c.args.dens.common
common_is c =
    let common : FitsSigned w128 c.args.dens.common = search rules in
    simp to_z-of_z at c.reduce-lowest.ensures.den

part_fits : (c : After-reduce-lowest) → FitsSigned w128 (c.args.dens.den *ℤ c.reduce-lowest.result.den)
part_fits c =
    let within = over_part_fits c.args.dens.num c.args.dens.den c.reduce-lowest.result.den c.reduce-lowest.result.common c.args.dens.common (2 ^ 127 - 1)
    (common_is c) c.reduce-lowest.ensures.common c.requires.first (omega (arith, c.requires.over)) in
    fits_signed_from_abs w128 _ (omega (arith, within))

whole_fits : (c : After-reduce-lowest) → FitsSigned w128 (c.args.dens.num *ℤ (c.args.dens.den *ℤ c.reduce-lowest.result.den))
whole_fits c =
    let within = over_fits c.args.dens.num c.args.dens.den c.reduce-lowest.result.den c.reduce-lowest.result.common c.args.dens.common (2 ^ 127 - 1)
    (common_is c) c.reduce-lowest.ensures.common (omega (arith, c.requires.over)) in
    fits_signed_from_abs w128 _ (omega (arith, within))

den_is : (c : After-reduce-lowest) → to_z w128 (of_z w128 (to_z w128 (of_z w128 c.args.dens.num) *ℤ to_z w128 (of_z w128 (to_z w128 (of_z w128 c.args.dens.den) *ℤ to_z w128 (of_z w128 c.reduce-lowest.result.den))))) ≡ c.args.dens.num *ℤ (c.args.dens.den *ℤ c.reduce-lowest.result.den)
den_is c =
    let x : FitsSigned w128 c.args.dens.num = search rules in
    let y : FitsSigned w128 c.args.dens.den = search rules in
    let k : FitsSigned w128 c.reduce-lowest.result.den = search rules in
    let part = part_fits c in
    let both = whole_fits c in
    simp to_z-of_z

pub overflow_mul-result : goal.overflow_mul-result
overflow_mul-result c =
    let at = (goal.at.overflow_mul-result c).After-reduce-lowest in
    let y : FitsSigned w128 c.args.dens.den = search rules in
    let k : FitsSigned w128 c.reduce-lowest.result.den = search rules in
    simp to_z-of_z (part_fits at)

pub overflow_mul-result-2 : goal.overflow_mul-result-2
overflow_mul-result-2 c =
    let at = (goal.at.overflow_mul-result-2 c).After-reduce-lowest in
    let x : FitsSigned w128 c.args.dens.num = search rules in
    let y : FitsSigned w128 c.args.dens.den = search rules in
    let k : FitsSigned w128 c.reduce-lowest.result.den = search rules in
    let part = part_fits at in
    simp to_z-of_z (whole_fits at)

pub returns-clause-den : goal.returns-clause-den
returns-clause-den c =
    let at = (goal.at.returns-clause-den c).After-reduce-lowest in
    let h : FitsSigned w128 c.reduce-lowest.result.common = search rules in
    subst₂ (λ den common. den *ℤ common ≡ c.args.dens.num *ℤ (c.args.dens.den *ℤ c.args.dens.common)) (sym (den_is at)) (sym (to_z-of_z h))
    (over_times c.args.dens.num c.args.dens.den c.reduce-lowest.result.den c.reduce-lowest.result.common c.args.dens.common (common_is at))

pub returns-clause-positive : goal.returns-clause-positive
returns-clause-positive c =
    let at = (goal.at.returns-clause-positive c).After-reduce-lowest in
    subst (λ den. pos 1 ≤ℤ den) (sym (den_is at))
    (positive_product c.args.dens.num _ c.requires.first (positive_product c.args.dens.den c.reduce-lowest.result.den c.requires.second c.reduce-lowest.ensures.positive))

pub returns-clause-lowest : goal.returns-clause-lowest
returns-clause-lowest c =
    let at = (goal.at.returns-clause-lowest c).After-reduce-lowest in
    let num : FitsSigned w128 c.args.num = c.ranges.num in
    let s : FitsSigned w128 c.reduce-lowest.result.num = search rules in
    let num_is = simp to_z-of_z at c.reduce-lowest.ensures.num in
    subst₂ (λ num den. IsCoprime (unsigned_abs num) (unsigned_abs den)) (sym (to_z-of_z s)) (sym (den_is at))
    (over_coprime c.args.num c.args.dens.num c.args.dens.den c.reduce-lowest.result.den c.reduce-lowest.result.num c.reduce-lowest.result.common num_is c.requires.first_coprime c.requires.second_coprime c.reduce-lowest.ensures.lowest)
