use Rattle.std.proofs.Common.{rules, ◌≡◌, ◌≤◌, ◌≤ℤ◌, pos, ◌*ℤ◌, ◌+ℤ◌, unsigned_abs, FitsSigned, to_z-of_z, subst, subst₂, sym, ◌∙◌, arith}
use Rattle.std.specs.Int.{w128}
use Rattle.lowest_terms.specs.Coprime.{IsCoprime}
use Rattle.lowest_terms.proofs.Reduction.{reduced_positive}
use Rattle.fraction.specs.Sums.{SumOverflows}
use Rattle.fraction.specs.Value.{same_value}
use Rattle.fraction.proofs.SumSteps.{on_err_of}
use Rattle.fraction.proofs.Dividing.{scaled_value}
use Rattle.fraction.proofs.Multiplying.{positive_product}
use Rattle.fraction.proofs.Adding.{Sums, sums, sum_within, over_within, factor_within}
use Rattle.fraction.proofs.frac.Frac.add_over.Goals as goal
use Rattle.fraction.proofs.frac.Frac.add_over.Goals.{Start, In_ok-num}
use Rattle.fraction.proofs.frac.Frac.add_over.Given.{Over}

first_some : (g : Over) (c : Start g) → pos 1 ≤ℤ c.args.dens.num
first_some g c = reduced_positive c.args.self.den c.args.dens.common c.args.dens.num c.args.self.positive c.requires.common c.requires.num

summed : (g : Over) (c : Start g) → Sums g.L.Limit.LIMIT c.args.self.num c.args.self.den c.args.other.num c.args.other.den c.args.dens.num c.args.dens.den c.args.dens.common c.args.self.positive c.args.other.positive
summed g c =
    let b : FitsSigned w128 c.args.self.den = search rules in
    let d : FitsSigned w128 c.args.other.den = search rules in
    sums g.L.Limit.LIMIT c.args.self.num c.args.self.den c.args.other.num c.args.other.den c.args.dens.num c.args.dens.den c.args.dens.common
    (record {
      left_lowest = c.args.self.lowest;
      right_lowest = c.args.other.lowest;
      b_is = c.requires.num;
      d_is = c.requires.den;
      x_some = first_some g c;
      y_some = c.requires.positive;
      g_some = c.requires.common;
      lowest = c.requires.lowest;
    })
    c.args.self.positive
    c.args.other.positive

pub returns-in_err-num-clause-wide : goal.returns-in_err-num-clause-wide
returns-in_err-num-clause-wide g c =
    let m : FitsSigned w128 c.args.self.num = search rules in
    let n : FitsSigned w128 c.args.other.num = search rules in
    let d : FitsSigned w128 c.args.other.den = search rules in
    on_err_of _ ((summed g (goal.at.returns-in_err-num-clause-wide g c).Start).wide (simp to_z-of_z at c.in_err-num.ensures.wide))

num_is : (g : Over) (c : In_ok-num g) → c.in_ok-num.num ≡ c.args.self.num *ℤ c.args.dens.den +ℤ c.args.other.num *ℤ c.args.dens.num
num_is g c =
    let m : FitsSigned w128 c.args.self.num = search rules in
    let n : FitsSigned w128 c.args.other.num = search rules in
    simp to_z-of_z at c.in_ok-num.ensures.exact

kept : (g : Over) (c : In_ok-num g) → SumOverflows g.L.Limit.LIMIT c.args.self.num c.args.other.num c.args.dens.num c.args.dens.den c.args.other.den → ⊥
kept g c =
    let m : FitsSigned w128 c.args.self.num = search rules in
    let n : FitsSigned w128 c.args.other.num = search rules in
    let d : FitsSigned w128 c.args.other.den = search rules in
    simp to_z-of_z at c.in_ok-num.ensures.kept

num_within : (g : Over) (c : In_ok-num g) → unsigned_abs c.in_ok-num.num ≤ g.L.Limit.LIMIT
num_within g c =
    subst (λ z. unsigned_abs z ≤ g.L.Limit.LIMIT) (sym (num_is g c))
    (sum_within g.L.Limit.LIMIT c.args.self.num c.args.other.num c.args.dens.num c.args.dens.den c.args.other.den (kept g c))

den_within : (g : Over) (c : In_ok-num g) → unsigned_abs (c.args.dens.num *ℤ (c.args.dens.den *ℤ c.args.dens.common)) ≤ g.L.Limit.LIMIT
den_within g c =
    let d : FitsSigned w128 c.args.other.den = search rules in
    subst (λ z. unsigned_abs (c.args.dens.num *ℤ z) ≤ g.L.Limit.LIMIT) (sym c.requires.den)
    (over_within g.L.Limit.LIMIT c.args.self.num c.args.other.num c.args.dens.num c.args.dens.den c.args.other.den (kept g c))

pub reduce_over-lowest-requires-clause-within : goal.reduce_over-lowest-requires-clause-within
reduce_over-lowest-requires-clause-within g c =
    let num : FitsSigned w128 c.in_ok-num.num = search rules in
    simp to_z-of_z (omega (arith, num_within g (goal.at.reduce_over-lowest-requires-clause-within g c).In_ok-num, g.L.Limit.fits))

pub reduce_over-lowest-requires-clause-over : goal.reduce_over-lowest-requires-clause-over
reduce_over-lowest-requires-clause-over g c =
    omega (arith, den_within g (goal.at.reduce_over-lowest-requires-clause-over g c).In_ok-num, g.L.Limit.fits)

pub reduce_over-lowest-requires-clause-first : goal.reduce_over-lowest-requires-clause-first
reduce_over-lowest-requires-clause-first g c =
    first_some g (goal.at.reduce_over-lowest-requires-clause-first g c).Start

pub reduce_over-lowest-requires-clause-first_coprime : goal.reduce_over-lowest-requires-clause-first_coprime
reduce_over-lowest-requires-clause-first_coprime g c =
    let at = goal.at.reduce_over-lowest-requires-clause-first_coprime g c in
    let num : FitsSigned w128 c.in_ok-num.num = search rules in
    subst (λ z. IsCoprime (unsigned_abs z) (unsigned_abs c.args.dens.num)) (sym (to_z-of_z num ∙ num_is g at.In_ok-num))
    (summed g at.Start).first_coprime

pub reduce_over-lowest-requires-clause-second_coprime : goal.reduce_over-lowest-requires-clause-second_coprime
reduce_over-lowest-requires-clause-second_coprime g c =
    let at = goal.at.reduce_over-lowest-requires-clause-second_coprime g c in
    let num : FitsSigned w128 c.in_ok-num.num = search rules in
    subst (λ z. IsCoprime (unsigned_abs z) (unsigned_abs c.args.dens.den)) (sym (to_z-of_z num ∙ num_is g at.In_ok-num))
    (summed g at.Start).second_coprime

pub from_parts-requires-clause-lowest : goal.from_parts-requires-clause-lowest
from_parts-requires-clause-lowest g c =
    let num : FitsSigned w128 c.reduce_over-lowest.result.num = search rules in
    let den : FitsSigned w128 c.reduce_over-lowest.result.den = search rules in
    subst₂ (λ x y. IsCoprime (unsigned_abs x) (unsigned_abs y)) (sym (to_z-of_z num)) (sym (to_z-of_z den)) c.reduce_over-lowest.ensures.lowest

pub from_parts-requires-clause-num_within : goal.from_parts-requires-clause-num_within
from_parts-requires-clause-num_within g c =
    let num : FitsSigned w128 c.in_ok-num.num = search rules in
    let lowest : FitsSigned w128 c.reduce_over-lowest.result.num = search rules in
    let num_is = simp to_z-of_z at c.reduce_over-lowest.ensures.num in
    simp to_z-of_z
    (factor_within c.reduce_over-lowest.result.num c.reduce_over-lowest.result.common c.in_ok-num.num g.L.Limit.LIMIT num_is c.reduce_over-lowest.ensures.common
    (num_within g (goal.at.from_parts-requires-clause-num_within g c).In_ok-num))

pub from_parts-requires-clause-den_within : goal.from_parts-requires-clause-den_within
from_parts-requires-clause-den_within g c =
    let lowest : FitsSigned w128 c.reduce_over-lowest.result.den = search rules in
    simp to_z-of_z
    (factor_within c.reduce_over-lowest.result.den c.reduce_over-lowest.result.common (c.args.dens.num *ℤ (c.args.dens.den *ℤ c.args.dens.common)) g.L.Limit.LIMIT c.reduce_over-lowest.ensures.den c.reduce_over-lowest.ensures.common
    (den_within g (goal.at.from_parts-requires-clause-den_within g c).In_ok-num))

pub returns-clause-exact : goal.returns-clause-exact
returns-clause-exact g c =
    let at = goal.at.returns-clause-exact g c in
    let x = c.from_parts.result in
    let r = c.reduce_over-lowest.result in
    let dens = c.args.dens in
    let num : FitsSigned w128 c.in_ok-num.num = search rules in
    let lowest_num : FitsSigned w128 c.reduce_over-lowest.result.num = search rules in
    let lowest_den : FitsSigned w128 c.reduce_over-lowest.result.den = search rules in
    let num_was = simp to_z-of_z at c.reduce_over-lowest.ensures.num in
    let both = positive_product dens.num _ (first_some g at.Start) (positive_product dens.den dens.common c.requires.positive c.requires.common) in
    same_value x.num x.den r.num r.den x.positive c.reduce_over-lowest.ensures.positive (simp to_z-of_z at c.from_parts.ensures.num) (simp to_z-of_z at c.from_parts.ensures.den)
    ∙ scaled_value r.num r.den r.common _ (dens.num *ℤ (dens.den *ℤ dens.common)) c.reduce_over-lowest.ensures.positive both (num_was ∙ num_is g at.In_ok-num) c.reduce_over-lowest.ensures.den
    ∙ sym ((summed g at.Start).value both)

pub returns-clause-kept : goal.returns-clause-kept
returns-clause-kept g c =
    let at = goal.at.returns-clause-kept g c in
    (summed g at.Start).kept (kept g at.In_ok-num)
