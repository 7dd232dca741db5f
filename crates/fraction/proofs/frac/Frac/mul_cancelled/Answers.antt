use Rattle.std.proofs.Common.{rules, ◌≡◌, ◌<◌, ◌≤ℤ◌, ◌*ℤ◌, pos, unsigned_abs, FitsSigned, to_z-of_z, inl, inr, ◌⊎◌, subst, subst₂, sym, ◌∙◌}
use Rattle.std.specs.Int.{w128}
use Rattle.ordered_field.specs.Rational.{◌*ℚ◌}
use Rattle.ordered_field.specs.Wideness.{Exceeds}
use Rattle.lowest_terms.specs.Coprime.{IsCoprime}
use Rattle.fraction.specs.Value.{ratio, rational, same_value, in_lowest_terms}
use Rattle.fraction.proofs.Pairs.{exceeds_not}
use Rattle.fraction.proofs.SumSteps.{on_err_of}
use Rattle.fraction.proofs.Dividing.{exceeds}
use Rattle.fraction.proofs.Multiplying.{IsCancelled, positive_product, cancelled_coprime, cancelled_value}
use Rattle.fraction.proofs.frac.Frac.mul_cancelled.Goals as goal
use Rattle.fraction.proofs.frac.Frac.mul_cancelled.Goals.{Start, In_ok-den}
use Rattle.fraction.proofs.frac.Frac.mul_cancelled.Given.{Over}

cancelled : (g : Over) (c : Start g) → IsCancelled c.args.self.num c.args.self.den c.args.other.num c.args.other.den c.args.left.num c.args.left.den c.args.left.common c.args.right.num c.args.right.den c.args.right.common
cancelled g c =
    record {
      left_lowest = c.args.self.lowest;
      right_lowest = c.args.other.lowest;
      n_is = c.requires.left.num;
      d_is = c.requires.left.den;
      m_is = c.requires.right.num;
      b_is = c.requires.right.den;
      q_some = c.requires.left.positive;
      g_some = c.requires.left.common;
      s_some = c.requires.right.positive;
      h_some = c.requires.right.common;
      first_lowest = c.requires.left.lowest;
      second_lowest = c.requires.right.lowest;
    }

-- what is left of the two fractions, multiplied, is their product
product_is : (g : Over) (c : Start g) (both : pos 1 ≤ℤ (c.args.right.den *ℤ c.args.left.den)) → rational (c.args.left.num *ℤ c.args.right.num) (c.args.right.den *ℤ c.args.left.den) both ≡ rational c.args.self.num c.args.self.den c.args.self.positive *ℚ rational c.args.other.num c.args.other.den c.args.other.positive
product_is g c both =
    cancelled_value c.args.self.num c.args.self.den c.args.other.num c.args.other.den c.args.left.num c.args.left.den c.args.left.common c.args.right.num c.args.right.den c.args.right.common (cancelled g c) c.args.self.positive c.args.other.positive both

product_lowest : (g : Over) (c : Start g) → IsCoprime (unsigned_abs (c.args.left.num *ℤ c.args.right.num)) (unsigned_abs (c.args.right.den *ℤ c.args.left.den))
product_lowest g c =
    cancelled_coprime c.args.self.num c.args.self.den c.args.other.num c.args.other.den c.args.left.num c.args.left.den c.args.left.common c.args.right.num c.args.right.den c.args.right.common (cancelled g c)

product_positive : (g : Over) (c : Start g) → pos 1 ≤ℤ (c.args.right.den *ℤ c.args.left.den)
product_positive g c = positive_product c.args.right.den c.args.left.den c.requires.right.positive c.requires.left.positive

product_wide : (g : Over) (c : Start g) → (g.L.Limit.LIMIT < unsigned_abs (c.args.left.num *ℤ c.args.right.num)) ⊎ (g.L.Limit.LIMIT < unsigned_abs (c.args.right.den *ℤ c.args.left.den)) → Exceeds g.L.Limit.LIMIT (rational c.args.self.num c.args.self.den c.args.self.positive *ℚ rational c.args.other.num c.args.other.den c.args.other.positive)
product_wide g c h =
    exceeds g.L.Limit.LIMIT (c.args.left.num *ℤ c.args.right.num) (c.args.right.den *ℤ c.args.left.den) (product_positive g c) _ (product_lowest g c) (sym (product_is g c (product_positive g c))) h

pub returns-in_err-num-clause-wide : goal.returns-in_err-num-clause-wide
returns-in_err-num-clause-wide g c =
    let left : FitsSigned w128 c.args.left.num = search rules in
    let right : FitsSigned w128 c.args.right.num = search rules in
    on_err_of _ (product_wide g (goal.at.returns-in_err-num-clause-wide g c).Start (inl (simp to_z-of_z at c.in_err-num.ensures.wide)))

pub returns-in_err-den-clause-wide : goal.returns-in_err-den-clause-wide
returns-in_err-den-clause-wide g c =
    let left : FitsSigned w128 c.args.left.den = search rules in
    let right : FitsSigned w128 c.args.right.den = search rules in
    on_err_of _ (product_wide g (goal.at.returns-in_err-den-clause-wide g c).Start (inr (simp to_z-of_z at c.in_err-den.ensures.wide)))

num_is : (g : Over) (c : In_ok-den g) → c.in_ok-num.num ≡ c.args.left.num *ℤ c.args.right.num
num_is g c =
    let left : FitsSigned w128 c.args.left.num = search rules in
    let right : FitsSigned w128 c.args.right.num = search rules in
    simp to_z-of_z at c.in_ok-num.ensures.exact

den_is : (g : Over) (c : In_ok-den g) → c.in_ok-den.den ≡ c.args.right.den *ℤ c.args.left.den
den_is g c =
    let left : FitsSigned w128 c.args.left.den = search rules in
    let right : FitsSigned w128 c.args.right.den = search rules in
    simp to_z-of_z at c.in_ok-den.ensures.exact

pub from_parts-requires-clause-positive : goal.from_parts-requires-clause-positive
from_parts-requires-clause-positive g c =
    let at = goal.at.from_parts-requires-clause-positive g c in
    let den : FitsSigned w128 c.in_ok-den.den = search rules in
    simp to_z-of_z (subst (λ z. pos 1 ≤ℤ z) (sym (den_is g at.In_ok-den)) (product_positive g at.Start))

pub from_parts-requires-clause-lowest : goal.from_parts-requires-clause-lowest
from_parts-requires-clause-lowest g c =
    let at = goal.at.from_parts-requires-clause-lowest g c in
    let num : FitsSigned w128 c.in_ok-num.num = search rules in
    let den : FitsSigned w128 c.in_ok-den.den = search rules in
    subst₂ (λ x y. IsCoprime (unsigned_abs x) (unsigned_abs y))
    (sym (to_z-of_z num ∙ num_is g at.In_ok-den))
    (sym (to_z-of_z den ∙ den_is g at.In_ok-den))
    (product_lowest g at.Start)

pub returns-clause-exact : goal.returns-clause-exact
returns-clause-exact g c =
    let at = goal.at.returns-clause-exact g c in
    let x = c.from_parts.result in
    let num : FitsSigned w128 c.in_ok-num.num = search rules in
    let den : FitsSigned w128 c.in_ok-den.den = search rules in
    let both = product_positive g at.Start in
    same_value x.num x.den (c.args.left.num *ℤ c.args.right.num) (c.args.right.den *ℤ c.args.left.den) x.positive both
    ((simp to_z-of_z at c.from_parts.ensures.num) ∙ num_is g at.In_ok-den)
    ((simp to_z-of_z at c.from_parts.ensures.den) ∙ den_is g at.In_ok-den)
    ∙ product_is g at.Start both

pub returns-clause-kept : goal.returns-clause-kept
returns-clause-kept g c =
    let at = goal.at.returns-clause-kept g c in
    let left_num : FitsSigned w128 c.args.left.num = search rules in
    let right_num : FitsSigned w128 c.args.right.num = search rules in
    let left_den : FitsSigned w128 c.args.left.den = search rules in
    let right_den : FitsSigned w128 c.args.right.den = search rules in
    let num_within = simp to_z-of_z at c.in_ok-num.ensures.kept in
    let den_within = simp to_z-of_z at c.in_ok-den.ensures.kept in
    let both = product_positive g at.Start in
    let num = c.args.left.num *ℤ c.args.right.num in
    let den = c.args.right.den *ℤ c.args.left.den in
    subst (λ v. Exceeds g.L.Limit.LIMIT v → ⊥) (product_is g at.Start both)
    (exceeds_not g.L.Limit.LIMIT (ratio num den) (rational num den both) (in_lowest_terms num den both (product_lowest g at.Start)) num_within den_within)
