use Rattle.std.proofs.Common.{rules, ◌≡◌, pos, ◌≤ℤ◌, ◌*ℤ◌, FitsSigned, to_z-of_z, subst, subst₂, sym, w64}
use Rattle.lowest_terms.proofs.Reduction.{reduced_lowest, reduced_positive}
use Rattle.fraction.proofs.Widths.{same_coprime}
use Rattle.fraction.proofs.short_terms.reduce_short.Goals as goal

pub quotient-num-requires-clause-divides : goal.quotient-num-requires-clause-divides
quotient-num-requires-clause-divides c =
    let common : FitsSigned w64 c.common_divisor-common.result = search rules in
    simp to_z-of_z (c.common_divisor-common.ensures.greatest.0)

pub quotient-den-requires-clause-divides : goal.quotient-den-requires-clause-divides
quotient-den-requires-clause-divides c =
    let common : FitsSigned w64 c.common_divisor-common.result = search rules in
    simp to_z-of_z (c.common_divisor-common.ensures.greatest.1)

pub returns : goal.returns
returns c =
    let num : FitsSigned w64 c.args.num = c.ranges.num in
    let den : FitsSigned w64 c.args.den = c.ranges.den in
    let common : FitsSigned w64 c.common_divisor-common.result = search rules in
    let left : FitsSigned w64 c.quotient-num.result = search rules in
    let right : FitsSigned w64 c.quotient-den.result = search rules in
    let n_is = simp to_z-of_z at c.quotient-num.ensures in
    let d_is = simp to_z-of_z at c.quotient-den.ensures in
    let greatest = simp to_z-of_z at c.common_divisor-common.ensures.greatest in
    let some = c.common_divisor-common.ensures.positive in
    let same_common = simp to_z-of_z at c.widened.ensures.common in
    let same_num = simp to_z-of_z at c.widened.ensures.num in
    let same_den = simp to_z-of_z at c.widened.ensures.den in
    record {
      common = subst (λ z. pos 1 ≤ℤ z) (sym same_common) some;
      num = subst₂ (λ n g. n *ℤ g ≡ c.args.num) (sym same_num) (sym same_common) n_is;
      den = subst₂ (λ d g. d *ℤ g ≡ c.args.den) (sym same_den) (sym same_common) d_is;
      positive = subst (λ z. pos 1 ≤ℤ z) (sym same_den) (reduced_positive c.args.den c.common_divisor-common.result c.quotient-den.result c.requires some d_is);
      lowest =
          same_coprime _ _ c.quotient-num.result c.quotient-den.result same_num same_den
          (reduced_lowest c.args.num c.args.den c.common_divisor-common.result c.quotient-num.result c.quotient-den.result greatest some n_is d_is);
    }
