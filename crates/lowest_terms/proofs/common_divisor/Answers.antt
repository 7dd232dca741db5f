use Rattle.std.proofs.Common.{FitsSigned, inl, inr, arith, rules, to_z-of_z}
use Rattle.std.proofs.lemmas.Int.{ints}
use Rattle.std.specs.Int.{w128}
use Rattle.lowest_terms.proofs.Reduction.{one_divides_all, divisor_positive}
use Rattle.lowest_terms.proofs.common_divisor.Goals as goal

pub returns-then-num-eq1-clause-greatest : goal.returns-then-num-eq1-clause-greatest
returns-then-num-eq1-clause-greatest c =
    let a = c.args in
    one_divides_all a.num a.den (elim c.then-num-eq1.either [ inl one ↦ inl (omega (arith, ints)) | inr one ↦ inr (omega (arith, ints)) ])

pub returns-clause-greatest : goal.returns-clause-greatest
returns-clause-greatest c =
    let num : FitsSigned w128 c.args.num = c.ranges.num in
    let den : FitsSigned w128 c.args.den = c.ranges.den in
    let common : FitsSigned w128 c.gcd.result = search rules in
    simp to_z-of_z (simp to_z-of_z at c.gcd.ensures.greatest)

pub returns-clause-positive : goal.returns-clause-positive
returns-clause-positive c =
    let num : FitsSigned w128 c.args.num = c.ranges.num in
    let den : FitsSigned w128 c.args.den = c.ranges.den in
    let common : FitsSigned w128 c.gcd.result = search rules in
    simp to_z-of_z
    (divisor_positive c.gcd.result c.args.den _ c.gcd.ensures.exact (simp to_z-of_z at c.gcd.ensures.greatest.1) c.requires.positive)
