use Rattle.std.proofs.Common.{FitsSigned, rules, to_z-of_z}
use Rattle.std.specs.Int.{w128}
use Rattle.lowest_terms.proofs.Reduction.{reduced_lowest, reduced_positive, reduced_unique}
use Rattle.lowest_terms.proofs.reduce.Goals as goal

pub quotient-requires-clause-divides : goal.quotient-requires-clause-divides
quotient-requires-clause-divides c =
    let common : FitsSigned w128 c.common_divisor-common.result = search rules in
    simp to_z-of_z (c.common_divisor-common.ensures.greatest.0)

pub quotient-requires-2-clause-divides : goal.quotient-requires-2-clause-divides
quotient-requires-2-clause-divides c =
    let common : FitsSigned w128 c.common_divisor-common.result = search rules in
    simp to_z-of_z (c.common_divisor-common.ensures.greatest.1)

pub returns-clause-greatest : goal.returns-clause-greatest
returns-clause-greatest c =
    let num : FitsSigned w128 c.args.num = c.ranges.num in
    let den : FitsSigned w128 c.args.den = c.ranges.den in
    let common : FitsSigned w128 c.common_divisor-common.result = search rules in
    simp to_z-of_z (simp to_z-of_z at c.common_divisor-common.ensures.greatest)

pub returns-clause-lowest : goal.returns-clause-lowest
returns-clause-lowest c =
    let num : FitsSigned w128 c.args.num = c.ranges.num in
    let den : FitsSigned w128 c.args.den = c.ranges.den in
    let common : FitsSigned w128 c.common_divisor-common.result = search rules in
    let left : FitsSigned w128 c.quotient.result = search rules in
    let right : FitsSigned w128 c.quotient-2.result = search rules in
    simp to_z-of_z
    (reduced_lowest c.args.num c.args.den c.common_divisor-common.result c.quotient.result c.quotient-2.result
    (simp to_z-of_z at c.common_divisor-common.ensures.greatest)
    c.common_divisor-common.ensures.positive
    (simp to_z-of_z at c.quotient.ensures)
    (simp to_z-of_z at c.quotient-2.ensures))

pub returns-clause-unique : goal.returns-clause-unique
returns-clause-unique c =
    let num : FitsSigned w128 c.args.num = c.ranges.num in
    let den : FitsSigned w128 c.args.den = c.ranges.den in
    let common : FitsSigned w128 c.common_divisor-common.result = search rules in
    let left : FitsSigned w128 c.quotient.result = search rules in
    let right : FitsSigned w128 c.quotient-2.result = search rules in
    let n_is = simp to_z-of_z at c.quotient.ensures in
    let d_is = simp to_z-of_z at c.quotient-2.ensures in
    let positive = c.common_divisor-common.ensures.positive in
    simp to_z-of_z
    (reduced_unique c.args.num c.args.den c.common_divisor-common.result c.quotient.result c.quotient-2.result
    positive
    (reduced_positive c.args.den c.common_divisor-common.result c.quotient-2.result c.requires.positive positive d_is)
    (reduced_lowest c.args.num c.args.den c.common_divisor-common.result c.quotient.result c.quotient-2.result (simp to_z-of_z at c.common_divisor-common.ensures.greatest) positive n_is d_is)
    n_is
    d_is)
