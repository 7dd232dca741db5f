use Rattle.std.proofs.Common.{◌∙◌, arith}
use Rattle.std.specs.Int.{w128}
use Rattle.std.proofs.lemmas.Int.{ints, quot_is, quot_fits}
use Rattle.lra_theory.proofs.UnitLaws.{int_div-sizes}
use Rattle.lra_theory.proofs.clash.quotient.Goals as goal

pub returns-clause-exact : goal.returns-clause-exact
returns-clause-exact c =
    let a = c.args in
    quot_is w128 a.left a.right c.ranges.left c.ranges.right (quot_fits w128 a.left a.right c.ranges.left (omega (arith, ints)))
    ∙ int_div-sizes a.left a.right c.requires.left c.requires.right
