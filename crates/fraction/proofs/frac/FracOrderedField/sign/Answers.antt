use Rattle.std.proofs.Common.{rules, ◌≡◌, FitsSigned, to_z, of_z, to_z-of_z, arith, w32}
use Rattle.std.specs.Int.{w128, int_signum}
use Rattle.std.proofs.lemmas.Int.{ints}
use Rattle.fraction.proofs.Signs.{sign_positive, sign_zero, sign_negative}
use Rattle.fraction.proofs.frac.FracOrderedField.sign.Goals as goal
use Rattle.fraction.proofs.frac.FracOrderedField.sign.Goals.{After-signum}
use Rattle.fraction.proofs.frac.FracOrderedField.sign.Given.{Over}

sign_is : (g : Over) (c : After-signum g) → to_z w32 (of_z w32 (to_z w128 (of_z w128 c.signum.result))) ≡ int_signum c.args.self.num
sign_is g c =
    let num : FitsSigned w128 c.args.self.num = search rules in
    let wide : FitsSigned w128 c.signum.result = search rules in
    let narrow : FitsSigned w32 c.signum.result = omega (arith, ints, c.signum.ensures.lower_bound, c.signum.ensures.upper_bound) in
    simp to_z-of_z (simp to_z-of_z at c.signum.ensures.value)

pub returns-clause-negative : goal.returns-clause-negative
returns-clause-negative g c =
    sign_negative c.args.self.num c.args.self.den _ c.args.self.positive (sign_is g (goal.at.returns-clause-negative g c).After-signum)

pub returns-clause-zero : goal.returns-clause-zero
returns-clause-zero g c =
    sign_zero c.args.self.num c.args.self.den _ c.args.self.positive (sign_is g (goal.at.returns-clause-zero g c).After-signum)

pub returns-clause-positive : goal.returns-clause-positive
returns-clause-positive g c =
    sign_positive c.args.self.num c.args.self.den _ c.args.self.positive (sign_is g (goal.at.returns-clause-positive g c).After-signum)
