use Rattle.std.proofs.Common.{ap, ◌∙◌}
use Rattle.std.proofs.lemmas.Result.{IfOk-weaker, on_ok_weaker, on_err_weaker}
use Rattle.ordered_field.specs.Rational.{◌*ℚ◌}
use Rattle.fraction.specs.Value.{rational}
use Rattle.fraction.proofs.Signs.{size_from_apart, quotient_divides, quotient_wide, quotient_kept}
use Rattle.fraction.proofs.frac.FracOrderedField.div.Goals as goal

pub inverse-requires : goal.inverse-requires
inverse-requires g c = size_from_apart c.args.other.num c.args.other.den c.args.other.positive c.requires

pub returns-clause-exact : goal.returns-clause-exact
returns-clause-exact g c =
    let x = rational c.args.self.num c.args.self.den c.args.self.positive in
    let y = rational c.args.other.num c.args.other.den c.args.other.positive in
    let i = rational c.inverse.result.num c.inverse.result.den c.inverse.result.positive in
    IfOk-weaker c.mul.result _ _ (λ r e. ap (λ v. v *ℚ y) e ∙ quotient_divides x y i c.inverse.ensures) c.mul.ensures.exact

pub returns-clause-kept : goal.returns-clause-kept
returns-clause-kept g c =
    let x = rational c.args.self.num c.args.self.den c.args.self.positive in
    let y = rational c.args.other.num c.args.other.den c.args.other.positive in
    let i = rational c.inverse.result.num c.inverse.result.den c.inverse.result.positive in
    on_ok_weaker c.mul.result (quotient_kept x y i c.inverse.ensures g.L.Limit.LIMIT) c.mul.ensures.kept

pub returns-clause-wide : goal.returns-clause-wide
returns-clause-wide g c =
    let x = rational c.args.self.num c.args.self.den c.args.self.positive in
    let y = rational c.args.other.num c.args.other.den c.args.other.positive in
    let i = rational c.inverse.result.num c.inverse.result.den c.inverse.result.positive in
    on_err_weaker c.mul.result (quotient_wide x y i c.inverse.ensures g.L.Limit.LIMIT) c.mul.ensures.wide
