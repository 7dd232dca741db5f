use Rattle.std.proofs.Common.{to_z-of_z, FitsSigned, sym, ap, ◌∙◌}
use Rattle.std.specs.Int.{w128}
use Rattle.ordered_field.specs.Rational.{◌*ℚ◌}
use Rattle.simplex.proofs.BoundLaws.{if_ok, positive-apart}
use Rattle.lra_theory.proofs.excess.quotient.Goals as goal

pub div-requires : goal.div-requires
div-requires g c =
    let d : FitsSigned w128 c.args.den = c.ranges.den in
    let over_is = simp to_z-of_z at c.in_ok-over.ensures.exact in
    λ none. positive-apart c.args.den c.requires (sym over_is ∙ none)

pub returns : goal.returns
returns g c =
    let value = g.F.OrderedField.value in
    let n : FitsSigned w128 c.args.num = c.ranges.num in
    let d : FitsSigned w128 c.args.den = c.ranges.den in
    let over_is = simp to_z-of_z at c.in_ok-over.ensures.exact in
    let number_is = simp to_z-of_z at c.in_ok-number.ensures.exact in
    if_ok c.div.result (λ x e. ap (λ y. value x *ℚ y) (sym over_is) ∙ e ∙ number_is) c.div.ensures.exact
