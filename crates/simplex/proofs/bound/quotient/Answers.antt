use Rattle.std.proofs.Common.{rules, unsigned_abs, FitsSigned, to_z-of_z, inl, inr, sym, subst, ◌∙◌, ap, pos}
use Rattle.std.specs.Int.{w128}
use Rattle.ordered_field.specs.Rational.{whole, ◌*ℚ◌}
use Rattle.ordered_field.specs.Wideness.{QuotientExceeds}
use Rattle.fraction.proofs.SumSteps.{on_err_of}
use Rattle.fraction.proofs.Dividing.{reduced_wide}
use Rattle.simplex.proofs.BoundLaws.{if_ok, on_ok, on_err, positive-apart, quotient_value, quotient_wide, quotient_kept}
use Rattle.simplex.proofs.bound.quotient.Goals as goal

pub returns-in_err-over-clause-wide : goal.returns-in_err-over-clause-wide
returns-in_err-over-clause-wide g c =
    let r = c.reduce-lowest.result in
    let n : FitsSigned w128 c.args.num = c.ranges.num in
    let d : FitsSigned w128 c.args.den = c.ranges.den in
    let den : FitsSigned w128 c.reduce-lowest.result.den = search rules in
    let n_is = simp to_z-of_z at c.reduce-lowest.ensures.num in
    let d_is = simp to_z-of_z at c.reduce-lowest.ensures.den in
    let wide = simp to_z-of_z at c.in_err-over.ensures.wide in
    on_err_of _ (reduced_wide r.num r.den r.common c.args.num c.args.den c.reduce-lowest.ensures.positive c.requires.positive n_is d_is c.reduce-lowest.ensures.lowest g.F.OrderedField.LIMIT (inr wide))

pub returns-in_err-number-clause-wide : goal.returns-in_err-number-clause-wide
returns-in_err-number-clause-wide g c =
    let r = c.reduce-lowest.result in
    let n : FitsSigned w128 c.args.num = c.ranges.num in
    let d : FitsSigned w128 c.args.den = c.ranges.den in
    let num : FitsSigned w128 c.reduce-lowest.result.num = search rules in
    let n_is = simp to_z-of_z at c.reduce-lowest.ensures.num in
    let d_is = simp to_z-of_z at c.reduce-lowest.ensures.den in
    let wide = simp to_z-of_z at c.in_err-number.ensures.wide in
    on_err_of _ (reduced_wide r.num r.den r.common c.args.num c.args.den c.reduce-lowest.ensures.positive c.requires.positive n_is d_is c.reduce-lowest.ensures.lowest g.F.OrderedField.LIMIT (inl wide))

pub div-requires : goal.div-requires
div-requires g c =
    let den : FitsSigned w128 c.reduce-lowest.result.den = search rules in
    let over_is = simp to_z-of_z at c.in_ok-over.ensures.exact in
    λ none. positive-apart c.reduce-lowest.result.den c.reduce-lowest.ensures.positive (sym over_is ∙ none)

pub returns-clause-exact : goal.returns-clause-exact
returns-clause-exact g c =
    let value = g.F.OrderedField.value in
    let limit = g.F.OrderedField.LIMIT in
    let r = c.reduce-lowest.result in
    let n : FitsSigned w128 c.args.num = c.ranges.num in
    let d : FitsSigned w128 c.args.den = c.ranges.den in
    let num : FitsSigned w128 c.reduce-lowest.result.num = search rules in
    let den : FitsSigned w128 c.reduce-lowest.result.den = search rules in
    let n_is = simp to_z-of_z at c.reduce-lowest.ensures.num in
    let d_is = simp to_z-of_z at c.reduce-lowest.ensures.den in
    let over_is = simp to_z-of_z at c.in_ok-over.ensures.exact in
    let number_is = simp to_z-of_z at c.in_ok-number.ensures.exact in
    if_ok c.div.result (λ x e. quotient_value r.num r.den r.common c.args.num c.args.den c.reduce-lowest.ensures.positive c.requires.positive n_is d_is c.reduce-lowest.ensures.lowest (value x) (ap (λ y. value x *ℚ y) (sym over_is) ∙ e ∙ number_is)) c.div.ensures.exact

pub returns-clause-kept : goal.returns-clause-kept
returns-clause-kept g c =
    let value = g.F.OrderedField.value in
    let limit = g.F.OrderedField.LIMIT in
    let r = c.reduce-lowest.result in
    let n : FitsSigned w128 c.args.num = c.ranges.num in
    let d : FitsSigned w128 c.args.den = c.ranges.den in
    let num : FitsSigned w128 c.reduce-lowest.result.num = search rules in
    let den : FitsSigned w128 c.reduce-lowest.result.den = search rules in
    let n_is = simp to_z-of_z at c.reduce-lowest.ensures.num in
    let d_is = simp to_z-of_z at c.reduce-lowest.ensures.den in
    let over_is = simp to_z-of_z at c.in_ok-over.ensures.exact in
    let number_is = simp to_z-of_z at c.in_ok-number.ensures.exact in
    on_ok c.div.result (λ kept. quotient_kept r.num r.den r.common c.args.num c.args.den c.reduce-lowest.ensures.positive c.requires.positive n_is d_is c.reduce-lowest.ensures.lowest limit (λ w. kept (subst (λ y. QuotientExceeds limit y (value c.in_ok-over.over)) (sym number_is) (subst (λ y. QuotientExceeds limit (whole r.num) y) (sym over_is) w)))) c.div.ensures.kept

pub returns-clause-wide : goal.returns-clause-wide
returns-clause-wide g c =
    let value = g.F.OrderedField.value in
    let limit = g.F.OrderedField.LIMIT in
    let r = c.reduce-lowest.result in
    let n : FitsSigned w128 c.args.num = c.ranges.num in
    let d : FitsSigned w128 c.args.den = c.ranges.den in
    let num : FitsSigned w128 c.reduce-lowest.result.num = search rules in
    let den : FitsSigned w128 c.reduce-lowest.result.den = search rules in
    let n_is = simp to_z-of_z at c.reduce-lowest.ensures.num in
    let d_is = simp to_z-of_z at c.reduce-lowest.ensures.den in
    let over_is = simp to_z-of_z at c.in_ok-over.ensures.exact in
    let number_is = simp to_z-of_z at c.in_ok-number.ensures.exact in
    on_err c.div.result (λ w. quotient_wide r.num r.den r.common c.args.num c.args.den c.reduce-lowest.ensures.positive c.requires.positive n_is d_is c.reduce-lowest.ensures.lowest limit (subst (λ y. QuotientExceeds limit y (whole r.den)) number_is (subst (λ y. QuotientExceeds limit (value c.in_ok-number.number) y) over_is w))) c.div.ensures.wide
