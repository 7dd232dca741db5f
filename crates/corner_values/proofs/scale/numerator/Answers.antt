use Rattle.std.proofs.Common.{◌≡◌, ◌^◌, ◌≤◌, ◌/◌, ◌*ℤ◌, pos, unsigned_abs, FitsSigned, to_z-of_z, rules, ap, subst, ◌∙◌}
use Rattle.std.specs.Prelude.{int_div}
use Rattle.std.specs.Int.{w128}
use Rattle.corner_values.specs.Faults.{IsWholeProduct}
use Rattle.corner_values.proofs.WholeLaws.{over_is, product_wide}
use Rattle.corner_values.proofs.scale.numerator.Goals as goal

pub returns-in-None-clause-stuck : goal.returns-in-None-clause-stuck
returns-in-None-clause-stuck g c =
    let p = g.F.OrderedField.pair c.args.number in
    let a : FitsSigned w128 c.args.scale = c.ranges.scale in
    let n : FitsSigned w128 c.parts-num.result.0 = search rules in
    let d : FitsSigned w128 c.parts-num.result.1 = search rules in
    let t : FitsSigned w128 c.divided-times.result = search rules in
    let named = simp to_z-of_z at c.product_of.ensures in
    let exact = simp to_z-of_z at c.in-None.ensures.exact in
    let quotient = simp to_z-of_z at c.divided-times.ensures in
    let times : c.divided-times.result ≡ pos (unsigned_abs c.args.scale / p.den) = quotient ∙ ap (λ z. int_div c.args.scale z) c.parts-num.ensures.den ∙ over_is c.args.scale p.den c.requires in
    record {
      operation = subst (λ x. IsWholeProduct c.args.column x (pos (unsigned_abs c.args.scale / p.den)) c.product_of.result) c.parts-num.ensures.num (subst (λ y. IsWholeProduct c.args.column c.parts-num.result.0 y c.product_of.result) times named);
      overflows = subst (λ x. 2 ^ 127 ≤ unsigned_abs (x *ℤ pos (unsigned_abs c.args.scale / p.den))) c.parts-num.ensures.num (subst (λ y. 2 ^ 127 ≤ unsigned_abs (c.parts-num.result.0 *ℤ y)) times (product_wide c.parts-num.result.0 c.divided-times.result exact));
    }
