use Rattle.std.proofs.Common.{◌≡◌, ◌/◌, pos, ◌≤ℤ◌, unsigned_abs, FitsSigned, to_z-of_z, rules, sym, ap, subst, ◌∙◌, arith}
use Rattle.std.specs.Prelude.{int_div}
use Rattle.std.specs.Int.{w128}
use Rattle.std.proofs.lemmas.Int.{ints, fits_signed_from_abs}
use Rattle.whole.specs.Numbers.{gcd_of}
use Rattle.whole.proofs.Divisors.{pos-gcd_of}
use Rattle.corner_values.specs.Faults.{IsWholeProduct}
use Rattle.corner_values.proofs.WholeLaws.{above_zero, size_is, over_is, multiple_kept, multiple_wide}
use Rattle.corner_values.proofs.scale.multiple.Goals as goal

pub returns-in-Some-clause-exact : goal.returns-in-Some-clause-exact
returns-in-Some-clause-exact c =
    let a : FitsSigned w128 c.args.scale = c.ranges.scale in
    let d : FitsSigned w128 c.args.den = c.ranges.den in
    let k = multiple_kept c.args.scale c.args.den c.in-Some.product c.requires.scale c.requires.den (simp to_z-of_z at c.in-Some.ensures.exact) in
    let p : FitsSigned w128 c.in-Some.product = fits_signed_from_abs w128 c.in-Some.product k.within in
    simp to_z-of_z k.is_lcm

pub returns-in-Some-clause-positive : goal.returns-in-Some-clause-positive
returns-in-Some-clause-positive c =
    let a : FitsSigned w128 c.args.scale = c.ranges.scale in
    let d : FitsSigned w128 c.args.den = c.ranges.den in
    let k = multiple_kept c.args.scale c.args.den c.in-Some.product c.requires.scale c.requires.den (simp to_z-of_z at c.in-Some.ensures.exact) in
    let p : FitsSigned w128 c.in-Some.product = fits_signed_from_abs w128 c.in-Some.product k.within in
    simp to_z-of_z k.positive

pub returns-in-Some-clause-kept : goal.returns-in-Some-clause-kept
returns-in-Some-clause-kept c =
    let a : FitsSigned w128 c.args.scale = c.ranges.scale in
    let d : FitsSigned w128 c.args.den = c.ranges.den in
    let k = multiple_kept c.args.scale c.args.den c.in-Some.product c.requires.scale c.requires.den (simp to_z-of_z at c.in-Some.ensures.exact) in
    k.small

pub divided-requires : goal.divided-requires
divided-requires c =
    let a : FitsSigned w128 c.args.scale = c.ranges.scale in
    let d : FitsSigned w128 c.args.den = c.ranges.den in
    let g : FitsSigned w128 c.gcd.result = fits_signed_from_abs w128 c.gcd.result c.gcd.ensures.within in
    let is = simp to_z-of_z at c.gcd.ensures.exact in
    let some : pos 1 ≤ℤ c.gcd.result = subst (λ z. pos 1 ≤ℤ z) (sym is) (omega (arith, ints, pos-gcd_of (unsigned_abs c.args.scale) (unsigned_abs c.args.den) (above_zero c.args.scale c.requires.scale))) in
    simp to_z-of_z some

pub returns-in-None-clause-stuck : goal.returns-in-None-clause-stuck
returns-in-None-clause-stuck c =
    let a : FitsSigned w128 c.args.scale = c.ranges.scale in
    let d : FitsSigned w128 c.args.den = c.ranges.den in
    let g : FitsSigned w128 c.gcd.result = fits_signed_from_abs w128 c.gcd.result c.gcd.ensures.within in
    let is = simp to_z-of_z at c.gcd.ensures.exact in
    let q : FitsSigned w128 c.divided.result = search rules in
    let quotient = simp to_z-of_z at c.divided.ensures in
    let named = simp to_z-of_z at c.product_of.ensures in
    let left : c.divided.result ≡ pos (unsigned_abs c.args.scale / gcd_of (unsigned_abs c.args.scale) (unsigned_abs c.args.den)) = quotient ∙ ap (λ z. int_div c.args.scale z) is ∙ over_is c.args.scale _ c.requires.scale in
    record {
      operation = subst (λ x. IsWholeProduct c.args.column x (pos (unsigned_abs c.args.den)) c.product_of.result) left (subst (λ y. IsWholeProduct c.args.column c.divided.result y c.product_of.result) (size_is c.args.den c.requires.den) named);
      overflows = multiple_wide c.args.scale c.args.den (simp to_z-of_z at c.in-None.ensures.exact);
    }
