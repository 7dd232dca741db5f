use Rattle.std.proofs.Common.{◌≡◌, ◌+◌, ◌*◌, ◌/◌, ◌^◌, ◌<◌, pos, ◌≤ℤ◌, length, take, map, unsigned_abs, to_z, of_z, FitsSigned, rules, sym, ap, subst, ◌∙◌, arith}
use Rattle.std.specs.Int.{w128}
use Rattle.std.proofs.lemmas.Int.{ints, to_z-of_z}
use Rattle.std.proofs.lemmas.List.{length-map}
use Rattle.whole.specs.Numbers.{IsLcm, gcd_of}
use Rattle.corner_values.specs.Scale.{IsScale}
use Rattle.corner_values.specs.Faults.{IsWideMultiple}
use Rattle.corner_values.proofs.ScaleLaws.{pair_at, front_more, IsScale-none, IsScale-more, multiples_fit-more, multiples_fit-all, stuck_multiple}
use Rattle.corner_values.proofs.scale.scale.Goals as goal

pub loop-column-init : goal.loop-column-init
loop-column-init g c = record {
  is_scale = IsScale-none;
  positive = omega (arith, ints);
  kept = λ s j p l h _ _ _. absurd (omega (arith, h));
}

pub loop-column-preserved : goal.loop-column-preserved
loop-column-preserved g c =
    let pair = g.F.OrderedField.pair in
    let ps = map pair c.args.numbers.now in
    let i = c.loop-column.column in
    let p = pair c.index-numbers-column.result in
    let m = c.in-Ok.product in
    let inv = c.loop-column.invariant in
    let there = pair_at pair c.args.numbers.now i c.index-numbers-column.result c.loop-column-test.true c.index-numbers-column.is in
    let d : FitsSigned w128 c.parts-den.result.1 = search rules in
    let f : FitsSigned w128 c.in-Ok.product = search rules in
    let den = to_z-of_z w128 c.parts-den.result.1 d ∙ c.parts-den.ensures.den in
    let product = to_z-of_z w128 c.in-Ok.product f in
    let bits = c.loop-column.scale-is in
    let held : IsScale (take c.loop-column.column (map g.F.OrderedField.pair c.args.numbers.now)) (unsigned_abs c.loop-column.scale) = subst (λ k. IsScale (take c.loop-column.column (map g.F.OrderedField.pair c.args.numbers.now)) (unsigned_abs k)) bits inv.is_scale in
    let lcm : IsLcm (unsigned_abs c.loop-column.scale) p.den (unsigned_abs c.in-Ok.product) = subst (λ k. IsLcm (unsigned_abs c.loop-column.scale) (unsigned_abs k) (unsigned_abs c.in-Ok.product)) den (subst (λ k. IsLcm (unsigned_abs k) (unsigned_abs (to_z w128 (of_z w128 c.parts-den.result.1))) (unsigned_abs c.in-Ok.product)) bits c.in-Ok.ensures.exact) in
    let small : unsigned_abs c.loop-column.scale / gcd_of (unsigned_abs c.loop-column.scale) p.den * p.den < 2 ^ 127 = subst (λ k. unsigned_abs c.loop-column.scale / gcd_of (unsigned_abs c.loop-column.scale) (unsigned_abs k) * unsigned_abs k < 2 ^ 127) den (subst (λ k. unsigned_abs k / gcd_of (unsigned_abs k) (unsigned_abs (to_z w128 (of_z w128 c.parts-den.result.1))) * unsigned_abs (to_z w128 (of_z w128 c.parts-den.result.1)) < 2 ^ 127) bits c.in-Ok.ensures.kept) in
    record {
      is_scale = subst (λ k. IsScale (take (i + 1) ps) (unsigned_abs k)) (sym product) (subst (λ qs. IsScale qs (unsigned_abs m)) (sym (front_more ps i p there)) (IsScale-more (take i ps) p (unsigned_abs c.loop-column.scale) (unsigned_abs m) held lcm));
      positive = subst (λ k. pos 1 ≤ℤ k) (sym product) c.in-Ok.ensures.positive;
      kept = multiples_fit-more ps i p (unsigned_abs c.loop-column.scale) inv.kept there held small;
    }

pub returns-in-Err-clause-stuck : goal.returns-in-Err-clause-stuck
returns-in-Err-clause-stuck g c =
    let pair = g.F.OrderedField.pair in
    let ps = map pair c.args.numbers.now in
    let i = c.loop-column.column in
    let p = pair c.index-numbers-column.result in
    let there = pair_at pair c.args.numbers.now i c.index-numbers-column.result c.loop-column-test.true c.index-numbers-column.is in
    let d : FitsSigned w128 c.parts-den.result.1 = search rules in
    let den = to_z-of_z w128 c.parts-den.result.1 d ∙ c.parts-den.ensures.den in
    let wide : IsWideMultiple c.loop-column.column (unsigned_abs c.loop-column.scale) p.den c.in-Err.stuck = subst (λ k. IsWideMultiple c.loop-column.column (unsigned_abs c.loop-column.scale) (unsigned_abs k) c.in-Err.stuck) den (subst (λ k. IsWideMultiple c.loop-column.column (unsigned_abs k) (unsigned_abs (to_z w128 (of_z w128 c.parts-den.result.1))) c.in-Err.stuck) c.loop-column.scale-is c.in-Err.ensures.stuck) in
    let held : IsScale (take c.loop-column.column (map g.F.OrderedField.pair c.args.numbers.now)) (unsigned_abs c.loop-column.scale) = subst (λ k. IsScale (take c.loop-column.column (map g.F.OrderedField.pair c.args.numbers.now)) (unsigned_abs k)) c.loop-column.scale-is c.loop-column.invariant.is_scale in
    stuck_multiple ps i p (unsigned_abs c.loop-column.scale) c.in-Err.stuck there held wide

pub returns-clause-kept : goal.returns-clause-kept
returns-clause-kept g c =
    let pair = g.F.OrderedField.pair in
    let ps = map pair c.args.numbers.now in
    let all : c.loop-column.column ≡ length ps = omega (arith, length-map c.args.numbers.now pair, c.loop-column-test.false, c.loop-column.auto.column-end) in
    multiples_fit-all ps c.loop-column.column all c.loop-column.invariant.kept
