use Rattle.std.proofs.Common.{◌≡◌, ◌≤◌, [], ◌∷◌, ◌++◌, length, map, unsigned_abs, to_z, of_z, sym, ap, subst, ◌∙◌, arith}
use Rattle.std.specs.Int.{w128}
use Rattle.std.specs.List.{All}
use Rattle.std.proofs.lemmas.Int.{to_z-of_z, fits_signed_from_abs}
use Rattle.std.proofs.lemmas.List.{length-map, take_all}
use Rattle.std.proofs.lemmas.List.Elements.{All-push}
use Rattle.whole.specs.Numbers.{IsWithin}
use Rattle.corner_values.specs.Scale.{numerators}
use Rattle.corner_values.specs.Faults.{IsStuckNumerator}
use Rattle.corner_values.proofs.ScaleLaws.{pair_at, numerators-more, numerators_fit-more, numerators_fit-all, stuck_numerator}
use Rattle.corner_values.proofs.scale.numerators.Goals as goal

pub loop-column-preserved : goal.loop-column-preserved
loop-column-preserved g c =
    let pair = g.F.OrderedField.pair in
    let ps = map pair c.args.numbers.now in
    let l = unsigned_abs (to_z w128 (of_z w128 c.args.scale)) in
    let i = c.loop-column.column in
    let p = pair c.index-numbers-column.result in
    let there = pair_at pair c.args.numbers.now i c.index-numbers-column.result c.loop-column-test.true c.index-numbers-column.is in
    let inv = c.loop-column.invariant in
    let number = to_z-of_z w128 c.in-Ok.numerator (fits_signed_from_abs w128 c.in-Ok.numerator c.in-Ok.ensures.within) in
    let items : c.push.new.self.items ≡ c.loop-column.numerators.items ++ c.in-Ok.numerator ∷ [] = c.in_ok-push-in-Ok.ensures.items ∙ ap (λ z. c.loop-column.numerators.items ++ z ∷ []) number in
    record {
      done = items ∙ numerators-more l ps i p c.loop-column.numerators.items c.in-Ok.numerator inv.done there c.in-Ok.ensures.exact;
      within = subst (λ ns. All IsWithin ns) (sym items) (All-push IsWithin c.loop-column.numerators.items c.in-Ok.numerator inv.within c.in-Ok.ensures.within);
      kept = numerators_fit-more ps l i p inv.kept there c.in-Ok.ensures.kept;
    }

pub returns-in-Err-clause-stuck : goal.returns-in-Err-clause-stuck
returns-in-Err-clause-stuck g c =
    let pair = g.F.OrderedField.pair in
    let ps = map pair c.args.numbers.now in
    let l = unsigned_abs (to_z w128 (of_z w128 c.args.scale)) in
    let i = c.loop-column.column in
    let there = pair_at pair c.args.numbers.now i c.index-numbers-column.result c.loop-column-test.true c.index-numbers-column.is in
    subst (λ z. IsStuckNumerator ps (unsigned_abs z) c.in-Err.stuck) (to_z-of_z w128 c.args.scale c.ranges.scale) (stuck_numerator ps l i (pair c.index-numbers-column.result) c.in-Err.stuck there c.in-Err.ensures.stuck)

pub returns-clause-exact : goal.returns-clause-exact
returns-clause-exact g c =
    let pair = g.F.OrderedField.pair in
    let ps = map pair c.args.numbers.now in
    let l = unsigned_abs (to_z w128 (of_z w128 c.args.scale)) in
    let all : length ps ≤ c.loop-column.column = omega (arith, length-map c.args.numbers.now pair, c.loop-column-test.false) in
    subst (λ z. c.loop-column.numerators.items ≡ numerators (unsigned_abs z) ps) (to_z-of_z w128 c.args.scale c.ranges.scale) (c.loop-column.invariant.done ∙ ap (λ qs. numerators l qs) (take_all c.loop-column.column ps all))

pub returns-clause-kept : goal.returns-clause-kept
returns-clause-kept g c s =
    let pair = g.F.OrderedField.pair in
    let ps = map pair c.args.numbers.now in
    let l = unsigned_abs (to_z w128 (of_z w128 c.args.scale)) in
    let all : c.loop-column.column ≡ length ps = omega (arith, length-map c.args.numbers.now pair, c.loop-column-test.false, c.loop-column.auto.column-end) in
    subst (λ z. IsStuckNumerator ps (unsigned_abs z) s → ⊥) (to_z-of_z w128 c.args.scale c.ranges.scale) (numerators_fit-all ps l c.loop-column.column all c.loop-column.invariant.kept s)
