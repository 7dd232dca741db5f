use Rattle.std.proofs.Common.{◌≡◌, ◌*◌, ◌/◌, ◌≤◌, ℕ, ℤ, pos, unsigned_abs, ap, sym, subst, ◌∙◌}
use Rattle.std.specs.Int.{w128}
use Rattle.std.proofs.lemmas.Int.{to_z-of_z}
use Rattle.trace_picture.specs.Places.{Shows, above_edge, range_of, up_of}
use Rattle.trace_picture.specs.declared.scales.Scale.{Scale}
use Rattle.trace_picture.proofs.scales.Scale.up.Goals as goal

is_up : (s : Scale) (amount : ℤ) (part scaled range : ℕ) → above_edge s amount ≡ pos part → scaled ≡ part * 6700 → range ≡ range_of s
    → scaled / range ≡ up_of s amount
is_up s amount part scaled range above product total =
    ap (λ (n : ℕ). n / range) product ∙ ap (λ (n : ℕ). (part * 6700) / n) total
    ∙ ap (λ (z : ℤ). (unsigned_abs z * 6700) / range_of s) (sym above)

pub returns-clause-exact : goal.returns-clause-exact
returns-clause-exact c =
    let s = c.args.self.now in
    let above = ap (above_edge s) (sym (to_z-of_z w128 c.args.amount c.ranges.amount)) ∙ c.in_ok-above.ensures in
    is_up s c.args.amount c.in_ok-above.above c.in-Some-Some.scaled c.in-Some-Some.range above c.in-Some-Some.ensures.1 c.in-Some-Some.ensures'

pub returns-clause-within : goal.returns-clause-within
returns-clause-within c =
    let s = c.args.self.now in
    let above = ap (above_edge s) (sym (to_z-of_z w128 c.args.amount c.ranges.amount)) ∙ c.in_ok-above.ensures in
    record {
      part = c.in_ok-above.above;
      from = above;
      to = subst (λ (n : ℕ). n ≤ 6700)
          (is_up s c.args.amount c.in_ok-above.above c.in-Some-Some.scaled c.in-Some-Some.range above c.in-Some-Some.ensures.1 c.in-Some-Some.ensures')
          c.if-scaled-range-gt-HEIGHT.false;
    }
