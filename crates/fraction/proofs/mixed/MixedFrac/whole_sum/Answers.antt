use Rattle.std.proofs.Common.{◌≤◌, unsigned_abs, ap₂, sym, ◌∙◌, subst, subst₂, arith, lit≤}
use Rattle.ordered_field.specs.Rational.{◌+ℚ◌}
use Rattle.ordered_field.specs.Wideness.{SumIsWide}
use Rattle.fraction.specs.Mixed.{limit, kept_value}
use Rattle.fraction.proofs.WholeParts.{whole_sum_value, whole_sum_fits}
use Rattle.fraction.proofs.mixed.MixedFrac.whole_sum.Goals as goal

pub returns-in_ok-sum-in-Short-Short-clause-exact : goal.returns-in_ok-sum-in-Short-Short-clause-exact
returns-in_ok-sum-in-Short-Short-clause-exact c =
    let m = c.in-Short-Short.left in
    let n = c.in-Short-Short.right in
    let s = c.in_ok-sum-in-Short-Short.sum in
    let e = c.in_ok-sum-in-Short-Short.ensures in
    whole_sum_value m.num m.den n.num n.den s.num s.den m.positive n.positive s.positive e.0.0 e.0.1 e.0.2 e.1
    ∙ ap₂ (λ j k. kept_value j +ℚ kept_value k) (sym c.in-Short-Short.is-0) (sym c.in-Short-Short.is-1)

pub returns-in_ok-sum-in-Short-Short-clause-kept : goal.returns-in_ok-sum-in-Short-Short-clause-kept
returns-in_ok-sum-in-Short-Short-clause-kept c h =
    let m = c.in-Short-Short.left in
    let n = c.in-Short-Short.right in
    let s = c.in_ok-sum-in-Short-Short.sum in
    let e = c.in_ok-sum-in-Short-Short.ensures in
    whole_sum_fits limit m.num m.den n.num n.den m.positive n.positive e.0.0 e.0.1 (lit≤ tt)
    (omega (arith, m.num_short))
    (omega (arith, n.num_short))
    (subst (λ z. unsigned_abs z ≤ limit) e.1 (omega (arith, s.num_short)))
    (subst₂ (λ j k. SumIsWide limit (kept_value j) (kept_value k)) c.in-Short-Short.is-0 c.in-Short-Short.is-1 h)
