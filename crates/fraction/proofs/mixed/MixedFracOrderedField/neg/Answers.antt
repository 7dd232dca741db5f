use Rattle.std.proofs.Common.{neg_ℤ, ap, sym, ◌∙◌}
use Rattle.ordered_field.specs.Rational.{neg_ℚ}
use Rattle.fraction.specs.Mixed.{kept_value}
use Rattle.fraction.specs.Value.{same_value}
use Rattle.fraction.proofs.Signs.{opposite_value}
use Rattle.fraction.proofs.Kept.{to_kept}
use Rattle.fraction.proofs.mixed.MixedFracOrderedField.neg.Goals as goal

pub returns-in-Short : goal.returns-in-Short
returns-in-Short c =
    let s = c.in-Short.short in
    let r = c.neg.result in
    same_value r.num r.den (neg_ℤ s.num) s.den r.positive s.positive c.neg.ensures.num c.neg.ensures.den
    ∙ opposite_value s.num s.den s.positive
    ∙ ap (λ k. neg_ℚ (kept_value k)) (sym c.in-Short.is)

pub returns-in-Long : goal.returns-in-Long
returns-in-Long c =
    let x = c.neg-in-Long.result in
    to_kept c.narrowed.result.kept x.num x.den x.positive c.narrowed.ensures.num c.narrowed.ensures.den
    ∙ c.neg-in-Long.ensures
    ∙ ap (λ k. neg_ℚ (kept_value k)) (sym c.in-Long.is)
