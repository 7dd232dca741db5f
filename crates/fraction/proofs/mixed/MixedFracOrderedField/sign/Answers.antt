use Rattle.std.proofs.Common.{rules, ◌≡◌, pos, negsuc, ◌↔◌, FitsSigned, to_z-of_z, subst₂, sym, w32}
use Rattle.ordered_field.specs.Rational.{whole}
use Rattle.ordered_field.specs.Order.{◌<ℚ◌}
use Rattle.fraction.proofs.Kept.{from_kept}
use Rattle.fraction.proofs.mixed.MixedFracOrderedField.sign.Goals as goal

pub returns-clause-negative : goal.returns-clause-negative
returns-clause-negative c =
    let w = c.widened.result in
    let sign : FitsSigned w32 c.sign.result = search rules in
    subst₂ (λ s v. (s ≡ negsuc 0) ↔ (v <ℚ whole (pos 0)))
    (sym (to_z-of_z sign))
    (from_kept c.args.self.kept w.num w.den w.positive c.widened.ensures.num c.widened.ensures.den)
    c.sign.ensures.negative

pub returns-clause-zero : goal.returns-clause-zero
returns-clause-zero c =
    let w = c.widened.result in
    let sign : FitsSigned w32 c.sign.result = search rules in
    subst₂ (λ s v. (s ≡ pos 0) ↔ (v ≡ whole (pos 0)))
    (sym (to_z-of_z sign))
    (from_kept c.args.self.kept w.num w.den w.positive c.widened.ensures.num c.widened.ensures.den)
    c.sign.ensures.zero

pub returns-clause-positive : goal.returns-clause-positive
returns-clause-positive c =
    let w = c.widened.result in
    let sign : FitsSigned w32 c.sign.result = search rules in
    subst₂ (λ s v. (s ≡ pos 1) ↔ (whole (pos 0) <ℚ v))
    (sym (to_z-of_z sign))
    (from_kept c.args.self.kept w.num w.den w.positive c.widened.ensures.num c.widened.ensures.den)
    c.sign.ensures.positive
