use Rattle.std.proofs.Common.{rules, FitsSigned, to_z-of_z, ap, ap₂, sym, ◌∙◌, subst, subst₂, w64}
use Rattle.std.proofs.lemmas.Result.{IfOk-weaker, on_ok_weaker, on_err_weaker}
use Rattle.ordered_field.specs.Rational.{◌*ℚ◌}
use Rattle.ordered_field.specs.Wideness.{Exceeds}
use Rattle.fraction.specs.Mixed.{limit, kept_num, kept_den}
use Rattle.fraction.specs.Reduction.{IsReduction}
use Rattle.fraction.proofs.Kept.{from_kept}
use Rattle.fraction.proofs.mixed.MixedFrac.fraction_product.Goals as goal

pub mul_cancelled-requires-clause-left : goal.mul_cancelled-requires-clause-left
mul_cancelled-requires-clause-left c =
    let a = c.in-Short-Short.a in
    let b = c.in-Short-Short.b in
    let num : FitsSigned w64 a.num = search rules in
    let den : FitsSigned w64 b.den = search rules in
    subst₂ (IsReduction c.reduce_short-first.result)
    (sym (c.widened-left.ensures.num ∙ ap kept_num c.in-Short-Short.is-0))
    (sym (c.widened-right.ensures.den ∙ ap kept_den c.in-Short-Short.is-1))
    (simp to_z-of_z at c.reduce_short-first.ensures)

pub mul_cancelled-requires-clause-right : goal.mul_cancelled-requires-clause-right
mul_cancelled-requires-clause-right c =
    let a = c.in-Short-Short.a in
    let b = c.in-Short-Short.b in
    let num : FitsSigned w64 b.num = search rules in
    let den : FitsSigned w64 a.den = search rules in
    subst₂ (IsReduction c.reduce_short-second.result)
    (sym (c.widened-right.ensures.num ∙ ap kept_num c.in-Short-Short.is-1))
    (sym (c.widened-left.ensures.den ∙ ap kept_den c.in-Short-Short.is-0))
    (simp to_z-of_z at c.reduce_short-second.ensures)

pub returns-in-Short-Short-clause-exact : goal.returns-in-Short-Short-clause-exact
returns-in-Short-Short-clause-exact c =
    let v = c.widened-left.result in
    let w = c.widened-right.result in
    let left = from_kept c.args.self.kept v.num v.den v.positive c.widened-left.ensures.num c.widened-left.ensures.den in
    let right = from_kept c.args.other.kept w.num w.den w.positive c.widened-right.ensures.num c.widened-right.ensures.den in
    IfOk-weaker c.mul_cancelled.result _ _ (λ x e. e ∙ ap₂ (λ p q. p *ℚ q) left right) c.mul_cancelled.ensures.exact

pub returns-in-Short-Short-clause-kept : goal.returns-in-Short-Short-clause-kept
returns-in-Short-Short-clause-kept c =
    let v = c.widened-left.result in
    let w = c.widened-right.result in
    let left = from_kept c.args.self.kept v.num v.den v.positive c.widened-left.ensures.num c.widened-left.ensures.den in
    let right = from_kept c.args.other.kept w.num w.den w.positive c.widened-right.ensures.num c.widened-right.ensures.den in
    on_ok_weaker c.mul_cancelled.result (λ not h. not (subst (Exceeds limit) (sym (ap₂ (λ p q. p *ℚ q) left right)) h)) c.mul_cancelled.ensures.kept

pub returns-in-Short-Short-clause-wide : goal.returns-in-Short-Short-clause-wide
returns-in-Short-Short-clause-wide c =
    let v = c.widened-left.result in
    let w = c.widened-right.result in
    let left = from_kept c.args.self.kept v.num v.den v.positive c.widened-left.ensures.num c.widened-left.ensures.den in
    let right = from_kept c.args.other.kept w.num w.den w.positive c.widened-right.ensures.num c.widened-right.ensures.den in
    on_err_weaker c.mul_cancelled.result (subst (Exceeds limit) (ap₂ (λ p q. p *ℚ q) left right)) c.mul_cancelled.ensures.wide

pub returns-in_default-clause-exact : goal.returns-in_default-clause-exact
returns-in_default-clause-exact c =
    let v = c.widened-left.result in
    let w = c.widened-right.result in
    let left = from_kept c.args.self.kept v.num v.den v.positive c.widened-left.ensures.num c.widened-left.ensures.den in
    let right = from_kept c.args.other.kept w.num w.den w.positive c.widened-right.ensures.num c.widened-right.ensures.den in
    IfOk-weaker c.mul.result _ _ (λ x e. e ∙ ap₂ (λ p q. p *ℚ q) left right) c.mul.ensures.exact

pub returns-in_default-clause-kept : goal.returns-in_default-clause-kept
returns-in_default-clause-kept c =
    let v = c.widened-left.result in
    let w = c.widened-right.result in
    let left = from_kept c.args.self.kept v.num v.den v.positive c.widened-left.ensures.num c.widened-left.ensures.den in
    let right = from_kept c.args.other.kept w.num w.den w.positive c.widened-right.ensures.num c.widened-right.ensures.den in
    on_ok_weaker c.mul.result (λ not h. not (subst (Exceeds limit) (sym (ap₂ (λ p q. p *ℚ q) left right)) h)) c.mul.ensures.kept

pub returns-in_default-clause-wide : goal.returns-in_default-clause-wide
returns-in_default-clause-wide c =
    let v = c.widened-left.result in
    let w = c.widened-right.result in
    let left = from_kept c.args.self.kept v.num v.den v.positive c.widened-left.ensures.num c.widened-left.ensures.den in
    let right = from_kept c.args.other.kept w.num w.den w.positive c.widened-right.ensures.num c.widened-right.ensures.den in
    on_err_weaker c.mul.result (subst (Exceeds limit) (ap₂ (λ p q. p *ℚ q) left right)) c.mul.ensures.wide
