use Rattle.std.proofs.Common.{rules, FitsSigned, to_z-of_z, ap, ap₂, sym, ◌∙◌, subst₂, w64}
use Rattle.std.proofs.lemmas.Result.{IfOk-weaker, on_ok_weaker, on_err_weaker}
use Rattle.ordered_field.specs.Rational.{◌+ℚ◌}
use Rattle.ordered_field.specs.Wideness.{SumIsWide}
use Rattle.fraction.specs.Mixed.{limit, kept_den}
use Rattle.fraction.specs.Reduction.{IsReduction}
use Rattle.fraction.proofs.Kept.{from_kept}
use Rattle.fraction.proofs.mixed.MixedFrac.fraction_sum.Goals as goal

pub add_over-requires : goal.add_over-requires
add_over-requires c =
    let a = c.in-Short-Short.a in
    let b = c.in-Short-Short.b in
    let left : FitsSigned w64 a.den = search rules in
    let right : FitsSigned w64 b.den = search rules in
    subst₂ (IsReduction c.short_denominators-dens.result)
    (sym (c.widened-left.ensures.den ∙ ap kept_den c.in-Short-Short.is-0))
    (sym (c.widened-right.ensures.den ∙ ap kept_den c.in-Short-Short.is-1))
    (simp to_z-of_z at c.short_denominators-dens.ensures)

pub returns-in-Short-Short-clause-exact : goal.returns-in-Short-Short-clause-exact
returns-in-Short-Short-clause-exact c =
    let v = c.widened-left.result in
    let w = c.widened-right.result in
    let left = from_kept c.args.self.kept v.num v.den v.positive c.widened-left.ensures.num c.widened-left.ensures.den in
    let right = from_kept c.args.other.kept w.num w.den w.positive c.widened-right.ensures.num c.widened-right.ensures.den in
    IfOk-weaker c.add_over.result _ _ (λ x e. e ∙ ap₂ (λ p q. p +ℚ q) left right) c.add_over.ensures.exact

pub returns-in-Short-Short-clause-kept : goal.returns-in-Short-Short-clause-kept
returns-in-Short-Short-clause-kept c =
    let v = c.widened-left.result in
    let w = c.widened-right.result in
    let left = from_kept c.args.self.kept v.num v.den v.positive c.widened-left.ensures.num c.widened-left.ensures.den in
    let right = from_kept c.args.other.kept w.num w.den w.positive c.widened-right.ensures.num c.widened-right.ensures.den in
    on_ok_weaker c.add_over.result (λ not h. not (subst₂ (SumIsWide limit) (sym left) (sym right) h)) c.add_over.ensures.kept

pub returns-in-Short-Short-clause-wide : goal.returns-in-Short-Short-clause-wide
returns-in-Short-Short-clause-wide c =
    let v = c.widened-left.result in
    let w = c.widened-right.result in
    let left = from_kept c.args.self.kept v.num v.den v.positive c.widened-left.ensures.num c.widened-left.ensures.den in
    let right = from_kept c.args.other.kept w.num w.den w.positive c.widened-right.ensures.num c.widened-right.ensures.den in
    on_err_weaker c.add_over.result (subst₂ (SumIsWide limit) left right) c.add_over.ensures.wide

pub returns-in_default-clause-exact : goal.returns-in_default-clause-exact
returns-in_default-clause-exact c =
    let v = c.widened-left.result in
    let w = c.widened-right.result in
    let left = from_kept c.args.self.kept v.num v.den v.positive c.widened-left.ensures.num c.widened-left.ensures.den in
    let right = from_kept c.args.other.kept w.num w.den w.positive c.widened-right.ensures.num c.widened-right.ensures.den in
    IfOk-weaker c.add.result _ _ (λ x e. e ∙ ap₂ (λ p q. p +ℚ q) left right) c.add.ensures.exact

pub returns-in_default-clause-kept : goal.returns-in_default-clause-kept
returns-in_default-clause-kept c =
    let v = c.widened-left.result in
    let w = c.widened-right.result in
    let left = from_kept c.args.self.kept v.num v.den v.positive c.widened-left.ensures.num c.widened-left.ensures.den in
    let right = from_kept c.args.other.kept w.num w.den w.positive c.widened-right.ensures.num c.widened-right.ensures.den in
    on_ok_weaker c.add.result (λ not h. not (subst₂ (SumIsWide limit) (sym left) (sym right) h)) c.add.ensures.kept

pub returns-in_default-clause-wide : goal.returns-in_default-clause-wide
returns-in_default-clause-wide c =
    let v = c.widened-left.result in
    let w = c.widened-right.result in
    let left = from_kept c.args.self.kept v.num v.den v.positive c.widened-left.ensures.num c.widened-left.ensures.den in
    let right = from_kept c.args.other.kept w.num w.den w.positive c.widened-right.ensures.num c.widened-right.ensures.den in
    on_err_weaker c.add.result (subst₂ (SumIsWide limit) left right) c.add.ensures.wide
