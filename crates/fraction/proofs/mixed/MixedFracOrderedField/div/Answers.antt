use Rattle.std.proofs.Common.{ap₂, sym, ◌∙◌, subst₂}
use Rattle.ordered_field.specs.Rational.{◌*ℚ◌}
use Rattle.ordered_field.specs.Wideness.{QuotientExceeds}
use Rattle.fraction.specs.Mixed.{limit}
use Rattle.fraction.proofs.Kept.{from_kept, to_kept}
use Rattle.fraction.proofs.SumSteps.{on_err_of}
use Rattle.fraction.proofs.mixed.MixedFracOrderedField.div.Goals as goal

pub div-requires : goal.div-requires
div-requires c e =
    let v = c.widened.result in
    let w = c.widened-2.result in
    let left = from_kept c.args.self.kept v.num v.den v.positive c.widened.ensures.num c.widened.ensures.den in
    let right = from_kept c.args.other.kept w.num w.den w.positive c.widened-2.ensures.num c.widened-2.ensures.den in
    c.requires (sym right ∙ e)

pub returns-in_err-div-clause-wide : goal.returns-in_err-div-clause-wide
returns-in_err-div-clause-wide c =
    let v = c.widened.result in
    let w = c.widened-2.result in
    let left = from_kept c.args.self.kept v.num v.den v.positive c.widened.ensures.num c.widened.ensures.den in
    let right = from_kept c.args.other.kept w.num w.den w.positive c.widened-2.ensures.num c.widened-2.ensures.den in
    on_err_of _ (subst₂ (QuotientExceeds limit) left right c.in_err-div.ensures.wide)

pub returns-clause-exact : goal.returns-clause-exact
returns-clause-exact c =
    let v = c.widened.result in
    let w = c.widened-2.result in
    let left = from_kept c.args.self.kept v.num v.den v.positive c.widened.ensures.num c.widened.ensures.den in
    let right = from_kept c.args.other.kept w.num w.den w.positive c.widened-2.ensures.num c.widened-2.ensures.den in
    let x = c.in_ok-div.field-0 in
    ap₂ (λ p q. p *ℚ q) (to_kept c.narrowed.result.kept x.num x.den x.positive c.narrowed.ensures.num c.narrowed.ensures.den) (sym right)
    ∙ c.in_ok-div.ensures.exact
    ∙ left

pub returns-clause-kept : goal.returns-clause-kept
returns-clause-kept c h =
    let v = c.widened.result in
    let w = c.widened-2.result in
    let left = from_kept c.args.self.kept v.num v.den v.positive c.widened.ensures.num c.widened.ensures.den in
    let right = from_kept c.args.other.kept w.num w.den w.positive c.widened-2.ensures.num c.widened-2.ensures.den in
    c.in_ok-div.ensures.kept (subst₂ (QuotientExceeds limit) (sym left) (sym right) h)
