use Rattle.std.proofs.Common.{sym, ◌∙◌, subst}
use Rattle.ordered_field.specs.Wideness.{Exceeds}
use Rattle.fraction.specs.Mixed.{limit}
use Rattle.fraction.proofs.Kept.{to_kept, kept_within}
use Rattle.fraction.proofs.SumSteps.{on_err_of}
use Rattle.fraction.proofs.mixed.MixedFracOrderedField.mul.Goals as goal

pub returns-in_err-fraction_product-in-None-clause-wide : goal.returns-in_err-fraction_product-in-None-clause-wide
returns-in_err-fraction_product-in-None-clause-wide c = on_err_of _ c.in_err-fraction_product-in-None.ensures.wide

pub returns-in-Some-clause-kept : goal.returns-in-Some-clause-kept
returns-in-Some-clause-kept c h =
    kept_within c.in-Some.product.kept (subst (Exceeds limit) (sym c.in-Some.ensures) h)

pub returns-in_ok-fraction_product-in-None-clause-exact : goal.returns-in_ok-fraction_product-in-None-clause-exact
returns-in_ok-fraction_product-in-None-clause-exact c =
    let x = c.in_ok-fraction_product-in-None.field-0 in
    to_kept c.narrowed.result.kept x.num x.den x.positive c.narrowed.ensures.num c.narrowed.ensures.den
    ∙ c.in_ok-fraction_product-in-None.ensures.exact
