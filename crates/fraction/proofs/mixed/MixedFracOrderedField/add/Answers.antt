use Rattle.std.proofs.Common.{◌∙◌}
use Rattle.fraction.proofs.Kept.{to_kept}
use Rattle.fraction.proofs.SumSteps.{on_err_of}
use Rattle.fraction.proofs.mixed.MixedFracOrderedField.add.Goals as goal

pub returns-in_err-fraction_sum-in-None-clause-wide : goal.returns-in_err-fraction_sum-in-None-clause-wide
returns-in_err-fraction_sum-in-None-clause-wide c = on_err_of _ c.in_err-fraction_sum-in-None.ensures.wide

pub returns-in_ok-fraction_sum-in-None-clause-exact : goal.returns-in_ok-fraction_sum-in-None-clause-exact
returns-in_ok-fraction_sum-in-None-clause-exact c =
    let x = c.in_ok-fraction_sum-in-None.field-0 in
    to_kept c.narrowed.result.kept x.num x.den x.positive c.narrowed.ensures.num c.narrowed.ensures.den
    ∙ c.in_ok-fraction_sum-in-None.ensures.exact
