use Rattle.std.proofs.Common.{FitsSigned, to_z-of_z, ◌∙◌}
use Rattle.std.specs.Int.{w128}
use Rattle.fraction.proofs.Kept.{to_kept}
use Rattle.fraction.proofs.mixed.MixedFracOrderedField.from_whole.Goals as goal

pub returns-clause-exact : goal.returns-clause-exact
returns-clause-exact c =
    let x = c.in_ok-from_whole.field-0 in
    let n : FitsSigned w128 c.args.n = c.ranges.n in
    to_kept c.narrowed.result.kept x.num x.den x.positive c.narrowed.ensures.num c.narrowed.ensures.den
    ∙ (simp to_z-of_z at c.in_ok-from_whole.ensures.exact)
