use Rattle.std.proofs.Common.{FitsSigned, to_z-of_z, ap, ◌∙◌}
use Rattle.std.specs.Int.{w128}
use Rattle.ordered_field.specs.Rational.{whole, ◌*ℚ◌}
use Rattle.fraction.proofs.Kept.{to_kept}
use Rattle.fraction.proofs.mixed.MixedFrac.new.Goals as goal

pub returns-clause-exact : goal.returns-clause-exact
returns-clause-exact c =
    let x = c.in_ok-new.field-0 in
    let n : FitsSigned w128 c.args.n = c.ranges.n in
    let d : FitsSigned w128 c.args.d = c.ranges.d in
    ap (λ v. v *ℚ whole c.args.d) (to_kept c.narrowed.result.kept x.num x.den x.positive c.narrowed.ensures.num c.narrowed.ensures.den)
    ∙ (simp to_z-of_z at c.in_ok-new.ensures.exact)
