use Rattle.std.proofs.Common.{true, false, refl}
use Rattle.ordered_field.specs.Delta.{delta_value}
use Rattle.simplex.specs.Limits.{limit_value, IsNoStronger}
use Rattle.simplex.proofs.CompareLaws.{in_force-some, in_force-none}
use Rattle.simplex.proofs.SettingLaws.{tells_and-some, tells_and-none}
use Rattle.simplex.proofs.setting.is_implied.Goals as goal

pub returns-in-Some : goal.returns-in-Some
returns-in-Some g c =
    let value = g.F.OrderedField.value in
    tells_and-some (λ h. IsNoStronger c.args.limit.upper (delta_value value c.args.limit.at) h.at) _ _ (limit_value value c.in-Some.held) (in_force-some value c.args.limit.upper c.args.limit.var c.args.limits.now.limits c.in-Some.held c.in-Some.ensures) c.is_no_stronger.ensures

pub returns-in-None : goal.returns-in-None
returns-in-None g c =
    let value = g.F.OrderedField.value in
    tells_and-none (λ h. IsNoStronger c.args.limit.upper (delta_value value c.args.limit.at) h.at) _ (in_force-none value c.args.limit.upper c.args.limit.var c.args.limits.now.limits c.in-None.ensures)
