use Rattle.std.proofs.Common.{not, true, false, refl}
use Rattle.ordered_field.specs.Delta.{delta_value}
use Rattle.simplex.specs.Limits.{limit_value, Excludes}
use Rattle.simplex.proofs.CompareLaws.{in_force-some, in_force-none}
use Rattle.simplex.proofs.SettingLaws.{not_some_and, not_some_and-none, told_not}
use Rattle.simplex.proofs.setting.opposed.Goals as goal

pub returns-in-None : goal.returns-in-None
returns-in-None g c =
    let value = g.F.OrderedField.value in
    not_some_and-none (λ h. Excludes c.args.limit.upper (delta_value value c.args.limit.at) h.at) _ (in_force-none value (not c.args.limit.upper) c.args.limit.var c.args.limits.now.limits c.in-None.ensures)

pub returns-then-excludes : goal.returns-then-excludes
returns-then-excludes g c =
    let value = g.F.OrderedField.value in
    record {
      in_force = in_force-some value (not c.args.limit.upper) c.args.limit.var c.args.limits.now.limits c.in-Some.other c.in-Some.ensures;
      excludes = c.if-excludes.ensures.0 refl;
    }

pub returns-else-excludes : goal.returns-else-excludes
returns-else-excludes g c =
    let value = g.F.OrderedField.value in
    not_some_and (λ h. Excludes c.args.limit.upper (delta_value value c.args.limit.at) h.at) _ (limit_value value c.in-Some.other) (in_force-some value (not c.args.limit.upper) c.args.limit.var c.args.limits.now.limits c.in-Some.other c.in-Some.ensures) (told_not _ _ c.excludes.ensures c.if-excludes.false)
