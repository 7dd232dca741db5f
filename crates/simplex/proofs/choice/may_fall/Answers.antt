use Rattle.std.proofs.Common.{true, false}
use Rattle.ordered_field.specs.Delta.{delta_value, ◌<δ◌}
use Rattle.simplex.specs.Limits.{limit_value}
use Rattle.simplex.proofs.CompareLaws.{in_force-some, in_force-none, tells-some, tells-none}
use Rattle.simplex.proofs.choice.may_fall.Goals as goal

pub returns-in-Some : goal.returns-in-Some
returns-in-Some g c =
    let value = g.F.OrderedField.value in
    tells-some (λ l. l.at <δ delta_value value c.args.value) _ _ (limit_value value c.in-Some.limit) (in_force-some value false c.args.variable c.args.limits.now.limits c.in-Some.limit c.in-Some.ensures) c.is_below.ensures

pub returns-in-None : goal.returns-in-None
returns-in-None g c =
    let value = g.F.OrderedField.value in
    tells-none (λ l. l.at <δ delta_value value c.args.value) _ (in_force-none value false c.args.variable c.args.limits.now.limits c.in-None.ensures)
