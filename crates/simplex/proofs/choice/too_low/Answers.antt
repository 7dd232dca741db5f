use Rattle.std.proofs.Common.{true, false, refl}
use Rattle.ordered_field.specs.Delta.{delta_value, ◌≤δ◌, ◌<δ◌}
use Rattle.simplex.specs.Limits.{limit_value}
use Rattle.simplex.proofs.CompareLaws.{in_force-some, in_force-none, if_some-by, if_some-none, is_some_and-by, at_least}
use Rattle.simplex.proofs.choice.too_low.Goals as goal

pub returns-in-None : goal.returns-in-None
returns-in-None g c =
    let value = g.F.OrderedField.value in
    if_some-none (λ l. l.at ≤δ delta_value value c.args.value) _ (in_force-none value false c.args.variable c.args.limits.now.limits c.in-None.ensures)

pub returns-then-is_below : goal.returns-then-is_below
returns-then-is_below g c =
    let value = g.F.OrderedField.value in
    let held = in_force-some value false c.args.variable c.args.limits.now.limits c.in-Some.limit c.in-Some.ensures in
    record {
      violated = is_some_and-by (λ l. delta_value value c.args.value <δ l.at) _ (limit_value value c.in-Some.limit) held (c.if-is_below.ensures.0 refl);
      in_force = held;
    }

pub returns-else-is_below : goal.returns-else-is_below
returns-else-is_below g c =
    let value = g.F.OrderedField.value in
    let held = in_force-some value false c.args.variable c.args.limits.now.limits c.in-Some.limit c.in-Some.ensures in
    if_some-by (λ l. l.at ≤δ delta_value value c.args.value) _ (limit_value value c.in-Some.limit) held (at_least _ _ _ c.is_below.ensures c.if-is_below.false)
