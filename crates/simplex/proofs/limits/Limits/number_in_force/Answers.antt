use Rattle.std.proofs.Common.{option_map, sym, ap, ◌∙◌}
use Rattle.simplex.specs.Limits.{limit_value}
use Rattle.simplex.proofs.LimitLaws.{in_force-map}
use Rattle.simplex.proofs.limits.Limits.number_in_force.Goals as goal

pub returns-in-Some : goal.returns-in-Some
returns-in-Some g c =
    let value = g.F.OrderedField.value in
    ap (λ o. option_map (λ l. l.at) (option_map (limit_value value) o)) c.in-Some.ensures
    ∙ ap (λ o. option_map (λ l. l.at) o) (in_force-map value c.args.upper c.args.variable c.args.self.now.limits)

pub returns-in-None : goal.returns-in-None
returns-in-None g c =
    let value = g.F.OrderedField.value in
    ap (λ o. option_map (λ l. l.at) (option_map (limit_value value) o)) c.in-None.ensures
    ∙ ap (λ o. option_map (λ l. l.at) o) (in_force-map value c.args.upper c.args.variable c.args.self.now.limits)
