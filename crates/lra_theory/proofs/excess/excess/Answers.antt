use Rattle.std.proofs.Common.{sym, ap, ◌∙◌}
use Rattle.ordered_field.specs.Delta.{delta_value}
use Rattle.simplex.proofs.BoundLaws.{if_ok}
use Rattle.lra_theory.specs.Excess.{excess_over}
use Rattle.lra_theory.proofs.excess.excess.Goals as goal

pub returns-then-bound : goal.returns-then-bound
returns-then-bound g c =
    let value = g.F.OrderedField.value in
    let x = delta_value value c.args.value in
    let at = delta_value value c.in_ok-at.at in
    if_ok c.difference.result (λ d e. record { at = at; is_limit = c.in_ok-at.ensures; is = e ∙ ap (λ u. excess_over u at x) (sym c.if-bound.true) }) c.difference.ensures

pub returns-else-bound : goal.returns-else-bound
returns-else-bound g c =
    let value = g.F.OrderedField.value in
    let x = delta_value value c.args.value in
    let at = delta_value value c.in_ok-at.at in
    if_ok c.difference-else-bound.result (λ d e. record { at = at; is_limit = c.in_ok-at.ensures; is = e ∙ ap (λ u. excess_over u at x) (sym c.if-bound.false) }) c.difference-else-bound.ensures
