use Rattle.std.proofs.Common.{[], ◌∷◌, length, ap, sym, ◌∙◌, arith, ◌≡◌, ◌+◌}
use Rattle.std.proofs.lemmas.List.{length-append}
use Rattle.simplex.specs.States.{value_in}
use Rattle.simplex.proofs.MovedValues.{zeros-more}
use Rattle.simplex.proofs.assignment.zeros.Goals as goal

pub loop-variable-preserved : goal.loop-variable-preserved
loop-variable-preserved g c =
    let value = g.F.OrderedField.value in
    let items = c.in_ok-push.ensures.items in
    record {
      count = omega (arith, ap length items, length-append c.loop-variable.zeros.items (c.origin.result ∷ []), c.loop-variable.invariant.count);
      zero = λ v. ap (λ ds. value_in value ds v) items ∙ zeros-more value c.loop-variable.zeros.items c.origin.result c.loop-variable.invariant.zero c.origin.ensures v;
    }
