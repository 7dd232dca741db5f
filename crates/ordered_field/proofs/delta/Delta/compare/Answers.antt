use Rattle.ordered_field.specs.Delta.{delta_value}
use Rattle.ordered_field.proofs.Comparing.{compares_values}
use Rattle.ordered_field.proofs.DeltaOrder.{compares_parts}
use Rattle.ordered_field.proofs.delta.Delta.compare.Goals as goal

pub returns : goal.returns
returns g c =
    let value = g.F.OrderedField.value in
    let x = delta_value value c.args.self in
    let y = delta_value value c.args.other in
    let by_value = compares_values g.F.Ord.cmp value g.met.F.OrderedField.ordered g.met.F.Ord.total in
    rw c.cmp.ensures (compares_parts x y _ _ (by_value c.args.self.real c.args.other.real) (by_value c.args.self.inf c.args.other.inf))
