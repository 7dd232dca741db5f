use Rattle.simplex.proofs.BuiltLaws.{IsBuilt-new}
use Rattle.simplex.proofs.simplex.Simplex.new.Goals as goal

pub invariant_of-result : goal.invariant_of-result
invariant_of-result g c =
    IsBuilt-new g.F.OrderedField.value c.in_ok-assignment.assignment c.in_ok-limits.limits c.variables.result c.variables.ensures.sound c.variables.ensures.count c.in_ok-limits.ensures
