use Rattle.std.proofs.Common.{◌∙◌}
use Rattle.simplex.proofs.BuiltLaws.{meets-zero}
use Rattle.simplex.proofs.assignment.Assignment.new.Goals as goal

pub invariant_of-result : goal.invariant_of-result
invariant_of-result g c = record {
  count = c.in_ok-values.ensures.length ∙ c.variables.ensures.count;
  table = c.variables.ensures.table;
  meets = meets-zero g.F.OrderedField.value _ _ c.in_ok-values.ensures.zero;
}
