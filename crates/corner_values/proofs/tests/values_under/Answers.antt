use Rattle.corner_values.proofs.TestLaws.{fine_within}
use Rattle.corner_values.proofs.tests.values_under.Goals as goal

pub values-requires : goal.values-requires
values-requires g c =
    fine_within g.F.OrderedField.LIMIT g.F.OrderedField.value _ c.check.new.self _ _ c.loop-bound.invariant c.in-Fine.ensures.answers
