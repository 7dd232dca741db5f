use Rattle.simplex.specs.Assignments.{value_of}
use Rattle.simplex.specs.States.{limits_in}
use Rattle.simplex.proofs.ChoiceLaws.{helps-rising, helps-falling}
use Rattle.simplex.proofs.choice.can_help.Goals as goal

pub returns-then-helps_by_rising : goal.returns-then-helps_by_rising
returns-then-helps_by_rising g c =
    helps-rising c.args.upper _ (limits_in g.F.OrderedField.value c.args.limits.now.limits) c.args.entry.variable _ _ _ c.value-number.ensures c.if-helps_by_rising.ensures c.may_rise.ensures

pub returns-else-helps_by_rising : goal.returns-else-helps_by_rising
returns-else-helps_by_rising g c =
    helps-falling c.args.upper _ (limits_in g.F.OrderedField.value c.args.limits.now.limits) c.args.entry.variable _ _ _ c.value-number.ensures c.if-helps_by_rising.ensures c.may_fall.ensures
