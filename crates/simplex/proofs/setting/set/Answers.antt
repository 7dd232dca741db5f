use Rattle.simplex.proofs.SetLaws.{sets_bound}
use Rattle.simplex.proofs.setting.set.Goals as goal

pub returns-in-Ok-clause-answers : goal.returns-in-Ok-clause-answers
returns-in-Ok-clause-answers g c = λ ps.
    sets_bound g.F.OrderedField.LIMIT g.F.OrderedField.value c.args.assignment.now c.set_limit.new.assignment c.args.limits.now c.set_limit.new.limits c.in-Ok.limit c.args.bound c.args.tag ps c.in-Ok.ensures.kept c.in-Ok.ensures.exact c.set_limit.result c.set_limit.ensures.answers
