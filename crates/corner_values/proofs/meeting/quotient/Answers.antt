use Rattle.corner_values.proofs.MeetingLaws.{divided}
use Rattle.corner_values.proofs.FaultLaws.{quotient_kept}
use Rattle.corner_values.proofs.meeting.quotient.Goals as goal

pub returns-in-Ok-clause-exact : goal.returns-in-Ok-clause-exact
returns-in-Ok-clause-exact g c =
    let value = g.F.OrderedField.value in
    divided (value c.args.n) (value c.args.d) (value c.inverse-over.result) (value c.in-Ok.quotient) c.inverse-over.ensures c.in-Ok.ensures.exact

pub returns-in-Ok-clause-kept : goal.returns-in-Ok-clause-kept
returns-in-Ok-clause-kept g c s =
    let value = g.F.OrderedField.value in
    quotient_kept g.F.OrderedField.LIMIT c.args.variable (value c.args.n) (value c.args.d) (value c.inverse-over.result) s c.requires c.inverse-over.ensures c.in-Ok.ensures.kept
