use Rattle.std.proofs.Common.{◌≡◌, true}
use Rattle.ordered_field.specs.Delta.{delta_value}
use Rattle.corner_values.specs.Epsilon.{MeetAt}
use Rattle.corner_values.proofs.LeastLaws.{least_of_none}
use Rattle.corner_values.proofs.MeetingLaws.{least_up_to_meeting}
use Rattle.corner_values.proofs.meeting.up_to_meeting.Goals as goal

pub returns-in-Ok-clause-exact : goal.returns-in-Ok-clause-exact
returns-in-Ok-clause-exact g c =
    let value = g.F.OrderedField.value in
    least_up_to_meeting (delta_value value c.args.lesser) (delta_value value c.args.greater) (value c.args.epsilon) (value c.in-Ok.number) (value c.least.result) c.in-Ok.ensures.exact c.least.ensures

pub returns-else-approaches-clause-exact : goal.returns-else-approaches-clause-exact
returns-else-approaches-clause-exact g c =
    let value = g.F.OrderedField.value in
    least_of_none (value c.args.epsilon) (MeetAt (delta_value value c.args.lesser) (delta_value value c.args.greater)) (λ q meet. let t : c.approaches.result ≡ true = c.approaches.ensures.1 meet.approach in absurd (cc))

pub returns-else-approaches-clause-kept : goal.returns-else-approaches-clause-kept
returns-else-approaches-clause-kept g c s stuck = let t : c.approaches.result ≡ true = c.approaches.ensures.1 stuck.approach in absurd (cc)
