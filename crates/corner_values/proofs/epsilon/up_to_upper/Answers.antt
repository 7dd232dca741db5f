use Rattle.std.proofs.Common.{true, false, sym}
use Rattle.ordered_field.specs.Delta.{delta_value}
use Rattle.simplex.specs.States.{corner}
use Rattle.simplex.proofs.BoundLaws.{if_ok, on_ok}
use Rattle.corner_values.proofs.EpsilonLaws.{if_err, ordered_above, least_on, least_on-none, stuck_on, kept_on, kept_on-none}
use Rattle.corner_values.proofs.epsilon.up_to_upper.Goals as goal

pub returns-in-Some-clause-exact : goal.returns-in-Some-clause-exact
returns-in-Some-clause-exact g c =
    let value = g.F.OrderedField.value in
    let at = corner value c.args.simplex.now in
    if_ok c.up_to_meeting.result (λ e h. least_on at true c.args.variable (delta_value value c.value-value.result) (delta_value value c.in-Some.limit) (value c.args.epsilon) (value e) (ordered_above at c.args.variable (delta_value value c.value-value.result) (delta_value value c.in-Some.limit) (sym c.in-Some.ensures) c.value-value.ensures) h) c.up_to_meeting.ensures.exact

pub returns-in-Some-clause-kept : goal.returns-in-Some-clause-kept
returns-in-Some-clause-kept g c =
    let value = g.F.OrderedField.value in
    let at = corner value c.args.simplex.now in
    on_ok c.up_to_meeting.result (λ kept s. kept_on g.F.OrderedField.LIMIT at true c.args.variable (delta_value value c.value-value.result) (delta_value value c.in-Some.limit) s (ordered_above at c.args.variable (delta_value value c.value-value.result) (delta_value value c.in-Some.limit) (sym c.in-Some.ensures) c.value-value.ensures) (kept s)) c.up_to_meeting.ensures.kept

pub returns-in-Some-clause-stuck : goal.returns-in-Some-clause-stuck
returns-in-Some-clause-stuck g c =
    let value = g.F.OrderedField.value in
    let at = corner value c.args.simplex.now in
    if_err c.up_to_meeting.result (λ s h. stuck_on g.F.OrderedField.LIMIT at true c.args.variable (delta_value value c.value-value.result) (delta_value value c.in-Some.limit) s (ordered_above at c.args.variable (delta_value value c.value-value.result) (delta_value value c.in-Some.limit) (sym c.in-Some.ensures) c.value-value.ensures) h) c.up_to_meeting.ensures.stuck

pub returns-in-None-clause-exact : goal.returns-in-None-clause-exact
returns-in-None-clause-exact g c =
    let value = g.F.OrderedField.value in
    least_on-none (corner value c.args.simplex.now) true c.args.variable (value c.args.epsilon) (sym c.in-None.ensures)

pub returns-in-None-clause-kept : goal.returns-in-None-clause-kept
returns-in-None-clause-kept g c s =
    kept_on-none g.F.OrderedField.LIMIT (corner g.F.OrderedField.value c.args.simplex.now) true c.args.variable s (sym c.in-None.ensures)
