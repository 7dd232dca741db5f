use Rattle.std.proofs.Common.{true, false}
use Rattle.simplex.specs.States.{corner}
use Rattle.simplex.proofs.BoundLaws.{if_ok, on_ok}
use Rattle.corner_values.proofs.EpsilonLaws.{if_err, least_of_variable, kept_of_variable}
use Rattle.corner_values.proofs.epsilon.up_to_limits.Goals as goal

pub returns-in-Ok-clause-exact : goal.returns-in-Ok-clause-exact
returns-in-Ok-clause-exact g c =
    let value = g.F.OrderedField.value in
    if_ok c.up_to_upper.result (λ e h. least_of_variable (corner value c.args.simplex.now) c.args.variable (value c.args.epsilon) (value c.in-Ok.number) (value e) c.in-Ok.ensures.exact h) c.up_to_upper.ensures.exact

pub returns-in-Ok-clause-kept : goal.returns-in-Ok-clause-kept
returns-in-Ok-clause-kept g c =
    on_ok c.up_to_upper.result (λ kept s upper. kept_of_variable g.F.OrderedField.LIMIT (corner g.F.OrderedField.value c.args.simplex.now) c.args.variable s (c.in-Ok.ensures.kept s) (kept s) upper) c.up_to_upper.ensures.kept

pub returns-in-Ok-clause-stuck : goal.returns-in-Ok-clause-stuck
returns-in-Ok-clause-stuck g c = if_err c.up_to_upper.result (λ s h. (true, h)) c.up_to_upper.ensures.stuck

pub returns-in-Err-clause-stuck : goal.returns-in-Err-clause-stuck
returns-in-Err-clause-stuck g c = (false, c.in-Err.ensures.stuck)
