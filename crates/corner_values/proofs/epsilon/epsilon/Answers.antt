use Rattle.std.proofs.Common.{pos, sym, subst, arith}
use Rattle.ordered_field.specs.Rational.{whole}
use Rattle.simplex.specs.States.{corner}
use Rattle.corner_values.specs.Epsilon.{IsLeastOf}
use Rattle.corner_values.proofs.EpsilonLaws.{IsQuotientBefore, least_before-none, least_before-more, kept_before-more, epsilon_at_end, kept_at_end}
use Rattle.corner_values.proofs.epsilon.epsilon.Goals as goal

pub loop-variable-init : goal.loop-variable-init
loop-variable-init g c =
    let at = corner g.F.OrderedField.value c.args.simplex.now in
    record {
      least = subst (λ x. IsLeastOf (whole (pos 1)) (IsQuotientBefore at 0) x) (sym c.one-epsilon.ensures) (least_before-none at (whole (pos 1)));
      kept = λ s v upper h. absurd (omega (arith, h));
    }

pub loop-variable-preserved : goal.loop-variable-preserved
loop-variable-preserved g c =
    let value = g.F.OrderedField.value in
    let at = corner value c.args.simplex.now in
    record {
      least = least_before-more at c.loop-variable.variable (whole (pos 1)) (value c.loop-variable.epsilon) (value c.in-Ok.number) c.loop-variable.invariant.least c.in-Ok.ensures.exact;
      kept = kept_before-more g.F.OrderedField.LIMIT at c.loop-variable.variable c.loop-variable.invariant.kept c.in-Ok.ensures.kept;
    }

pub returns-clause-exact : goal.returns-clause-exact
returns-clause-exact g c =
    let value = g.F.OrderedField.value in
    epsilon_at_end (corner value c.args.simplex.now) c.loop-variable.variable (value c.loop-variable.epsilon) (omega (arith, c.loop-variable-test.false, c.loop-variable.auto.variable-end, c.variables-variable-end.ensures.count)) c.loop-variable.invariant.least

pub returns-clause-kept : goal.returns-clause-kept
returns-clause-kept g c =
    kept_at_end g.F.OrderedField.LIMIT (corner g.F.OrderedField.value c.args.simplex.now) c.loop-variable.variable (omega (arith, c.loop-variable-test.false, c.loop-variable.auto.variable-end, c.variables-variable-end.ensures.count)) c.loop-variable.invariant.kept

pub returns-in-Err-clause-stuck : goal.returns-in-Err-clause-stuck
returns-in-Err-clause-stuck g c = record {
  variable = c.loop-variable.variable;
  within = omega (arith, c.loop-variable-test.true, c.variables-variable-end.ensures.count);
  upper = c.in-Err.ensures.stuck.0;
  on_side = c.in-Err.ensures.stuck.1;
}
