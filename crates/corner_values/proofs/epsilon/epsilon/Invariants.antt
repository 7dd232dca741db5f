use Rattle.std.proofs.Common.{pos}
use Rattle.ordered_field.specs.Rational.{whole}
use Rattle.simplex.specs.States.{corner}
use Rattle.corner_values.specs.Epsilon.{IsLeastOf}
use Rattle.corner_values.proofs.EpsilonLaws.{IsQuotientBefore, KeptBefore}
use Rattle.corner_values.proofs.epsilon.epsilon.Given as goal

abbrev pub invariant-loop-variable : goal.invariant-loop-variable
invariant-loop-variable g l =
    let value = g.F.OrderedField.value in
    record {
      least : IsLeastOf (whole (pos 1)) (IsQuotientBefore (corner value l.simplex) l.variable) (value l.epsilon);
      kept : KeptBefore g.F.OrderedField.LIMIT (corner value l.simplex) l.variable;
    }
