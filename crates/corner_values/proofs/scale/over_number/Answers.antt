use Rattle.std.proofs.Common.{map, unsigned_abs, subst}
use Rattle.std.specs.Int.{w128}
use Rattle.std.proofs.lemmas.Int.{to_z-of_z}
use Rattle.corner_values.specs.Faults.{IsStuckNumerator}
use Rattle.corner_values.proofs.scale.over_number.Goals as goal

pub returns-in-Ok-clause-kept : goal.returns-in-Ok-clause-kept
returns-in-Ok-clause-kept g c s =
    subst (λ z. IsStuckNumerator (map g.F.OrderedField.pair c.args.numbers.now) (unsigned_abs z) s → ⊥) (to_z-of_z w128 c.args.over c.ranges.over) (c.in-Ok.ensures.kept s)
