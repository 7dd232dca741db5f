use Rattle.ordered_field.proofs.RingLaws.{+ℚ_comm, +ℚ_assoc, +ℚ-zero, +ℚ-neg, *ℚ_comm, *ℚ_assoc, *ℚ-one, *ℚ-+ℚ}
use Rattle.ordered_field.proofs.OrderLaws.{≤ℚ_refl, ≤ℚ_antisymm, ≤ℚ_trans}
use Rattle.ordered_field.proofs.OrderFacts.{≤ℚ_total, +ℚ-≤ℚ_right, *ℚ-≤ℚ_left}
use Rattle.ordered_field.proofs.FieldLaws.{inverse_of}
use Rattle.ordered_field.proofs.Fractions.{one-apart_zero}
use Rattle.ordered_field.proofs.laws.rationals_are_an_ordered_field.Goals as goal

pub returns : goal.returns
returns c = record {
  sum_comm = +ℚ_comm;
  sum_assoc = +ℚ_assoc;
  sum_zero = +ℚ-zero;
  sum_opposite = +ℚ-neg;
  product_comm = *ℚ_comm;
  product_assoc = *ℚ_assoc;
  product_one = *ℚ-one;
  product_sum = *ℚ-+ℚ;
  one_apart = one-apart_zero;
  inverse = inverse_of;
  reflexive = ≤ℚ_refl;
  antisymmetric = ≤ℚ_antisymm;
  transitive = ≤ℚ_trans;
  total = ≤ℚ_total;
  sum_ordered = +ℚ-≤ℚ_right;
  product_ordered = *ℚ-≤ℚ_left;
}
