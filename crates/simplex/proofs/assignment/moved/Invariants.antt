use Rattle.std.proofs.Common.{◌≡◌, ℕ, ◌<◌, length}
use Rattle.ordered_field.specs.Delta.{delta_value}
use Rattle.simplex.specs.Moves.{moved_value}
use Rattle.simplex.specs.States.{value_in}
use Rattle.simplex.proofs.assignment.moved.Given as goal

abbrev pub invariant-loop-v : goal.invariant-loop-v
invariant-loop-v g l =
    let value = g.F.OrderedField.value in
    record {
      count : length l.moved.items ≡ l.v;
      done : (k : ℕ) → k < l.v → value_in value l.moved.items k ≡ moved_value value l.tableau (value_in value l.values) l.variable (delta_value value l.to) k;
    }
