use Rattle.std.proofs.Common.{◌≡◌, ℕ, length}
use Rattle.simplex.specs.States.{value_in, zero_delta}
use Rattle.simplex.proofs.assignment.zeros.Given as goal

abbrev pub invariant-loop-variable : goal.invariant-loop-variable
invariant-loop-variable g l =
    record {
      count : length l.zeros.items ≡ l._variable;
      zero : (v : ℕ) → value_in g.F.OrderedField.value l.zeros.items v ≡ zero_delta;
    }
