use Rattle.std.proofs.Common.{◌≡◌, ℕ, ◌<◌, [], Some, length, slice_get}
use Rattle.simplex.specs.Keeping.{sides_at}
use Rattle.simplex.proofs.limits.Limits.new.Given as goal

abbrev pub invariant-loop-variable : goal.invariant-loop-variable
invariant-loop-variable g l =
    record {
      count : length l.sides.items ≡ l._variable;
      none : (v : ℕ) → v < length l.sides.items → slice_get l.sides.items v ≡ Some (sides_at v []);
    }
