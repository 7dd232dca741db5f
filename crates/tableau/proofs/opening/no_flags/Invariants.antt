use Rattle.std.proofs.Common.{◌≡◌, ℕ, false, length, get_or}
use Rattle.tableau.proofs.opening.no_flags.Given as goal

abbrev pub invariant-loop-made : goal.invariant-loop-made
invariant-loop-made l =
    record { count : length l.flags.items ≡ l._made; none : (v : ℕ) → get_or l.flags.items v false ≡ false }
