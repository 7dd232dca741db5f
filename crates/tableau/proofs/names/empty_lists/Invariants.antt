use Rattle.std.proofs.Common.{◌≡◌, ℕ, [], length, get_or}
use Rattle.tableau.proofs.names.empty_lists.Given as goal

abbrev pub invariant-loop-made : goal.invariant-loop-made
invariant-loop-made g l =
    record { length : length l.lists.items ≡ l._made; empty : (v : ℕ) → get_or l.lists.items v [] ≡ [] }
