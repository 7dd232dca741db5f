use Rattle.std.proofs.Common.{ℕ, ◌<◌, [], get_or, take}
use Rattle.std.specs.List.{All, Contains}
use Rattle.tableau.specs.Layout.{IsGrown, AreBelow}
use Rattle.tableau.proofs.names.name_row.Given as goal

abbrev pub invariant-loop-entry : goal.invariant-loop-entry
invariant-loop-entry g l =
    record {
      grown : IsGrown l.fn.users.items l.users.items;
      within : (n : ℕ) → l.fn.name < n → AreBelow n l.fn.users.items → AreBelow n l.users.items;
      named : All (λ e. Contains (get_or l.users.items e.variable []) l.fn.name) (take l.entry-index l.row);
    }
