use Rattle.std.proofs.Common.{ℕ, ◌<◌, [], get_or, take}
use Rattle.std.specs.List.{All, Contains}
use Rattle.tableau.specs.Layout.{IsGrown, AreBelow}
use Rattle.tableau.proofs.names.name_followed.Given as goal

abbrev pub invariant-loop-change : goal.invariant-loop-change
invariant-loop-change g l =
    record {
      grown : IsGrown l.fn.users.items l.users.items;
      within : (n : ℕ) → All (λ f. f.variable < n) l.followed → AreBelow n l.fn.users.items → AreBelow n l.users.items;
      named : All (λ f. All (λ e. Contains (get_or l.users.items e.variable []) f.variable) l.row) (take l.change-index l.followed);
    }
