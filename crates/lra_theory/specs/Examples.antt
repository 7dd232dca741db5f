-- Theories to which atoms were told in the order of their numbers.
use Rattle.std.specs.Prelude.{◌≡◌, ℕ, ◌≤◌, false, length}
use Rattle.clause_form.specs.Theories.{TheoryView, works}
use Rattle.clause_form.specs.WellFormed.{Below}

-- it works, stands for at least this many atoms, and was told literals of the first ones
pub record HasTold {S : Type 0} (count atoms : ℕ) (s : TheoryView S) : Type 0 where
  pub in_range : atoms ≤ length s.rows.atoms
  pub few : atoms ≤ 4096
  pub told : Below count s.told
  pub count_is : length s.told ≡ count
  pub paid : s.owes ≡ false
  pub at_work : s.rest ≡ works
