-- The number of a limit in force.
use Rattle.std.specs.Prelude.{ℕ, Bool, List, Option, option_map}
use Rattle.simplex.specs.declared.limits.Limit.{Limit}
use Rattle.simplex.specs.Limits.{in_force}

-- the number of the limit of v in force on this side
abbrev pub number_in_force : {N : Type 0} → Bool → ℕ → List (Limit N) → Option N
number_in_force upper v limits = option_map (λ l. l.at) (in_force upper v limits)
