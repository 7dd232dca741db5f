use Rattle.std.proofs.Common.{◌≡◌, None}
use Rattle.corner_values.proofs.tests.values_under.Given as goal

-- the simplex works
abbrev pub invariant-loop-bound : goal.invariant-loop-bound
invariant-loop-bound g l = l.simplex.rest ≡ None
