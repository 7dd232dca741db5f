use Rattle.std.proofs.Common.{◌≡◌, ℕ, ◌<◌, true}
use Rattle.tableau.specs.Tables.{is_basic}
use Rattle.simplex.specs.Limits.{IsWithin}
use Rattle.simplex.specs.States.{limits_in}
use Rattle.simplex.specs.Assignments.{value_of}
use Rattle.simplex.proofs.choice.least_violated.Given as goal

abbrev pub invariant-loop-variable : goal.invariant-loop-variable
invariant-loop-variable g l =
    let value = g.F.OrderedField.value in
    (v : ℕ) → v < l.variable → is_basic l.assignment.table v ≡ true → IsWithin (limits_in value l.limits.limits) v (value_of value l.assignment v)
