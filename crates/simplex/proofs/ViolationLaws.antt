-- What a look at one variable after the other finds.
use Rattle.std.proofs.Common.{◌≡◌, ℕ, ◌<◌, ◌≤◌, true, Some, sym, subst, arith}
use Rattle.ordered_field.specs.Rational.{ℚ}
use Rattle.tableau.specs.Tables.{Table, variables, is_basic, IsTable}
use Rattle.simplex.specs.declared.choice.Violation.{Violation}
use Rattle.simplex.specs.Limits.{Held, limit_value, in_force, IsWithin}
use Rattle.simplex.specs.Corners.{IsLeastViolated}
use Rattle.simplex.specs.States.{limits_in}
use Rattle.simplex.specs.Assignments.{Assigned, value_of, corner_of}
use Rattle.simplex.specs.Choices.{IsViolation, IsFound}

module _ {F : Type 0} (value : F → ℚ) (a : Assigned F) (h : Held F) (v : ℕ) where
  pub found_by : (w : Violation F) → is_basic a.table v ≡ true → IsViolation value (limits_in value h.limits) v (value_of value a v) w → ((u : ℕ) → u < v → is_basic a.table u ≡ true → IsWithin (limits_in value h.limits) u (value_of value a u)) → IsFound value (corner_of value a h) w
  found_by w basic violation least = record {
    least = subst (λ u. IsLeastViolated value (corner_of value a h) w.upper u) (sym violation.variable) (record { basic = basic; violated = violation.violated; lower_first = violation.lower_first; least = least });
    in_force = subst (λ u. in_force w.upper u (limits_in value h.limits) ≡ Some (limit_value value w.limit)) (sym violation.variable) violation.in_force;
  }

  pub all_basic : IsTable value a.table → variables a.table ≤ v → ((u : ℕ) → u < v → is_basic a.table u ≡ true → IsWithin (limits_in value h.limits) u (value_of value a u)) → (u : ℕ) → is_basic a.table u ≡ true → IsWithin (limits_in value h.limits) u (value_of value a u)
  all_basic table past each u basic = each u (omega (arith, table.basic u basic)) basic
