-- At an opening nothing contradicts and nothing is violated, and a pivot is made where a variable is violated.
use Rattle.std.specs.Prelude.{◌≡◌, ℕ, Bool, true, false, not, List, [], Option, None, Some}
use Rattle.std.proofs.Common.{sym, ◌∙◌, ap}
use Rattle.ordered_field.specs.Rational.{ℚ}
use Rattle.ordered_field.specs.Delta.{DeltaValue}
use Rattle.simplex.specs.declared.limits.Limit.{Limit}
use Rattle.simplex.specs.Limits.{in_force, IsViolated}
use Rattle.simplex.proofs.SettingLaws.{not_some_and-none}
use Rattle.lra_theory.specs.Relations.{IsOpening, IsOpposed, HasViolated, MayPivot}
use Rattle.lra_theory.specs.States.{State}

no_limit : (upper : Bool) (v : ℕ) (limits : List (Limit DeltaValue)) → limits ≡ [] → in_force upper v limits ≡ None
unfolding in_force
no_limit upper v limits none = ap (λ ls. in_force upper v ls) none

none_is_some : {A : Type 0} (x : A) (o : Option A) → o ≡ None → o ≡ Some x → ⊥
none_is_some x o none some = let h : None ≡ Some x = sym none ∙ some in cc

not_violated : (upper : Bool) (v : ℕ) (x : DeltaValue) (limits : List (Limit DeltaValue)) → limits ≡ [] → IsViolated upper limits v x → ⊥
not_violated true v x limits none = not_some_and-none _ (in_force true v limits) (no_limit true v limits none)
not_violated false v x limits none = not_some_and-none _ (in_force false v limits) (no_limit false v limits none)

module _ {F : Type 0} (limit : ℕ) (value : F → ℚ) where
  pub openings_are_calm : (s : State F) → IsOpening limit value s → (IsOpposed s → ⊥) × (HasViolated s → ⊥)
  openings_are_calm s opening = (
    (λ h. let o = h.1.1.1 in none_is_some h.1.1.0 _ (no_limit (not h.1.0.upper) h.1.0.var s.corner.limits opening.unbounded) o.in_force),
    (λ h. not_violated h.0 h.1.0 (s.corner.value h.1.0) s.corner.limits opening.unbounded h.1.1),
  )

  pub pivots_mend : (s : State F) (b o : ℕ) → MayPivot limit value s b o → HasViolated s
  pivots_mend s b o pivot = (pivot.0, (b, pivot.1.leaving.violated))
