-- The values after a move, one by one.
use Rattle.std.proofs.Common.{◌≡◌, ℕ, ◌<◌, ◌≤◌, Bool, true, false, cond, eqb, List, [], ◌∷◌, ◌++◌, length, ◌⊎◌, inl, inr, refl, sym, ap, subst, ◌∙◌, arith}
use Rattle.std.proofs.lemmas.Bool.{cases_order}
use Rattle.std.proofs.lemmas.List.{length-append}
use Rattle.ordered_field.specs.Rational.{ℚ}
use Rattle.ordered_field.specs.Delta.{DeltaValue, delta_value, delta_sum, delta_scaled}
use Rattle.ordered_field.specs.declared.delta.Delta.{Delta}
use Rattle.whole.specs.declared.answers.Stuck.{Stuck}
use Rattle.tableau.specs.Tables.{Table, variables, is_basic, entry, IsTable}
use Rattle.tableau.specs.Operations.{IfStuck}
use Rattle.tableau.specs.declared.fault.PivotFault.{PivotFault}
use Rattle.tableau.specs.declared.fault.PivotFault.TheVariants as fault
use Rattle.simplex.specs.Moves.{change_to, moved_value, IsStuckFollowing, IsStuckValue}
use Rattle.simplex.specs.States.{value_in, zero_delta}
use Rattle.simplex.proofs.ValueLaws.{value_in-past, value_in-front, value_in-last}
use Rattle.simplex.proofs.MoveLaws.{moved-other, basic_or_not}

module _ {F : Type 0} (value : F → ℚ) (t : Table F) (old : ℕ → DeltaValue) (m : ℕ) (to : DeltaValue) where
  pub moved_at : (v : ℕ) (x ch : DeltaValue) → old v ≡ x → ch ≡ change_to (old m) to → cond (eqb v m) to (cond (is_basic t v) (delta_sum x (delta_scaled (entry value t v m) ch)) x) ≡ moved_value value t old m to v
  moved_at v x ch e f =
      ap (λ y. cond (eqb v m) to (cond (is_basic t v) (delta_sum y (delta_scaled (entry value t v m) ch)) y)) (sym e)
      ∙ ap (λ c. cond (eqb v m) to (cond (is_basic t v) (delta_sum (old v) (delta_scaled (entry value t v m) c)) (old v))) f

  moved-past : IsTable value t → m < variables t → (v : ℕ) → variables t ≤ v → moved_value value t old m to v ≡ old v
  moved-past table inside v past = moved-other value t old m to v (λ e. absurd (omega arith)) (by (basic_or_not value t old m to v))
    where
      by : (is_basic t v ≡ true) ⊎ (is_basic t v ≡ false) → is_basic t v ≡ false
      by (inl h) = absurd (omega (arith, table.basic v h))
      by (inr h) = h

  pub stuck_row : (limit : ℕ) (change : DeltaValue) (v : ℕ) (x : DeltaValue) → old v ≡ x → (f : PivotFault) → IfStuck f (λ s. (is_basic t v ≡ true) × IsStuckFollowing limit v m x (entry value t v m) change s) → IfStuck f (IsStuckValue limit value t old m change)
  stuck_row limit change v x e (fault.Stuck s) h =
      record { row = v; basic = h.0; part = subst (λ y. IsStuckFollowing limit v m y (entry value t v m) change s) (sym e) h.1 }
  stuck_row limit change v x e fault.NoMemory h = tt

-- all of them
pub moved-all : {F : Type 0} (value : F → ℚ) (t : Table F) (olds news : List (Delta F)) (m : ℕ) (to : DeltaValue) (n : ℕ) → IsTable value t → m < variables t → length olds ≡ variables t → n ≡ variables t → length news ≡ n → ((k : ℕ) → k < n → value_in value news k ≡ moved_value value t (value_in value olds) m to k) → (v : ℕ) → value_in value news v ≡ moved_value value t (value_in value olds) m to v
moved-all value t olds news m to n table inside count all same done v = by (cases_order v n)
  where
    past : n ≤ v → value_in value news v ≡ moved_value value t (value_in value olds) m to v
    past h =
        value_in-past value news v (omega arith)
        ∙ sym (moved-past value t (value_in value olds) m to table inside v (omega arith) ∙ value_in-past value olds v (omega arith))

    by : (v ≡ n) ⊎ ((v < n) ⊎ (n < v)) → value_in value news v ≡ moved_value value t (value_in value olds) m to v
    by (inl e) = past (omega arith)
    by (inr (inl less)) = done v less
    by (inr (inr more)) = past (omega arith)

-- zeros
pub zeros-more : {F : Type 0} (value : F → ℚ) (ds : List (Delta F)) (d : Delta F) → ((v : ℕ) → value_in value ds v ≡ zero_delta) → delta_value value d ≡ zero_delta → (v : ℕ) → value_in value (ds ++ d ∷ []) v ≡ zero_delta
zeros-more value ds d none zero v = by (cases_order v (length ds))
  where
    by : (v ≡ length ds) ⊎ ((v < length ds) ⊎ (length ds < v)) → value_in value (ds ++ d ∷ []) v ≡ zero_delta
    by (inl e) = value_in-last value ds d v e ∙ zero
    by (inr (inl less)) = value_in-front value ds d v less ∙ none v
    by (inr (inr more)) = value_in-past value (ds ++ d ∷ []) v (omega (arith, length-append ds (d ∷ [])))
