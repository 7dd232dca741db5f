-- A pivot leads from corner to corner.
use Rattle.std.proofs.Common.{◌≡◌, ℕ, ◌<◌, Bool, true, false, List, [], Some, None, ◌⊎◌, inl, inr, pos, refl, sym, ap, subst, ◌∙◌}
use Rattle.ordered_field.specs.Rational.{ℚ, whole}
use Rattle.ordered_field.specs.Delta.{DeltaValue, delta_value}
use Rattle.whole.specs.declared.answers.Stuck.{Stuck}
use Rattle.tableau.specs.Tables.{Table, variables, is_basic, entry, Meets, IsTable}
use Rattle.tableau.specs.declared.fault.PivotFault.{PivotFault}
use Rattle.tableau.specs.declared.fault.PivotFault.TheVariants as fault
use Rattle.tableau.specs.Operations.{IfStuck}
use Rattle.simplex.specs.declared.limits.Limit.{Limit}
use Rattle.field_rows.proofs.SumLaws.{same_or_apart}
use Rattle.simplex.specs.Limits.{Held, in_force, IsWithin, AreOrderly}
use Rattle.simplex.specs.Corners.{Corner, IsCorner, IsRepaired, IsAfterPivot}
use Rattle.simplex.specs.Moves.{IsStuckPivot}
use Rattle.simplex.specs.States.{limits_in}
use Rattle.simplex.specs.Assignments.{Assigned, value_of, corner_of, IsAssignment, IsPivoted, IsStuckPivotTo}
use Rattle.simplex.proofs.LimitLaws.{within-limit}
use Rattle.simplex.proofs.MoveLaws.{moved-here, moved-other}

module _ {F : Type 0} (value : F → ℚ) (a : Assigned F) (h : Held F) (upper : Bool) (b o : ℕ) (l : Limit DeltaValue) (held : in_force upper b (limits_in value h.limits) ≡ Some l) where
  -- the limit, wherever a variable stands after the pivot
  stand : (d : Assigned F) → IsPivoted value a b o l.at d → (v : ℕ) → is_basic d.table v ≡ false → (v ≡ b → ⊥) → value_of value d v ≡ value_of value a v
  stand d pivoted v n apart = pivoted.values v ∙ moved-other value d.table (value_of value a) b l.at v apart n

  leaves : (d : Assigned F) → IsPivoted value a b o l.at d → value_of value d b ≡ l.at
  leaves d pivoted = pivoted.values b ∙ moved-here value d.table (value_of value a) b l.at b refl

  pub IsAfterPivot-by : (d : Assigned F) → IsPivoted value a b o l.at d → IsAfterPivot value (corner_of value a h) upper b o (corner_of value d h)
  IsAfterPivot-by d pivoted = record {
    exchanged = pivoted.exchanged;
    same = pivoted.same;
    limit = l;
    in_force = held;
    leaves_at = leaves d pivoted;
    stands = stand d pivoted;
    limits = refl;
    corner = record { table = pivoted.sound.table; real = pivoted.sound.meets.real; inf = pivoted.sound.meets.inf };
  }

  -- what isn't basic stays within its limits
  pub IsRepaired-pivoted : AreOrderly [] (limits_in value h.limits) → IsRepaired value (corner_of value a h) → (is_basic a.table b ≡ true) → (is_basic a.table o ≡ false) → (d : Assigned F) → IsPivoted value a b o l.at d → IsRepaired value (corner_of value d h)
  IsRepaired-pivoted orderly repaired basic non_basic d pivoted v n = by (same_or_apart b v) (same_or_apart o v)
    where
      by : (v ≡ b) ⊎ (v ≡ b → ⊥) → (v ≡ o) ⊎ (v ≡ o → ⊥) → IsWithin (limits_in value h.limits) v (value_of value d v)
      by (inl same) at_o =
          subst (λ u. IsWithin (limits_in value h.limits) u (value_of value d u)) (sym same) (subst (λ x. IsWithin (limits_in value h.limits) b x) (sym (leaves d pivoted)) (within-limit (limits_in value h.limits) upper b l orderly held))
      by (inr apart) (inl same) =
          let e : is_basic d.table v ≡ true = ap (is_basic d.table) same ∙ pivoted.exchanged.entering in absurd (cc)
      by (inr apart) (inr off) =
          subst (λ x. IsWithin (limits_in value h.limits) v x) (sym (stand d pivoted v n apart)) (repaired v (sym (pivoted.exchanged.others v apart off) ∙ n))

  pub IsStuckPivot-by : (limit : ℕ) (stuck : Stuck) → IsStuckPivotTo limit value a b o l.at stuck → IsStuckPivot limit value (corner_of value a h) upper b o stuck
  IsStuckPivot-by limit stuck (inl exchange) = inl exchange
  IsStuckPivot-by limit stuck (inr move) =
      inr (record { table = move.table; exchanged = move.exchanged; bound = l; in_force = held; move = move.move })
