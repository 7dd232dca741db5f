-- What is so of a new simplex, and stays so when limits are taken back.
use Rattle.std.proofs.Common.{◌≡◌, ℕ, Bool, true, false, List, [], ◌++◌, map, take, drop, None, Option, pos, refl, sym, ap, subst, ◌∙◌}
use Rattle.std.proofs.lemmas.List.{map-append, take-append-drop}
use Rattle.ordered_field.specs.Rational.{ℚ, whole, ◌*ℚ◌}
use Rattle.ordered_field.specs.Delta.{DeltaValue}
use Rattle.ordered_field.proofs.RingLaws.{*ℚ-zero, zero-*ℚ}
use Rattle.field_rows.specs.Rows.{row_value}
use Rattle.field_rows.proofs.SumLaws.{sum_below-same, sum_below-scaled}
use Rattle.tableau.specs.Tables.{Table, variables, is_basic, entry, Meets}
use Rattle.tableau.specs.declared.fault.PivotFault.{PivotFault}
use Rattle.simplex.specs.declared.limits.Limit.{Limit}
use Rattle.simplex.specs.Limits.{Held, limit_value, in_force, IsWithin, AreOrderly}
use Rattle.simplex.specs.States.{limits_in, zero_delta, IsSound}
use Rattle.simplex.specs.Assignments.{Assigned, value_of, corner_of, state_of, IsAssignment, IsBuilt, MeetsRows}
use Rattle.simplex.proofs.LimitLaws.{AreOrderly-first, within-undone}

within-none : (v : ℕ) (x : DeltaValue) → IsWithin [] v x
unfolding in_force
within-none v x = record { lower = tt; upper = tt }

pub IsBuilt-new : {F : Type 0} (value : F → ℚ) (a : Assigned F) (h : Held F) (n : ℕ) → IsAssignment value a → n ≡ variables a.table → h ≡ record { variables = n; limits = [] } → IsBuilt value a h None
IsBuilt-new value a h n sound count is = record {
  sound = sound;
  variables = ap (λ k. k.variables) is ∙ count;
  orderly = subst (λ k. AreOrderly [] (limits_in value k.limits)) (sym is) tt;
  repaired = λ e v m. subst (λ k. IsWithin (limits_in value k.limits) v (value_of value a v)) (sym is) (within-none v (value_of value a v));
}

pub IsBuilt-undone : {F : Type 0} (value : F → ℚ) (a : Assigned F) (h : Held F) (rest : Option PivotFault) (mark : ℕ) → IsBuilt value a h rest → IsBuilt value a (record { variables = h.variables; limits = take mark h.limits }) rest
IsBuilt-undone value a h rest mark built = record {
  sound = built.sound;
  variables = built.variables;
  orderly = AreOrderly-first [] first behind orderly;
  repaired = λ e v n. within-undone first behind v (value_of value a v) orderly (subst (λ ls. IsWithin ls v (value_of value a v)) (sym parts) (built.repaired e v n));
}
  where
    first : List (Limit DeltaValue)
    first = limits_in value (take mark h.limits)

    behind : List (Limit DeltaValue)
    behind = limits_in value (drop mark h.limits)

    parts : limits_in value (take mark h.limits) ++ limits_in value (drop mark h.limits) ≡ limits_in value h.limits
    parts = sym (map-append (limit_value value) (take mark h.limits) (drop mark h.limits)) ∙ ap (limits_in value) (take-append-drop mark h.limits)

    orderly : AreOrderly [] (limits_in value (take mark h.limits) ++ limits_in value (drop mark h.limits))
    orderly = subst (AreOrderly []) (sym parts) built.orderly

pub IsSound-built : {F : Type 0} (value : F → ℚ) (a : Assigned F) (h : Held F) (ps : List (ℕ × ℕ)) (rest : Option PivotFault) → IsBuilt value a h rest → IsSound value (state_of a h ps rest)
IsSound-built value a h ps rest built = record {
  at = record { table = built.sound.table; real = built.sound.meets.real; inf = built.sound.meets.inf };
  orderly = built.orderly;
  repaired = built.repaired;
}

-- zeros meet all rows
zero-row : (n : ℕ) (c x : ℕ → ℚ) → ((k : ℕ) → x k ≡ whole (pos 0)) → row_value n c x ≡ whole (pos 0)
zero-row n c x none =
    sum_below-same n _ _ (λ k below. ap (λ y. c k *ℚ y) (none k) ∙ *ℚ-zero (c k) ∙ sym (zero-*ℚ (c k))) ∙ sum_below-scaled n (whole (pos 0)) c ∙ zero-*ℚ _

pub meets-zero : {F : Type 0} (value : F → ℚ) (t : Table F) (x : ℕ → DeltaValue) → ((v : ℕ) → x v ≡ zero_delta) → MeetsRows value t x
unfolding Meets
meets-zero value t x none = record {
  real = λ b h. ap (λ d. d.real) (none b) ∙ sym (zero-row (variables t) (entry value t b) (λ v. (x v).real) (λ k. ap (λ d. d.real) (none k)));
  inf = λ b h. ap (λ d. d.inf) (none b) ∙ sym (zero-row (variables t) (entry value t b) (λ v. (x v).inf) (λ k. ap (λ d. d.inf) (none k)));
}
