-- No operation is too wide.
use Rattle.std.proofs.Common.{◌≡◌, ℕ, pos, List, ◌⊎◌, inl, inr, sym, subst, ◌∙◌}
use Rattle.ordered_field.specs.Rational.{ℚ, whole, ◌*ℚ◌, neg_ℚ}
use Rattle.ordered_field.specs.Delta.{DeltaValue}
use Rattle.ordered_field.specs.LowestTerms.{Ratio}
use Rattle.ordered_field.specs.Wideness.{Exceeds, SumIsWide}
use Rattle.ordered_field.proofs.FieldLaws.{cancel_by_inverse, *ℚ_cancel}
use Rattle.whole.specs.declared.answers.Stuck.{Stuck}
use Rattle.simplex.specs.Corners.{Corner}
use Rattle.corner_values.specs.Epsilon.{difference, IsQuotient, IsEpsilon}
use Rattle.corner_values.specs.Scale.{AreInLowestTerms, IsScale}
use Rattle.corner_values.specs.Values.{value_at}
use Rattle.corner_values.specs.Faults.{IsStuckDifference, IsStuckQuotient, IsStuckMeeting, IsStuckEpsilon, IsStuckColumnAt, IsStuckColumn, IsStuckMultiple, IsStuckNumerator, IsStuckScaling, IsStuckScale, IsStuckAfterEpsilon, IsStuckValue}
use Rattle.corner_values.proofs.LeastLaws.{least_unique}
use Rattle.corner_values.proofs.ScaleLaws.{IsScale_unique, lowest_unique}

-- the quotient of the differences that were formed is that of the two numbers
pub meeting_kept : (limit v : ℕ) (x y : DeltaValue) (far fast : ℚ) (s : Stuck) → (SumIsWide limit y.real (neg_ℚ x.real) → ⊥) → (SumIsWide limit x.inf (neg_ℚ y.inf) → ⊥) → far ≡ difference y.real x.real → fast ≡ difference x.inf y.inf → (IsStuckQuotient limit v far fast s → ⊥) → IsStuckMeeting limit v x y s → ⊥
meeting_kept limit v x y far fast s real inf e f quotient meeting = by meeting.operation
  where
    by : IsStuckDifference limit v y.real x.real s ⊎ IsStuckDifference limit v x.inf y.inf s ⊎ IsStuckQuotient limit v (difference y.real x.real) (difference x.inf y.inf) s → ⊥
    by (inl h) = real h.overflows
    by (inr (inl h)) = inf h.overflows
    by (inr (inr h)) = quotient (subst (λ d. IsStuckQuotient limit v far d s) (sym f) (subst (λ n. IsStuckQuotient limit v n (difference x.inf y.inf) s) (sym e) h))

-- the inverse that was formed is the one
pub quotient_kept : (limit v : ℕ) (n d i : ℚ) (s : Stuck) → (d ≡ whole (pos 0) → ⊥) → i *ℚ d ≡ whole (pos 1) → (Exceeds limit (n *ℚ i) → ⊥) → IsStuckQuotient limit v n d s → ⊥
quotient_kept limit v n d i s some inverts kept h =
    kept (subst (λ j. Exceeds limit (n *ℚ j)) (cancel_by_inverse h.inverse i d i inverts (h.inverts ∙ sym inverts)) h.overflows)

pub scaling_kept : (ps : List Ratio) (l : ℕ) (s : Stuck) → IsScale ps l → (IsStuckMultiple ps s → ⊥) → (IsStuckNumerator ps l s → ⊥) → IsStuckScaling ps s → ⊥
scaling_kept ps l s scale multiple numerator (inl h) = multiple h
scaling_kept ps l s scale multiple numerator (inr (m, (other, h))) =
    numerator (subst (λ k. IsStuckNumerator ps k s) (IsScale_unique ps m l other scale) h)

pub after_epsilon_kept : {F : Type 0} (limit : ℕ) (c : Corner F) (e : ℚ) (ps : List Ratio) (s : Stuck) → IsEpsilon c e → AreInLowestTerms c.table.columns (value_at c e) ps → (IsStuckColumnAt limit c e s → ⊥) → (IsStuckScaling ps s → ⊥) → IsStuckAfterEpsilon limit c s → ⊥
after_epsilon_kept limit c e ps s is lowest column scaling stuck = by stuck
  where
    same_epsilon : (e' : ℚ) → IsEpsilon c e' → e' ≡ e
    same_epsilon e' is' = least_unique (whole (pos 1)) (IsQuotient c) e' e is' is

    by : IsStuckColumn limit c s ⊎ IsStuckScale c s → ⊥
    by (inl h) = column (subst (λ f. IsStuckColumnAt limit c f s) (same_epsilon h.epsilon h.is_epsilon) h.at_epsilon)
    by (inr h) =
        let of_e : AreInLowestTerms c.table.columns (value_at c e) h.lowest = subst (λ f. AreInLowestTerms c.table.columns (value_at c f) h.lowest) (same_epsilon h.epsilon h.is_epsilon) h.in_lowest_terms in
        scaling (subst (λ qs. IsStuckScaling qs s) (lowest_unique c.table.columns (value_at c e) h.lowest ps of_e lowest) h.operation)

pub stuck_scale : {F : Type 0} (c : Corner F) (e : ℚ) (ps : List Ratio) (s : Stuck) → IsEpsilon c e → AreInLowestTerms c.table.columns (value_at c e) ps → IsStuckScaling ps s → IsStuckScale c s
stuck_scale c e ps s is lowest stuck = record { epsilon = e; is_epsilon = is; lowest = ps; in_lowest_terms = lowest; operation = stuck }

pub value_kept : {F : Type 0} (limit : ℕ) (c : Corner F) (s : Stuck) → (IsStuckEpsilon limit c s → ⊥) → (IsStuckAfterEpsilon limit c s → ⊥) → IsStuckValue limit c s → ⊥
value_kept limit c s epsilon after (inl h) = epsilon h
value_kept limit c s epsilon after (inr h) = after h

-- a difference of the same numbers
pub wide_same : (limit : ℕ) (y y' x x' : ℚ) → y ≡ y' → x ≡ x' → (SumIsWide limit y (neg_ℚ x) → ⊥) → SumIsWide limit y' (neg_ℚ x') → ⊥
wide_same limit y y' x x' e f kept wide =
    kept (subst (λ k. SumIsWide limit y (neg_ℚ k)) (sym f) (subst (λ k. SumIsWide limit k (neg_ℚ x')) (sym e) wide))
