-- Every rational but zero has an inverse, so factors other than zero cancel.
use mathlib.Core.Quot.{Quot-set}
use Rattle.std.proofs.Common.{◌≡◌, ℕ, ◌+◌, ◌-◌, ◌<◌, pos, ◌⊎◌, inl, inr, ap, sym, ◌∙◌, arith}
use mathlib.Core.HLevel.{Σ_prop_path}
use Rattle.std.proofs.lemmas.Bool.{cases_order}
use Rattle.ordered_field.specs.Rational.{Parts, ℚ, point, fraction, whole, by_one, by_two, ◌*ℚ◌}
use Rattle.ordered_field.proofs.Points.{same_point, holds_1}
use Rattle.ordered_field.proofs.RingLaws.{*ℚ_comm, *ℚ_assoc, *ℚ-one, zero-*ℚ}

-- a factor with an inverse cancels
pub cancel_by_inverse : (x y z i : ℚ) → i *ℚ z ≡ whole (pos 1) → x *ℚ z ≡ y *ℚ z → x ≡ y
cancel_by_inverse x y z i inverse e = sym (undo x) ∙ ap (λ v. v *ℚ i) e ∙ undo y
  where
    undo : (v : ℚ) → (v *ℚ z) *ℚ i ≡ v
    undo v = *ℚ_assoc v z i ∙ ap (λ w. v *ℚ w) (*ℚ_comm z i ∙ inverse) ∙ *ℚ-one v

-- ---- inverses

-- a number that times x is 1
abbrev pub Inverse : ℚ → Type 0
Inverse x = (i : ℚ) × (i *ℚ x ≡ whole (pos 1))

pub Inverse-prop : (x : ℚ) → IsProp (Inverse x)
Inverse-prop x i j =
    Σ_prop_path (λ k. Quot-set _ _) (cancel_by_inverse i.0 j.0 x i.0 i.1 (i.1 ∙ sym j.1))

-- of a quotient whose parts differ by t
inverse_above : (a : Parts) (t : ℕ) → 0 < t → a.up ≡ a.down + t → Inverse (point a)
unfolding ◌*ℚ◌ by_two by_one whole fraction
inverse_above a t some e =
    (point (record { up = a.den; down = 0; den = t; some = some }), same_point _ _ (rw e (omega arith)))

inverse_below : (a : Parts) (t : ℕ) → 0 < t → a.down ≡ a.up + t → Inverse (point a)
unfolding ◌*ℚ◌ by_two by_one whole fraction
inverse_below a t some e =
    (point (record { up = 0; down = a.den; den = t; some = some }), same_point _ _ (rw e (omega arith)))

inverse_parts : (a : Parts) → (point a ≡ whole (pos 0) → ⊥) → Inverse (point a)
unfolding whole fraction
inverse_parts a apart = by_order (cases_order a.up a.down)
  where
    by_order : (a.up ≡ a.down) ⊎ ((a.up < a.down) ⊎ (a.down < a.up)) → Inverse (point a)
    by_order (inl same) = absurd (apart (same_point _ _ (omega arith)))
    by_order (inr (inl less)) = inverse_below a (a.down - a.up) (omega arith) (omega arith)
    by_order (inr (inr more)) = inverse_above a (a.up - a.down) (omega arith) (omega arith)

pub inverse_of : (x : ℚ) → (x ≡ whole (pos 0) → ⊥) → Inverse x
inverse_of = holds_1 (λ x. (x ≡ whole (pos 0) → ⊥) → Inverse x) (λ x. hlevel Inverse-prop) inverse_parts

-- a factor other than zero cancels
pub *ℚ_cancel : (x y z : ℚ) → (z ≡ whole (pos 0) → ⊥) → x *ℚ z ≡ y *ℚ z → x ≡ y
*ℚ_cancel x y z some e = let i = inverse_of z some in cancel_by_inverse x y z i.0 i.1 e

-- a product that is zero has a factor that is
pub *ℚ-apart_zero : (x y : ℚ) → (x ≡ whole (pos 0) → ⊥) → (y ≡ whole (pos 0) → ⊥) → x *ℚ y ≡ whole (pos 0) → ⊥
*ℚ-apart_zero x y some other e = some (*ℚ_cancel x (whole (pos 0)) y other (e ∙ sym (zero-*ℚ y)))
