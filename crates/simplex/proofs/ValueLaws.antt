-- Values in a list.
use Rattle.std.proofs.Common.{◌≡◌, ℕ, zero, suc, ◌+◌, ◌<◌, ◌≤◌, List, [], ◌∷◌, ◌++◌, length, get_or, None, Some, slice_get, ◌⊎◌, inl, inr, refl, sym, ap, ◌∙◌, arith}
use Rattle.std.specs.Option.{option_map_or}
use Rattle.std.proofs.lemmas.Option.{slice_get-get_or, slice_get_past}
use Rattle.std.proofs.lemmas.List.{length-append}
use Rattle.ordered_field.specs.Rational.{ℚ}
use Rattle.ordered_field.specs.Delta.{DeltaValue, delta_value}
use Rattle.ordered_field.specs.declared.delta.Delta.{Delta}
use Rattle.simplex.specs.States.{value_in, zero_delta}

pub value_in-at : {F : Type 0} (value : F → ℚ) (ds : List (Delta F)) (v : ℕ) (d : Delta F) → slice_get ds v ≡ Some d → value_in value ds v ≡ delta_value value d
value_in-at value ds v d e = ap (λ o. option_map_or (delta_value value) o zero_delta) e

pub value_in-past : {F : Type 0} (value : F → ℚ) (ds : List (Delta F)) (v : ℕ) → length ds ≤ v → value_in value ds v ≡ zero_delta
value_in-past value ds v past = ap (λ o. option_map_or (delta_value value) o zero_delta) (slice_get_past ds v past)

pub value_in-read : {F : Type 0} (value : F → ℚ) (ds : List (Delta F)) (v : ℕ) (d : Delta F) → v < length ds → d ≡ get_or ds v d → value_in value ds v ≡ delta_value value d
value_in-read value ds v d within e = value_in-at value ds v d (slice_get-get_or ds v d within ∙ ap Some (sym e))

slice_get-front : {A : Type 0} (xs : List A) (x : A) (k : ℕ) → k < length xs → slice_get (xs ++ x ∷ []) k ≡ slice_get xs k
slice_get-front [] x k within = absurd (omega arith)
slice_get-front (y ∷ ys) x zero within = refl
slice_get-front (y ∷ ys) x (suc k) within = slice_get-front ys x k (omega arith)

slice_get-last : {A : Type 0} (xs : List A) (x : A) (k : ℕ) → k ≡ length xs → slice_get (xs ++ x ∷ []) k ≡ Some x
slice_get-last [] x k e = ap (λ n. slice_get (x ∷ []) n) e
slice_get-last (y ∷ ys) x zero e = absurd (omega arith)
slice_get-last (y ∷ ys) x (suc k) e = slice_get-last ys x k (omega arith)

-- one value more
pub value_in-front : {F : Type 0} (value : F → ℚ) (ds : List (Delta F)) (d : Delta F) (v : ℕ) → v < length ds → value_in value (ds ++ d ∷ []) v ≡ value_in value ds v
value_in-front value ds d v within = ap (λ o. option_map_or (delta_value value) o zero_delta) (slice_get-front ds d v within)

pub value_in-last : {F : Type 0} (value : F → ℚ) (ds : List (Delta F)) (d : Delta F) (v : ℕ) → v ≡ length ds → value_in value (ds ++ d ∷ []) v ≡ delta_value value d
value_in-last value ds d v e = value_in-at value (ds ++ d ∷ []) v d (slice_get-last ds d v e)
