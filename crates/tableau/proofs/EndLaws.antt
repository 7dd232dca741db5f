-- A row with one more entry at its end.
use Rattle.std.proofs.Common.{◌≡◌, ℕ, ◌+◌, ◌^◌, ◌<◌, ◌≤◌, List, [], ◌∷◌, ◌++◌, pos, ◌⊎◌, inl, inr, sym, ap, subst, ◌∙◌, arith}
use Rattle.ordered_field.specs.Rational.{ℚ, whole}
use Rattle.field_rows.specs.Rows.{coefficient, IsRow, IsRowWithin, put}
use Rattle.field_rows.specs.declared.row.Entry.{Entry}
use Rattle.field_rows.proofs.RowLaws.{coefficient-past, coefficient-append, IsRowWithin-append, IsRowWithin-later}
use Rattle.field_rows.proofs.SumLaws.{same_or_apart, put-here, put-elsewhere}

last_after : {F : Type 0} (value : F → ℚ) (from to : ℕ) (row : List (Entry F)) (e : Entry F) → IsRowWithin value from to (row ++ e ∷ []) → from ≤ e.variable
last_after value from to [] e h = h.0
last_after value from to (d ∷ row) e h = let more = last_after value (d.variable + 1) to row e h.3 in omega (arith, h.0, more)

-- a row whose last variable is below v
pub within_last : {F : Type 0} (value : F → ℚ) (from to v : ℕ) (row : List (Entry F)) (e : Entry F) → IsRowWithin value from to (row ++ e ∷ []) → e.variable < v → IsRowWithin value from v (row ++ e ∷ [])
within_last value from to v [] e h less = (h.0, less, h.2, tt)
within_last value from to v (d ∷ row) e h less =
    let more = last_after value (d.variable + 1) to row e h.3 in
    (h.0, omega (arith, more, less), h.2, within_last value (d.variable + 1) to v row e h.3 less)

pub row_of_within : {F : Type 0} (value : F → ℚ) (v : ℕ) (row : List (Entry F)) → v ≤ 2 ^ 32 → IsRowWithin value 0 v row → IsRow value row
unfolding IsRow
row_of_within value v row small h = IsRowWithin-later value 0 v (2 ^ 32) row small h

pub within_of_row : {F : Type 0} (value : F → ℚ) (row : List (Entry F)) → IsRow value row → IsRowWithin value 0 (2 ^ 32) row
unfolding IsRow
within_of_row value row h = h

-- nothing is added
pub entries-same : {F : Type 0} (value : F → ℚ) (v : ℕ) (x : ℚ) (row : List (Entry F)) → IsRowWithin value 0 v row → x ≡ whole (pos 0) → (u : ℕ) → coefficient value row u ≡ put v x (coefficient value row) u
entries-same value v x row h none u = by (same_or_apart v u)
  where
    by : (u ≡ v) ⊎ (u ≡ v → ⊥) → coefficient value row u ≡ put v x (coefficient value row) u
    by (inl same) = coefficient-past value 0 v row u h (omega (arith, same)) ∙ sym none ∙ sym (put-here v u x (coefficient value row) same)
    by (inr apart) = sym (put-elsewhere v u x (coefficient value row) apart)

pub row_more : {F : Type 0} (value : F → ℚ) (v : ℕ) (x : F) (row : List (Entry F)) → v < 2 ^ 32 → IsRowWithin value 0 v row → (value x ≡ whole (pos 0) → ⊥) → IsRow value (row ++ record { variable = v; number = x } ∷ [])
row_more value v x row small h some =
    row_of_within value (v + 1) (row ++ record { variable = v; number = x } ∷ []) (omega arith) (IsRowWithin-append value 0 v row v x h (omega arith) (omega arith) some)

pub entries-more : {F : Type 0} (value : F → ℚ) (v : ℕ) (x : F) (row : List (Entry F)) → IsRowWithin value 0 v row → (u : ℕ) → coefficient value (row ++ record { variable = v; number = x } ∷ []) u ≡ put v (value x) (coefficient value row) u
entries-more value v x row h u = coefficient-append value 0 v row v x u h (omega arith)
