-- Linear sums of terms over the values of the columns.
use Rattle.std.specs.Prelude.{ℕ, ◌==◌, List, [], ◌∷◌, ℤ, pos, ◌+ℤ◌, ◌*ℤ◌, Option, Some, slice_index_or, if◌then◌else◌}
use Rattle.std.specs.Option.{option_and_then}
use Rattle.whole.specs.Numbers.{fma}
use Rattle.linear_form.specs.declared.lists.Term.{Term}

-- the value of a column among those of a list
abbrev pub entry : List ℤ → ℕ → ℤ
entry values column = slice_index_or values column (pos 0)

-- the sum of the terms at these values of the columns
abbrev pub sum_of : (ℕ → ℤ) → List Term → ℤ
sum_of value [] = pos 0
sum_of value (t ∷ ts) = t.coef *ℤ value t.column +ℤ sum_of value ts

-- the coefficient that a column has in the sum: those of its terms together
abbrev pub coef_at : ℕ → List Term → ℤ
coef_at column [] = pos 0
coef_at column (t ∷ ts) = if t.column == column then t.coef +ℤ coef_at column ts else coef_at column ts

-- the sum from a start on, term by term, each within 128 bits
abbrev pub running : (ℕ → ℤ) → ℤ → List Term → Option ℤ
running value sum [] = Some sum
running value sum (t ∷ ts) = option_and_then (λ s. running value s ts) (fma sum t.coef (value t.column))
