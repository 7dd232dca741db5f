-- The forms that define a tableau, as lists of terms.
use Rattle.std.specs.Prelude.{◌≡◌, ℕ, zero, suc, ◌+◌, ◌<◌, ◌≤◌, ◌==◌, if◌then◌else◌, List, [], ◌∷◌, length, All, ℤ, pos, unsigned_abs}
use Rattle.std.specs.Global.{Vec}
use Rattle.ordered_field.specs.Rational.{ℚ, whole, ◌+ℚ◌, ◌*ℚ◌}
use Rattle.tableau.specs.declared.terms.RowTerm.{RowTerm}

-- the terms of the form with this number
unfoldable pub form : List (Vec RowTerm) → ℕ → List RowTerm
form [] j = []
form (r ∷ rs) zero = r.items
form (r ∷ rs) (suc j) = form rs j

-- the coefficient of variable v: zero where no term names v
unfoldable pub coefficient_of : List RowTerm → ℕ → ℤ
coefficient_of [] v = pos 0
coefficient_of (t ∷ ts) v = if v == t.var then t.coef else coefficient_of ts v

-- the sum of the terms at the vector x
unfoldable pub form_value : List RowTerm → (ℕ → ℚ) → ℚ
form_value [] x = whole (pos 0)
form_value (t ∷ ts) x = whole t.coef *ℚ x t.var +ℚ form_value ts x

-- the terms are of variables below `columns`, each of another one
abbrev pub AreTerms : ℕ → List RowTerm → Type 0
AreTerms columns [] = Unit {0}
AreTerms columns (t ∷ ts) = (t.var < columns) × All (λ u. u.var ≡ t.var → ⊥) ts × AreTerms columns ts

-- each form is of the columns
abbrev pub AreForms : ℕ → List (Vec RowTerm) → Type 0
AreForms columns rows = (j : ℕ) → AreTerms columns (form rows j)

-- the vector x meets the defining rows: variable columns + j has the value of form j
unfoldable pub MeetsForms : ℕ → List (Vec RowTerm) → (ℕ → ℚ) → Type 0
MeetsForms columns rows x = (j : ℕ) → j < length rows → x (columns + j) ≡ form_value (form rows j) x

-- no coefficient exceeds the limit
abbrev pub CoefficientsFit : ℕ → List (Vec RowTerm) → Type 0
CoefficientsFit limit rows = (j : ℕ) → All (λ t. unsigned_abs t.coef ≤ limit) (form rows j)
