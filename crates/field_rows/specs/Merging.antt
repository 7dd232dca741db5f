-- What is in front of two rows, and what is behind it.
use Rattle.std.specs.Prelude.{◌≡◌, ℕ, ◌==◌, min, if◌then◌else◌, List, [], ◌∷◌, ◌++◌, Option, None, Some, ◌⊎◌, pos}
use Rattle.ordered_field.specs.Rational.{ℚ, whole}
use Rattle.field_rows.specs.declared.row.Entry.{Entry}

-- the variable in front of a row
abbrev pub front : {F : Type 0} → List (Entry F) → Option ℕ
front [] = None
front (e ∷ es) = Some e.variable

-- the lesser of two variables in front
abbrev pub lesser : Option ℕ → Option ℕ → Option ℕ
lesser None w = w
lesser (Some v) None = Some v
lesser (Some v) (Some w) = Some (min v w)

-- the number in front of a row, where it is that of variable v
abbrev pub number_in_front : {F : Type 0} → List (Entry F) → ℕ → Option F
number_in_front [] v = None
number_in_front (e ∷ es) v = if v == e.variable then Some e.number else None

-- the row behind variable v, which may stand in front
abbrev pub behind : {F : Type 0} → List (Entry F) → ℕ → List (Entry F)
behind [] v = []
behind (e ∷ es) v = if v == e.variable then es else e ∷ es

-- the number that may be there, as a rational
abbrev pub number_or_zero : {F : Type 0} → (F → ℚ) → Option F → ℚ
number_or_zero value None = whole (pos 0)
number_or_zero value (Some x) = value x

-- `new` is `old` with one more entry, left out where its number is zero
abbrev pub IsAppended : {F : Type 0} → (F → ℚ) → List (Entry F) → ℕ → F → List (Entry F) → Type 0
IsAppended value old v x new =
    ((value x ≡ whole (pos 0)) × (new ≡ old))
    ⊎ ((¬ (value x ≡ whole (pos 0))) × (new ≡ old ++ record { variable = v; number = x } ∷ []))

-- the first number that is there
abbrev pub either : {F : Type 0} → Option F → Option F → Option F
either None y = y
either (Some x) y = Some x
