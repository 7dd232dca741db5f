-- Sparse linear rows over the rationals: the coefficients and the value of a row, and a row solved for one of its variables.
use Rattle.std.specs.Prelude.{◌≡◌, ℕ, ◌+◌, ◌<◌, ◌≤◌, ◌^◌, ◌==◌, ◌↔◌, if◌then◌else◌, List, [], ◌∷◌, pos}
use Rattle.ordered_field.specs.Rational.{ℚ, whole, ◌*ℚ◌, ◌+ℚ◌, neg_ℚ}
use Rattle.ordered_field.specs.Wideness.{FmaIsWide, QuotientExceeds}
use Rattle.field_rows.specs.Sums.{sum_below}
use Rattle.field_rows.specs.declared.row.Entry.{Entry}

-- the coefficient of variable v in a row: zero where no entry names v
unfoldable pub coefficient : {F : Type 0} → (F → ℚ) → List (Entry F) → ℕ → ℚ
coefficient value [] v = whole (pos 0)
coefficient value (e ∷ es) v = if v == e.variable then value e.number else coefficient value es v

-- the entries' variables rise, from `from` on and below `to`, and no entry is zero
abbrev pub IsRowWithin : {F : Type 0} → (F → ℚ) → ℕ → ℕ → List (Entry F) → Type 0
IsRowWithin value from to [] = Unit {0}
IsRowWithin value from to (e ∷ es) =
    (from ≤ e.variable) × (e.variable < to) × (¬ (value e.number ≡ whole (pos 0))) × IsRowWithin value (e.variable + 1) to es

-- a row: variables have 32 bits
unfoldable pub IsRow : {F : Type 0} → (F → ℚ) → List (Entry F) → Type 0
IsRow value row = IsRowWithin value 0 (2 ^ 32) row

-- the value at the vector x of the row with the n coefficients c
abbrev pub row_value : ℕ → (ℕ → ℚ) → (ℕ → ℚ) → ℚ
row_value n c x = sum_below n (λ k. c k *ℚ x k)

-- the vector x with y at place j
unfoldable pub put : ℕ → ℚ → (ℕ → ℚ) → ℕ → ℚ
put j y x k = if k == j then y else x k

-- what is divided when the row c of variable b is solved for variable o: 1 at b, nothing at o, and elsewhere the
-- opposite coefficient
abbrev pub dividend : ℕ → ℕ → (ℕ → ℚ) → ℕ → ℚ
dividend b o c = put b (whole (pos 1)) (put o (whole (pos 0)) (λ k. neg_ℚ (c k)))

-- some quotient of the solved row is too wide
abbrev pub SomeQuotientIsWide : ℕ → ℕ → ℕ → (ℕ → ℚ) → Type 0
SomeQuotientIsWide limit b o c = (k : ℕ) × QuotientExceeds limit (dividend b o c k) (c o)

-- each coefficient of d is that quotient
abbrev pub AreQuotients : ℕ → ℕ → (ℕ → ℚ) → (ℕ → ℚ) → Type 0
AreQuotients b o c d = (k : ℕ) → d k *ℚ c o ≡ dividend b o c k

-- x_b is the value of the row c exactly where x_o is that of the row d
abbrev pub IsSolvedFor : ℕ → ℕ → (ℕ → ℚ) → ℕ → (ℕ → ℚ) → Type 0
IsSolvedFor n b c o d = (x : ℕ → ℚ) → (x b ≡ row_value n c x) ↔ (x o ≡ row_value n d x)

-- the row c without variable o
abbrev pub without : ℕ → (ℕ → ℚ) → ℕ → ℚ
without o c = put o (whole (pos 0)) c

-- some coefficient is too wide where the row c has the row d in the place of variable o
abbrev pub SomeEntryIsWide : ℕ → ℕ → (ℕ → ℚ) → (ℕ → ℚ) → Type 0
SomeEntryIsWide limit o d c = (k : ℕ) × FmaIsWide limit (without o c k) (c o) (d k)

-- the row c with the row d in the place of variable o: d times c's coefficient of o is added to the others
abbrev pub IsSubstituted : ℕ → (ℕ → ℚ) → (ℕ → ℚ) → (ℕ → ℚ) → Type 0
IsSubstituted o d c c' = (k : ℕ) → c' k ≡ without o c k +ℚ c o *ℚ d k

-- where x_o is the value of the row d, the row c' has the value of c
abbrev pub Follows : ℕ → ℕ → (ℕ → ℚ) → (ℕ → ℚ) → (ℕ → ℚ) → Type 0
Follows n o d c c' = (x : ℕ → ℚ) → x o ≡ row_value n d x → row_value n c' x ≡ row_value n c x
