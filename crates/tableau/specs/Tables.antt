-- A tableau as a caller sees it: its columns, which variables are basic, and the row of each basic one.
use Rattle.std.specs.Prelude.{◌≡◌, ℕ, ◌^◌, ◌<◌, ◌≤◌, Bool, true, false, List, [], length, get_or, pos}
use Rattle.ordered_field.specs.Rational.{ℚ, whole}
use Rattle.field_rows.specs.Rows.{coefficient, row_value}
use Rattle.field_rows.specs.declared.row.Entry.{Entry}

-- for each variable whether it is basic, and its row, which is empty where it isn't
pub record Table (F : Type 0) : Type 0 where
  pub columns : ℕ
  pub basic : List Bool
  pub rows : List (List (Entry F))

-- how many variables there are: the columns, and one for each row
unfoldable pub variables : {F : Type 0} → Table F → ℕ
variables t = length t.rows

-- whether variable v is basic
unfoldable pub is_basic : {F : Type 0} → Table F → ℕ → Bool
is_basic t v = get_or t.basic v false

-- the coefficient of variable v in the row of variable b
unfoldable pub entry : {F : Type 0} → (F → ℚ) → Table F → ℕ → ℕ → ℚ
entry value t b v = coefficient value (get_or t.rows b []) v

-- the vector x meets all rows: each basic variable has the value of its row
unfoldable pub Meets : {F : Type 0} → (F → ℚ) → Table F → (ℕ → ℚ) → Type 0
Meets value t x = (b : ℕ) → is_basic t b ≡ true → x b ≡ row_value (variables t) (entry value t b) x

-- what is so of every tableau: a row has entries at variables that aren't basic, and only basic variables have a row
pub record IsTable {F : Type 0} (value : F → ℚ) (t : Table F) : Type 0 where
  pub few : variables t < 2 ^ 32
  pub columns : t.columns ≤ variables t
  pub basic : (v : ℕ) → is_basic t v ≡ true → v < variables t
  pub of_basic : (b v : ℕ) → is_basic t b ≡ false → entry value t b v ≡ whole (pos 0)
  pub at_basic : (b v : ℕ) → is_basic t v ≡ true → entry value t b v ≡ whole (pos 0)
  pub beyond : (b v : ℕ) → variables t ≤ v → entry value t b v ≡ whole (pos 0)
