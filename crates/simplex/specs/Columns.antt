-- A contradiction with each form written out in columns.
use Rattle.std.specs.Prelude.{◌≡◌, ℕ, ◌-◌, ◌<◌, ◌==◌, nat_lt, if◌then◌else◌, List, pos}
use Rattle.std.specs.Global.{Vec}
use Rattle.ordered_field.specs.Rational.{ℚ, whole}
use Rattle.ordered_field.specs.Delta.{DeltaValue}
use Rattle.tableau.specs.Tables.{Table, Meets}
use Rattle.tableau.specs.Terms.{form, coefficient_of, AreForms, MeetsForms}
use Rattle.tableau.specs.declared.terms.RowTerm.{RowTerm}
use Rattle.simplex.specs.declared.limits.Limit.{Limit}
use Rattle.simplex.specs.Shares.{Weight, weighed_variables, IsContradiction}

-- the coefficient of column j in variable v of n columns and the forms: a column's own, or that of its form
abbrev pub written_out : ℕ → List (Vec RowTerm) → ℕ → ℕ → ℚ
written_out n rows j v =
    if nat_lt v n then (if v == j then whole (pos 1) else whole (pos 0)) else whole (coefficient_of (form rows (v - n)) j)

-- where the vectors that meet the forms meet the tableau, the weights of a contradiction sum to 0 in each column
abbrev pub ContradictionsCancelColumns : {F : Type 0} → (F → ℚ) → Type 0
ContradictionsCancelColumns {F} value =
    (n : ℕ) (rows : List (Vec RowTerm)) (t : Table F) (limits : List (Limit DeltaValue)) (ws : List Weight)
    → AreForms n rows → ((x : ℕ → ℚ) → MeetsForms n rows x → Meets value t x) → IsContradiction value t limits ws
    → (j : ℕ) → j < n → weighed_variables ws (written_out n rows j) ≡ whole (pos 0)
