-- The tableau that the forms of some rows define: a variable for each column, and then one for each form.
use Rattle.std.specs.Prelude.{◌≡◌, ℕ, ◌+◌, ◌<◌, true, false, List, [], ◌∷◌, length, Some, slice_get, pos, unsigned_abs, Contains}
use Rattle.ordered_field.specs.Rational.{ℚ, whole, ◌+ℚ◌, ◌*ℚ◌}
use Rattle.linear_form.specs.Sums.{coef_at}
use Rattle.linear_form.specs.declared.lists.Form.{Form}
use Rattle.linear_form.specs.declared.lists.Term.{Term}
use Rattle.whole.specs.declared.answers.Op.TheVariants.{Product}
use Rattle.whole.specs.declared.answers.Place.TheVariants.{Bound as AtBound}
use Rattle.whole.specs.declared.answers.Stuck.{Stuck}
use Rattle.tableau.specs.Operations.{IsOperation}
use Rattle.tableau.specs.Tables.{Table, variables, is_basic, entry}
use Rattle.clause_form.specs.Derivations.{Rows}

-- the sum of the terms at the vector x
abbrev pub sum_at : List Term → (ℕ → ℚ) → ℚ
sum_at [] x = whole (pos 0)
sum_at (t ∷ ts) x = whole t.coef *ℚ x t.column +ℚ sum_at ts x

-- the vector x meets the forms: the variable of each form has the sum of its terms
abbrev pub MeetsForms : Rows → (ℕ → ℚ) → Type 0
MeetsForms rows x = (j : ℕ) (f : Form) → slice_get rows.forms j ≡ Some f → x (rows.columns + j) ≡ sum_at f.terms x

-- how many variables there are
abbrev pub variables_of : Rows → ℕ
variables_of rows = rows.columns + length rows.forms

-- no column is basic, each form's variable is, and its row has the form's coefficients
pub record Defines {F : Type 0} (value : F → ℚ) (rows : Rows) (t : Table F) : Type 0 where
  pub columns : t.columns ≡ rows.columns
  pub count : variables t ≡ variables_of rows
  pub non_basic : (v : ℕ) → v < rows.columns → is_basic t v ≡ false
  pub basic : (j : ℕ) → j < length rows.forms → is_basic t (rows.columns + j) ≡ true
  pub entries : (j v : ℕ) (f : Form) → slice_get rows.forms j ≡ Some f → entry value t (rows.columns + j) v ≡ whole (coef_at v f.terms)

-- the operation is a coefficient times 1, and the coefficient is too wide for the field
pub record IsStuckCoefficient (limit : ℕ) (rows : Rows) (stuck : Stuck) : Type 0 where
  pub number : ℕ
  pub form : Form
  pub listed : slice_get rows.forms number ≡ Some form
  pub term : Term
  pub of_form : Contains form.terms term
  pub operation : IsOperation AtBound (rows.columns + number) term.column Product (whole term.coef) (whole (pos 1)) stuck
  pub overflows : limit < unsigned_abs term.coef
