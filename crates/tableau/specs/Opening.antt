-- The tableau that some forms define.
use Rattle.std.specs.Prelude.{◌≡◌, ℕ, ◌+◌, ◌<◌, true, false, List, length, Contains, pos, unsigned_abs}
use Rattle.std.specs.Global.{Vec}
use Rattle.ordered_field.specs.Rational.{ℚ, whole}
use Rattle.whole.specs.declared.answers.Op.TheVariants.{Product}
use Rattle.whole.specs.declared.answers.Place.TheVariants.{Bound}
use Rattle.whole.specs.declared.answers.Stuck.{Stuck}
use Rattle.tableau.specs.Tables.{Table, variables, is_basic, entry}
use Rattle.tableau.specs.Terms.{form, coefficient_of}
use Rattle.tableau.specs.Operations.{IsOperation}
use Rattle.tableau.specs.declared.terms.RowTerm.{RowTerm}

-- the n columns aren't basic, variable n + j is basic, and its row is form j
pub record IsOpening {F : Type 0} (value : F → ℚ) (n : ℕ) (rows : List (Vec RowTerm)) (t : Table F) : Type 0 where
  pub columns : t.columns ≡ n
  pub count : variables t ≡ n + length rows
  pub non_basic : (v : ℕ) → v < n → is_basic t v ≡ false
  pub basic : (j : ℕ) → j < length rows → is_basic t (n + j) ≡ true
  pub entries :
      (j v : ℕ) → j < length rows → entry value t (n + j) v ≡ whole (coefficient_of (form rows j) v)

-- the operation is a coefficient times 1, and the coefficient exceeds the limit
pub record IsStuckCoefficient (limit n : ℕ) (rows : List (Vec RowTerm)) (stuck : Stuck) : Type 0 where
  pub row : ℕ
  pub within : row < length rows
  pub term : RowTerm
  pub listed : Contains (form rows row) term
  pub operation : IsOperation Bound (n + row) term.var Product (whole term.coef) (whole (pos 1)) stuck
  pub overflows : limit < unsigned_abs term.coef
