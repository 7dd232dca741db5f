-- The states of the theory of linear rows.
use Rattle.std.specs.Prelude.{List}
use Rattle.farkas_cert.specs.declared.literals.Lit.{Lit}
use Rattle.clause_form.specs.Derivations.{Rows}
use Rattle.simplex.specs.Corners.{Corner}

-- the rows, the literals told, and the corner: the tableau, each variable's value, and the limits that were put in force. A
-- limit's tag is the position of its literal among those told
pub record State (F : Type 0) : Type 0 where
  pub rows : Rows
  pub told : List Lit
  pub corner : Corner F
