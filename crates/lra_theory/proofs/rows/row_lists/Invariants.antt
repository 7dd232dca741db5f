use Rattle.std.proofs.Common.{take}
use Rattle.lra_theory.specs.Literals.{AreRowsOf}
use Rattle.lra_theory.proofs.rows.row_lists.Given as goal

abbrev pub invariant-loop-form : goal.invariant-loop-form
invariant-loop-form l = AreRowsOf (take l.form-index l.forms) l.rows.items
