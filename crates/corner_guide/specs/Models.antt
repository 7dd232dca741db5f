-- When values at the corner of a theory's state, with a truth of each atom, are a model.
use Rattle.std.specs.Prelude.{◌≡◌, pos, ◌≤ℤ◌, unsigned_abs, length, All}
use Rattle.whole.specs.Numbers.{IsWithin}
use Rattle.linear_form.specs.Sums.{entry}
use Rattle.clause_form.specs.Models.{IsModel}
use Rattle.clause_form.specs.Theories.{AreMet, TheoryView}
use Rattle.clause_form.specs.declared.clauses.Clauses.{Clauses}
use Rattle.clause_search.specs.Answers.{truth_in}
use Rattle.corner_values.specs.Values.{AreValuesAt}
use Rattle.lra_theory.specs.States.{State}
use Rattle.corner_guide.specs.declared.model.CornerModel.{CornerModel}

-- the values are those at the corner, a number being put in for the infinitesimal, and meet the rows of the literals told; each atom of
-- a row is as true as its row at them, and each clause has a true literal
pub record IsCornerModel {F : Type 0} (c : Clauses) (s : TheoryView (State F)) (m : CornerModel) : Type 0 where
  pub at_corner : AreValuesAt s.state.corner m.values.over m.values.values
  pub met : AreMet s.rows (entry m.values.values) (unsigned_abs m.values.over) s.told
  pub count : length m.values.values ≡ c.columns
  pub over_from : pos 1 ≤ℤ m.values.over
  pub each_in : All IsWithin m.values.values
  pub atoms : length m.truths ≡ length c.atoms
  pub model : IsModel c (entry m.values.values) (unsigned_abs m.values.over) (truth_in m.truths)
