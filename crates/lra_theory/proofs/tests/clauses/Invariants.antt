use Rattle.std.proofs.Common.{map}
use Rattle.clause_form.specs.Formulas.{CanTake, EachComparison, formula_of}
use Rattle.lra_theory.proofs.tests.clauses.Given as goal

abbrev pub invariant-loop-row : goal.invariant-loop-row
invariant-loop-row l = EachComparison (CanTake 2) (map formula_of l.formulas.items)
