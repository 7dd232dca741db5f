use Rattle.std.proofs.Common.{◌≡◌, drop, map}
use Rattle.clause_form.specs.Answers.{build_of}
use Rattle.clause_form.specs.Building.{built, nothing}
use Rattle.clause_form.specs.Formulas.{CanTake, EachComparison, formula_of}
use Rattle.clause_form.proofs.converting.converted.Given as goal

-- the formulas so far, and those to come, are all formulas
abbrev pub invariant-loop-formula : goal.invariant-loop-formula
invariant-loop-formula l = record {
  made : built (map formula_of (drop l.formula-index l.formula-items)) (build_of l.builder) ≡ built (map formula_of l.formula-items) (nothing l.columns);
  columns : l.builder.columns ≡ l.columns;
  small : EachComparison (CanTake l.columns) (map formula_of (drop l.formula-index l.formula-items));
}
