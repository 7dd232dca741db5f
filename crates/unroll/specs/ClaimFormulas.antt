-- The formula over columns that a claim over entries becomes.
-- It has the claim's comparisons in their order, each over the columns of its entries. An equation is two comparisons.
-- A conjunction that goes on in a conjunction is one conjunction of all its parts, and so is a disjunction.
use Rattle.std.specs.Prelude.{◌≡◌, List, [], ◌∷◌, ◌++◌, map}
use Rattle.condition_tree.specs.Trees.{Tree, always, never, leaf, opposite, end_of_all, all_of, end_of_any, any_of, conjunction}
use Rattle.weighing.specs.Claim.{Compared}
use Rattle.weighing.specs.declared.weighings.Rel5.{Rel5}
use Rattle.weighing.specs.declared.weighings.Rel5.TheVariants.{AtMost, Below, AtLeast, Above, Equal}
use Rattle.run_rows.specs.declared.shapes.Shape.{Shape}
use Rattle.claims.specs.Subjects.{Part, Symbolic}
use Rattle.linear_form.specs.declared.relations.Rel.TheVariants.{AtMost as IsAtMost, Below as IsBelow, AtLeast as IsAtLeast, Above as IsAbove}
use Rattle.linear_form.specs.declared.relations.Comparison.{Comparison}
use Rattle.clause_form.specs.Formulas.{formula_of}
use Rattle.clause_form.specs.declared.formulas.Formula.{Formula}
use Rattle.unroll.specs.Sums.{ColumnSum, comparison, summed}

abbrev pub related : ColumnSum → Rel5 → Tree Comparison
related sum AtMost = leaf (comparison sum IsAtMost)
related sum Below = leaf (comparison sum IsBelow)
related sum AtLeast = leaf (comparison sum IsAtLeast)
related sum Above = leaf (comparison sum IsAbove)
related sum Equal = conjunction (leaf (comparison sum IsAtMost) ∷ leaf (comparison sum IsAtLeast) ∷ [])

abbrev pub compared : Shape → Compared Part → Tree Comparison
compared s c = related (summed s c.terms) c.rel

-- where a claim stands: by itself, or as what a conjunction or a disjunction ends with
pub data Standing : Type 0 where
  alone : Standing
  in_all : Standing
  in_any : Standing

-- a formula as the last part there
abbrev pub last_part : Standing → Tree Comparison → Tree Comparison
last_part alone f = f
last_part in_all f = all_of f end_of_all
last_part in_any f = any_of f end_of_any

-- a conjunction, or a disjunction, that goes on there or is the last part
abbrev pub more_of_all : Standing → Tree Comparison → Tree Comparison
more_of_all alone f = f
more_of_all in_all f = f
more_of_all in_any f = any_of f end_of_any

abbrev pub more_of_any : Standing → Tree Comparison → Tree Comparison
more_of_any alone f = f
more_of_any in_all f = all_of f end_of_all
more_of_any in_any f = f

abbrev pub formula_at : Shape → Standing → Symbolic → Tree Comparison
formula_at s at always = last_part at always
formula_at s at never = last_part at never
formula_at s at (leaf c) = last_part at (compared s c)
formula_at s at (opposite c) = last_part at (opposite (formula_at s alone c))
formula_at s at end_of_all = more_of_all at end_of_all
formula_at s at (all_of c rest) = more_of_all at (all_of (formula_at s alone c) (formula_at s in_all rest))
formula_at s at end_of_any = more_of_any at end_of_any
formula_at s at (any_of c rest) = more_of_any at (any_of (formula_at s alone c) (formula_at s in_any rest))

abbrev pub claim_formula : Shape → Symbolic → Tree Comparison
claim_formula s c = formula_at s alone c

-- what is known of formulas one after another
abbrev pub trees : List Formula → List (Tree Comparison)
trees fs = map formula_of fs

abbrev pub claim_formulas : Shape → List Symbolic → List (Tree Comparison)
claim_formulas s cs = map (claim_formula s) cs

-- after the formulas before come those of these claims
abbrev pub Adds : Shape → List Formula → List Symbolic → List Formula → Type 0
Adds s before cs after = trees after ≡ trees before ++ claim_formulas s cs
