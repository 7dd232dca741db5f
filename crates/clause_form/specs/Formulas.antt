-- Formulas as trees of the logic, and when they are true.
use Rattle.std.specs.Prelude.{ℕ, ◌≤◌, ◌<◌, ◌^◌, ℤ, unsigned_abs, List, [], ◌∷◌, length, All}
use Rattle.condition_tree.specs.Trees.{Tree, always, never, leaf, opposite, conjunction, disjunction, Truth, EachLeaf}
use Rattle.linear_form.specs.declared.relations.Comparison.{Comparison}
use Rattle.linear_form.specs.NormalForm.{Meets}
use Rattle.clause_form.specs.declared.formulas.Formula.{Formula}
use Rattle.clause_form.specs.declared.formulas.Formula.TheOpen.{Formula-F}
use Rattle.clause_form.specs.declared.formulas.Formula.TheFolds.{fold-Formula}

-- one level of a formula, whose parts are already seen as trees
abbrev pub formula_step : Formula-F (Tree Comparison) → Tree Comparison
formula_step Formula-F.True = always
formula_step Formula-F.False = never
formula_step (Formula-F.Cmp comparison) = leaf comparison
formula_step (Formula-F.Not part) = opposite part.value
formula_step (Formula-F.And parts) = conjunction parts.items
formula_step (Formula-F.Or parts) = disjunction parts.items

abbrev pub formula_of : Formula → Tree Comparison
formula_of = fold-Formula (Tree Comparison) formula_step

-- the formula is true where each column has the value `value column / den`
abbrev pub IsTrueAt : (ℕ → ℤ) → ℕ → Tree Comparison → Type 0
IsTrueAt value den f = Truth (Meets value den) f

-- each formula of the list is true there
abbrev pub AreTrueAt : (ℕ → ℤ) → ℕ → List (Tree Comparison) → Type 0
AreTrueAt value den [] = Unit {0}
AreTrueAt value den (f ∷ fs) = IsTrueAt value den f × AreTrueAt value den fs

-- each formula of the list has such comparisons
abbrev pub EachComparison : (Comparison → Type 0) → List (Tree Comparison) → Type 0
EachComparison P [] = Unit {0}
EachComparison P (f ∷ fs) = EachLeaf P f × EachComparison P fs

-- the comparison is small enough to be brought to normal form
pub record CanNormalise (c : Comparison) : Type 0 where
  pub count : length c.terms ≤ 128
  pub coefs : All (λ t. unsigned_abs t.coef ≤ 10 ^ 13) c.terms
  pub constant : unsigned_abs c.constant < 10 ^ 16

-- and each of its columns is below this number
pub record CanTake (columns : ℕ) (c : Comparison) : Type 0 where
  pub small : CanNormalise c
  pub in_range : All (λ t. t.column < columns) c.terms
