-- The terms of conditions, each comparison at the scale of its own denominators, for any way `term` of making a term and
-- for n flows.
use Rattle.std.specs.Prelude.{ℕ, ℤ, ◌≤◌, List, ◌++◌, fold, flat_map, All}
use Rattle.std.specs.Int.{◌∣◌}
use Rattle.condition_tree.specs.Trees.{with_leaves}
use Rattle.claims.specs.Subjects.{Subject}
use Rattle.weighing.specs.Claim.{Claims, Compared}
use Rattle.weighing.specs.Scaled.{IsNum, common, den_of, scaled}
use Rattle.weighing.specs.declared.scales.Side.{Side}
use Rattle.weighing.specs.declared.scales.Side.TheVariants.{Left, Right}
use Rattle.weighing.specs.declared.weighings.Rel5.{Rel5}
use Rattle.run_rows.specs.declared.rows.Run.{Run}
use Rattle.question_text.specs.Conditions.{Condition, Comparison, compares, EachComparison}
use Rattle.question_text.specs.NameMeanings.{IsOf, of_terms}
use Rattle.question_text.specs.declared.names.Rows.{Rows}
use Rattle.question_text.specs.declared.conditions.QLin.{QLin}
use Rattle.question_text.specs.declared.conditions.QTerm.{QTerm}

abbrev pub term_terms : {T : Type 0} → (ℤ → Subject → T) → ℕ → Rows → Side → ℕ → QTerm → List T
term_terms term n at side scale t = of_terms term n at (scaled side scale t.coef) t.of

-- the terms of an expression on a side of a comparison
abbrev pub lin_terms : {T : Type 0} → (ℤ → Subject → T) → ℕ → Rows → Side → ℕ → List QTerm → List T
lin_terms term n at side scale terms = flat_map (term_terms term n at side scale) terms

-- the least common multiple of a scale and the denominators of an expression
abbrev pub scale_with : ℕ → List QTerm → ℕ
scale_with scale terms = fold (λ m t. common m t.coef) scale terms

abbrev pub scale_of_two : QLin → QLin → ℕ
scale_of_two left right = scale_with (scale_with 1 left.terms) right.terms

-- each denominator of an expression divides m
abbrev pub Divides : ℕ → QTerm → Type 0
Divides m t = den_of t.coef ∣ m

abbrev pub AreCleared : ℕ → List QTerm → Type 0
AreCleared m terms = All (Divides m) terms

-- m is the least common multiple of the denominators of both sides
pub record IsLeastScale (left right : QLin) (m : ℕ) : Type 0 where
  pub of_left : AreCleared m left.terms
  pub of_right : AreCleared m right.terms
  pub least : (n : ℕ) → AreCleared n left.terms → AreCleared n right.terms → m ∣ n

-- the terms of the left side, then those of the right side with their signs turned
abbrev pub comparison_terms : {T : Type 0} → (ℤ → Subject → T) → ℕ → Rows → QLin → QLin → List T
comparison_terms term n at left right =
    lin_terms term n at Left (scale_of_two left right) left.terms ++ lin_terms term n at Right (scale_of_two left right) right.terms

abbrev pub comparison_claim : {T : Type 0} → (ℤ → Subject → T) → ℕ → Rows → QLin → Rel5 → QLin → Compared T
comparison_claim term n at left rel right = record { terms = comparison_terms term n at left right; rel = rel }

-- what a condition claims of the entries that it names
abbrev pub leaf_claim : {T : Type 0} → (ℤ → Subject → T) → ℕ → Rows → Comparison → Compared T
leaf_claim term n at (compares left rel right) = comparison_claim term n at left rel right

abbrev pub condition_claim : {T : Type 0} → (ℤ → Subject → T) → ℕ → Rows → Condition → Claims T
condition_claim term n at c = with_leaves (leaf_claim term n at) c

abbrev pub HasNum : QTerm → Type 0
HasNum t = IsNum t.coef

-- what the code needs of a term, of a comparison and of a condition
pub record CanTake (r : Run) (at : Rows) (t : QTerm) : Type 0 where
  pub coef_in : IsNum t.coef
  pub of_in : IsOf r at t.of

pub record CanCompare (r : Run) (at : Rows) (left right : QLin) : Type 0 where
  pub left_in : All (CanTake r at) left.terms
  pub right_in : All (CanTake r at) right.terms
  pub scale_to : scale_of_two left right ≤ 1000000

abbrev pub CanWeigh : Run → Rows → Condition → Type 0
CanWeigh r at c = EachComparison (CanCompare r at) c
