-- The running sums of a leaf, part by part.
use Rattle.std.specs.Prelude.{◌≡◌, ℕ, ◌<◌, ℤ, pos, neg_ℤ, ◌*ℤ◌, Bool, List, length, ◌⊎◌, Some, slice_index_or, if◌then◌else◌}
use Rattle.whole.specs.Numbers.{IsWithin, fma}
use Rattle.whole.specs.declared.answers.Stuck.{Stuck}
use Rattle.farkas_cert.specs.declared.trees.Part.{Part}
use Rattle.clause_form.specs.Derivations.{Rows, number_in, row_coef, row_of, coef_running, bound_running, terms_of}
use Rattle.linear_form.specs.Sums.{coef_at}
use Rattle.simplex.specs.declared.outcome.Bound.{Bound}
use Rattle.lra_theory.specs.declared.sums.Sums.{Sums}
use Rattle.lra_theory.specs.Clashes.{IsStuckStep}

-- the sum of a column
abbrev pub sum_at : List ℤ → ℕ → ℤ
sum_at sums column = slice_index_or sums column (pos 0)

-- a number of an upper bound, and its opposite for a lower one
abbrev pub signed : Bool → ℤ → ℤ
signed upper z = if upper then z else neg_ℤ z

-- all sums are within 128 bits
pub record AllWithin (sums : Sums) : Type 0 where
  pub columns : (column : ℕ) → IsWithin (sum_at sums.columns.items column)
  pub bound : IsWithin sums.bound

pub record AreZero (columns : ℕ) (sums : Sums) : Type 0 where
  pub length_is : length sums.columns.items ≡ columns
  pub zeros : (column : ℕ) → sum_at sums.columns.items column ≡ pos 0
  pub bound : sums.bound ≡ pos 0

-- the numbers of the bound's row are added, times mult
pub record AreAfterRow (rows : Rows) (b : Bound) (mult : ℤ) (old new : Sums) : Type 0 where
  pub columns : (column : ℕ) → fma (sum_at old.columns.items column) mult (signed b.upper b.den *ℤ coef_at column (terms_of rows b.var)) ≡ Some (sum_at new.columns.items column)
  pub bound : fma old.bound mult (signed b.upper b.num) ≡ Some new.bound

-- a step of the bound's row overflows
abbrev pub IsStuckInRow : Rows → Bound → ℤ → ℕ → Sums → Stuck → Type 0
IsStuckInRow rows b mult position sums stuck =
    ((column : ℕ) × ((column < rows.columns)
    × IsStuckStep column position (sum_at sums.columns.items column) mult (signed b.upper b.den *ℤ coef_at column (terms_of rows b.var)) stuck))
    ⊎ IsStuckStep rows.columns position sums.bound mult (signed b.upper b.num) stuck

-- the numbers of the part's row are added
pub record AreAfterPart (rows : Rows) (p : Part) (old new : Sums) : Type 0 where
  pub columns : (column : ℕ) → column < rows.columns → fma (sum_at old.columns.items column) p.mult (number_in (row_coef column) (row_of rows p.lit)) ≡ Some (sum_at new.columns.items column)
  pub bound : fma old.bound p.mult (number_in (λ row. row.bound) (row_of rows p.lit)) ≡ Some new.bound

-- a step of the part overflows
abbrev pub IsStuckInPart : Rows → Part → ℕ → Sums → Stuck → Type 0
IsStuckInPart rows p position sums stuck =
    ((column : ℕ) × ((column < rows.columns)
    × IsStuckStep column position (sum_at sums.columns.items column) p.mult (number_in (row_coef column) (row_of rows p.lit)) stuck))
    ⊎ IsStuckStep rows.columns position sums.bound p.mult (number_in (λ row. row.bound) (row_of rows p.lit)) stuck

-- the sums of these parts
pub record AreSums (rows : Rows) (parts : List Part) (sums : Sums) : Type 0 where
  pub length_is : length sums.columns.items ≡ rows.columns
  pub within : AllWithin sums
  pub columns : (column : ℕ) → column < rows.columns → coef_running rows column (pos 0) parts ≡ Some (sum_at sums.columns.items column)
  pub bound : bound_running rows (pos 0) parts ≡ Some sums.bound
