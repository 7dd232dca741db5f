-- What contracts say of the rows of a leaf, and of all that is kept while a tree is read.
use Rattle.std.specs.Prelude.{◌≡◌, ℕ, ◌^◌, ◌<◌, ℤ, pos, neg_ℤ, ◌≤ℤ◌, unsigned_abs, Bool, true, false, not, ◌||◌, List, [], ◌∷◌, length, Option, Some}
use Rattle.std.specs.Option.{option_and_then}
use Rattle.whole.specs.Numbers.{IsWithin}
use Rattle.farkas_cert.specs.declared.trees.Part.{Part}
use Rattle.clause_form.specs.declared.clauses.Clauses.{Clauses}
use Rattle.clause_form.specs.Derivations.{Rows, LitRow, terms_of, row_coef, running_sum}
use Rattle.cert_check.specs.declared.found.Found.{Found}
use Rattle.cert_check.specs.declared.found.Found.TheVariants.{Sound}
use Rattle.cert_check.specs.declared.leaves.Total.{Total}
use Rattle.cert_check.specs.declared.nodes.Desk.{Desk}
use Rattle.cert_check.specs.declared.rows.Row.{Row}
use Rattle.cert_check.specs.Causes.{some_strict}
use Rattle.cert_check.specs.Tables.{Assumed, sum_at, EachWithin, IsCleared}

-- ---- rows

-- the row that the code found, with its form's terms
abbrev pub seen_row : Rows → Row → LitRow
seen_row c row = record { terms = terms_of c row.form; factor = row.factor; bound = row.bound; strict = row.strict }

abbrev pub row_if : Bool → ℕ → ℤ → ℤ → Bool → Row
row_if true form num den strict = record { form = form; factor = den; bound = num; strict = strict }
row_if false form num den strict = record { form = form; factor = neg_ℤ den; bound = neg_ℤ num; strict = not strict }

-- the form is one of this many, and the numbers are small
pub record IsSmall (forms : ℕ) (row : Row) : Type 0 where
  pub form : row.form < forms
  pub factor : unsigned_abs row.factor < 10 ^ 16
  pub bound : unsigned_abs row.bound < 10 ^ 16

-- ---- together

-- the tables fit the clauses, and the sums are all 0
pub record IsReady (c : Clauses) (desk : Desk) : Type 0 where
  pub atoms : desk.path.atoms ≡ length c.atoms
  pub sums : IsCleared c.columns desk.sums

-- so are they after a sound part, with the path as it was
abbrev pub IsReadyAgain : Clauses → Assumed → Desk → Found → Type 0
IsReadyAgain c path desk found = found ≡ Sound → IsReady c desk × (desk.path ≡ path)

-- no multiplier is below 0
abbrev pub NoneNegative : List Part → Type 0
NoneNegative [] = Unit {0}
NoneNegative (p ∷ ps) = (pos 0 ≤ℤ p.mult) × NoneNegative ps

-- the running sum of a leaf's bounds, and whether a strict row counts
pub record AreTotals (c : Rows) (parts : List Part) (total : Total) : Type 0 where
  pub bound : total.bound ≡ running_sum c (λ row. row.bound) (pos 0) parts
  pub strict : total.strict ≡ some_strict c parts

-- the running sums of a leaf's parts, by column
pub record AreSums (c : Rows) (parts : List Part) (sums : List (Option ℤ)) : Type 0 where
  pub columns_are : length sums ≡ c.columns
  pub sum : (column : ℕ) → column < c.columns → sum_at sums column ≡ running_sum c (row_coef column) (pos 0) parts

-- what is added so far, and the parts that are left
pub record Running (c : Rows) (parts left : List Part) (sums : List (Option ℤ)) (total : Total) : Type 0 where
  pub length_is : length sums ≡ c.columns
  pub within : EachWithin sums
  pub column : (j : ℕ) → j < c.columns → option_and_then (λ s. running_sum c (row_coef j) s left) (sum_at sums j) ≡ running_sum c (row_coef j) (pos 0) parts
  pub bound : option_and_then (λ s. running_sum c (λ row. row.bound) s left) total.bound ≡ running_sum c (λ row. row.bound) (pos 0) parts
  pub bound_within : (z : ℤ) → total.bound ≡ Some z → IsWithin z
  pub strict : (total.strict || some_strict c left) ≡ some_strict c parts
  pub mults : NoneNegative left
