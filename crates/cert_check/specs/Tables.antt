-- What contracts see of the checker's two tables: the path that is assumed, and the running sums of the columns.
use Rattle.std.specs.Prelude.{◌≡◌, ◌≢◌, ℕ, zero, suc, ◌+◌, ◌^◌, ◌<◌, nat_lt, ℤ, pos, Bool, false, List, [], ◌∷◌, length, Option, None, Some, slice_index_or, if◌then◌else◌}
use Rattle.std.specs.Option.{option_and_then}
use Rattle.std.specs.Ordering.{int_eq}
use Rattle.whole.specs.Numbers.{IsWithin, fma}
use Rattle.farkas_cert.specs.declared.literals.Lit.{Lit}
use Rattle.clause_form.specs.Derivations.{NamesOnce}
use Rattle.cert_check.specs.Causes.{truth_on}

-- ---- paths

-- the literals that are assumed, the latest first, over this many atoms
pub record Assumed : Type 0 where
  pub atoms : ℕ
  pub lits : List Lit

-- the table has the truth that the path gives each atom, and the path names none twice
pub record Shows (path : List Lit) (truths : List (Option Bool)) : Type 0 where
  pub once : NamesOnce (length truths) path
  pub truth : (atom : ℕ) → slice_index_or truths atom None ≡ truth_on path atom

abbrev pub without_first : List Lit → List Lit
without_first [] = []
without_first (l ∷ ls) = ls

-- ---- sums

-- a running sum after one product more; a sum that overflowed stays so
abbrev pub stepped : ℤ → ℤ → Option ℤ → Option ℤ
stepped mult number sum = option_and_then (λ s. fma s mult number) sum

-- the running sum of a column
abbrev pub sum_at : List (Option ℤ) → ℕ → Option ℤ
sum_at sums column = slice_index_or sums column None

abbrev pub is_settled : Option ℤ → Bool
is_settled None = false
is_settled (Some sum) = int_eq sum (pos 0)

-- 1 for a sum that overflowed or isn't 0
abbrev pub weight : Option ℤ → ℕ
weight sum = if is_settled sum then 0 else 1

-- how many sums overflowed or aren't 0
abbrev pub unsettled : List (Option ℤ) → ℕ
unsettled [] = zero
unsettled (s ∷ ss) = weight s + unsettled ss

-- each sum that didn't pass is within 128 bits
abbrev pub EachWithin : List (Option ℤ) → Type 0
EachWithin sums = (column : ℕ) (sum : ℤ) → sum_at sums column ≡ Some sum → IsWithin sum

-- the least column below a number whose sum overflowed, if there is one
abbrev pub IsLeastOverflowed : List (Option ℤ) → Option ℕ → Type 0
IsLeastOverflowed sums None = (column : ℕ) → column < length sums → sum_at sums column ≢ None
IsLeastOverflowed sums (Some least) = (least < length sums) × (sum_at sums least ≡ None) × ((column : ℕ) → column < least → sum_at sums column ≢ None)

abbrev pub least_of : Option ℕ → ℕ → ℕ
least_of None column = column
least_of (Some least) column = if nat_lt least column then least else column

-- the least column that overflowed, after a column's sum has become this one
abbrev pub overflowed_after : Option ℤ → Option ℕ → ℕ → Option ℕ
overflowed_after None overflowed column = Some (least_of overflowed column)
overflowed_after (Some sum) overflowed column = overflowed

-- what is kept of the sums beside them
pub record Tallies (sums : List (Option ℤ)) (count : ℕ) (overflowed : Option ℕ) : Type 0 where
  pub few : length sums < 2 ^ 32
  pub counted : count ≡ unsettled sums
  pub least : IsLeastOverflowed sums overflowed
  pub within : EachWithin sums

-- a sum of 0 for each column
pub record IsCleared (columns : ℕ) (sums : List (Option ℤ)) : Type 0 where
  pub columns_are : length sums ≡ columns
  pub zeros : (column : ℕ) → column < columns → sum_at sums column ≡ Some (pos 0)
