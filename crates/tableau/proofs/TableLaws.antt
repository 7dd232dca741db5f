-- A table's counts and entries, and the entries that a row lists.
use Rattle.std.proofs.Common.{◌≡◌, ℕ, zero, suc, ◌+◌, ◌<◌, ◌≤◌, ◌^◌, ◌⊎◌, inl, inr, Bool, false, pos, List, [], ◌∷◌, length, get_or, refl, sym, ◌∙◌, arith}
use Rattle.std.specs.List.{All, Any}
use Rattle.std.proofs.lemmas.Bool.{cases_eq, cases_lt}
use Rattle.ordered_field.specs.Rational.{ℚ, whole}
use Rattle.field_rows.specs.Rows.{coefficient, IsRow, IsRowWithin}
use Rattle.field_rows.specs.declared.row.Entry.{Entry}
use Rattle.field_rows.proofs.RowLaws.{coefficient-none, coefficient-here, coefficient-there}
use Rattle.tableau.specs.Tables.{Table, variables, is_basic, entry}

pub variables-is : {F : Type 0} (t : Table F) → variables t ≡ length t.rows
unfolding variables
variables-is t = refl

pub is_basic-is : {F : Type 0} (t : Table F) (v : ℕ) → is_basic t v ≡ get_or t.basic v false
unfolding is_basic
is_basic-is t v = refl

pub entry-is : {F : Type 0} (value : F → ℚ) (t : Table F) (b v : ℕ) → entry value t b v ≡ coefficient value (get_or t.rows b []) v
unfolding entry
entry-is value t b v = refl

pub entry-row : {F : Type 0} (value : F → ℚ) (t : Table F) (b : ℕ) → entry value t b ≡ coefficient value (get_or t.rows b [])
unfolding entry
entry-row value t b = refl

-- ---- entries that a row lists

-- the variable of a listed entry stands behind where the row begins
listed_from : {F : Type 0} (value : F → ℚ) (from to : ℕ) (row : List (Entry F)) (k : ℕ) (d : Entry F) → IsRowWithin value from to row → k < length row → from ≤ (get_or row k d).variable
listed_from value from to [] k d is_row within = absurd (omega arith)
listed_from value from to (e ∷ es) zero d is_row within = is_row.0
listed_from value from to (e ∷ es) (suc k) d is_row within =
    let later : e.variable + 1 ≤ (get_or es k d).variable = listed_from value (e.variable + 1) to es k d is_row.3 (omega arith) in
    omega (arith, is_row.0)

listed : {F : Type 0} (value : F → ℚ) (from to : ℕ) (row : List (Entry F)) (k : ℕ) (d : Entry F) → IsRowWithin value from to row → k < length row → value (get_or row k d).number ≡ coefficient value row (get_or row k d).variable
listed value from to [] k d is_row within = absurd (omega arith)
listed value from to (e ∷ es) zero d is_row within = sym (coefficient-here value e es e.variable refl)
listed value from to (e ∷ es) (suc k) d is_row within =
    let later : e.variable + 1 ≤ (get_or es k d).variable = listed_from value (e.variable + 1) to es k d is_row.3 (omega arith) in
    listed value (e.variable + 1) to es k d is_row.3 (omega arith)
    ∙ sym (coefficient-there value e es (get_or es k d).variable (λ same. absurd (omega arith)))

-- each listed entry has the row's coefficient at its variable
pub listed_entries : {F : Type 0} (value : F → ℚ) (row : List (Entry F)) → IsRow value row → All (λ e. value e.number ≡ coefficient value row e.variable) row
unfolding IsRow
listed_entries value row is_row = λ k d within. listed value 0 (2 ^ 32) row k d is_row within

listed_number : {F : Type 0} (value : F → ℚ) (from to : ℕ) (row : List (Entry F)) (k : ℕ) (d : Entry F) → IsRowWithin value from to row → k < length row → value (get_or row k d).number ≡ whole (pos 0) → ⊥
listed_number value from to [] k d is_row within = absurd (omega arith)
listed_number value from to (e ∷ es) zero d is_row within = is_row.2
listed_number value from to (e ∷ es) (suc k) d is_row within = listed_number value (e.variable + 1) to es k d is_row.3 (omega arith)

-- a row that has nothing from n on lists variables below n
pub entries_below : {F : Type 0} (value : F → ℚ) (n : ℕ) (row : List (Entry F)) → IsRow value row → ((v : ℕ) → n ≤ v → coefficient value row v ≡ whole (pos 0)) → All (λ e. e.variable < n) row
unfolding IsRow
entries_below value n row is_row none = λ k d within. by_place k d within (cases_lt (get_or row k d).variable n)
  where
    by_place : (k : ℕ) (d : Entry _) → k < length row → ((get_or row k d).variable < n) ⊎ (n ≤ (get_or row k d).variable) → (get_or row k d).variable < n
    by_place k d within (inl below) = below
    by_place k d within (inr beyond) =
        absurd (listed_number value 0 (2 ^ 32) row k d is_row within (listed value 0 (2 ^ 32) row k d is_row within ∙ none (get_or row k d).variable beyond))

-- a coefficient is zero, or it isn't and is that of a listed entry
decided : {F : Type 0} (value : F → ℚ) (from to : ℕ) (row : List (Entry F)) (v : ℕ) → IsRowWithin value from to row → (coefficient value row v ≡ whole (pos 0)) ⊎ ((coefficient value row v ≡ whole (pos 0) → ⊥) × ((k : ℕ) × (e : Entry F) × (k < length row) × (get_or row k e ≡ e) × (e.variable ≡ v)))
decided value from to [] v is_row = inl (coefficient-none value v)
decided value from to (e ∷ es) v is_row = by_place (cases_eq v e.variable) (decided value (e.variable + 1) to es v is_row.3)
  where
    by_place : (v ≡ e.variable) ⊎ (v ≡ e.variable → ⊥) → (coefficient value es v ≡ whole (pos 0)) ⊎ ((coefficient value es v ≡ whole (pos 0) → ⊥) × ((k : ℕ) × (e : Entry _) × (k < length es) × (get_or es k e ≡ e) × (e.variable ≡ v))) → (coefficient value (e ∷ es) v ≡ whole (pos 0)) ⊎ ((coefficient value (e ∷ es) v ≡ whole (pos 0) → ⊥) × ((k : ℕ) × (f : Entry _) × (k < length (e ∷ es)) × (get_or (e ∷ es) k f ≡ f) × (f.variable ≡ v)))
    by_place (inl here) rest =
        inr (λ none. is_row.2 (sym (coefficient-here value e es v here) ∙ none), (0, e, omega arith, refl, sym here))
    by_place (inr apart) (inl none) = inl (coefficient-there value e es v apart ∙ none)
    by_place (inr apart) (inr (some, (k, f, within, is, at))) =
        inr (λ none. some (sym (coefficient-there value e es v apart) ∙ none), (suc k, f, omega arith, is, at))

-- whether a coefficient is zero
pub zero_or_not : {F : Type 0} (value : F → ℚ) (row : List (Entry F)) (v : ℕ) → IsRow value row → (coefficient value row v ≡ whole (pos 0)) ⊎ (coefficient value row v ≡ whole (pos 0) → ⊥)
unfolding IsRow
zero_or_not value row v is_row = by_case (decided value 0 (2 ^ 32) row v is_row)
  where
    by_case : (coefficient value row v ≡ whole (pos 0)) ⊎ ((coefficient value row v ≡ whole (pos 0) → ⊥) × Any (λ e. e.variable ≡ v) row) → (coefficient value row v ≡ whole (pos 0)) ⊎ (coefficient value row v ≡ whole (pos 0) → ⊥)
    by_case (inl none) = inl none
    by_case (inr some) = inr some.0

-- a coefficient that isn't zero is listed
pub some_listed : {F : Type 0} (value : F → ℚ) (row : List (Entry F)) (v : ℕ) → IsRow value row → (coefficient value row v ≡ whole (pos 0) → ⊥) → Any (λ e. e.variable ≡ v) row
unfolding IsRow
some_listed value row v is_row some = by_case (decided value 0 (2 ^ 32) row v is_row)
  where
    by_case : (coefficient value row v ≡ whole (pos 0)) ⊎ ((coefficient value row v ≡ whole (pos 0) → ⊥) × Any (λ e. e.variable ≡ v) row) → Any (λ e. e.variable ≡ v) row
    by_case (inl none) = absurd (some none)
    by_case (inr listed) = listed.1

-- a coefficient is zero, or a number of the field
pub number_or_none : {F : Type 0} (value : F → ℚ) (row : List (Entry F)) (v : ℕ) → (coefficient value row v ≡ whole (pos 0)) ⊎ ((x : F) × (coefficient value row v ≡ value x))
number_or_none value [] v = inl (coefficient-none value v)
number_or_none value (e ∷ es) v = by_place (cases_eq v e.variable) (number_or_none value es v)
  where
    by_place : (v ≡ e.variable) ⊎ (v ≡ e.variable → ⊥) → (coefficient value es v ≡ whole (pos 0)) ⊎ ((x : _) × (coefficient value es v ≡ value x)) → (coefficient value (e ∷ es) v ≡ whole (pos 0)) ⊎ ((x : _) × (coefficient value (e ∷ es) v ≡ value x))
    by_place (inl here) rest = inr (e.number, coefficient-here value e es v here)
    by_place (inr apart) (inl none) = inl (coefficient-there value e es v apart ∙ none)
    by_place (inr apart) (inr (x, is)) = inr (x, coefficient-there value e es v apart ∙ is)
