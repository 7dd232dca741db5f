-- How a tableau is kept, and what is formed aside in an exchange.
use Rattle.std.specs.Prelude.{◌≡◌, ℕ, ◌+◌, ◌<◌, ◌≤◌, unsigned_abs, true, false, Bool, List, [], ◌∷◌, length, get_or, set, Contains, All, Any, pos, ◌⊎◌}
use Rattle.ordered_field.specs.Rational.{ℚ, whole}
use Rattle.field_rows.specs.Rows.{coefficient, IsRow, AreQuotients, IsSubstituted, SomeQuotientIsWide, SomeEntryIsWide}
use Rattle.field_rows.specs.declared.row.Entry.{Entry}
use Rattle.whole.specs.declared.answers.Stuck.{Stuck}
use Rattle.tableau.specs.Tables.{Table, variables, entry, IsTable}
use Rattle.tableau.specs.Exchange.{IsStuckQuotient, IsStuckStep}
use Rattle.std.specs.Global.{Vec}
use Rattle.whole.specs.declared.answers.Op.TheVariants.{Product}
use Rattle.whole.specs.declared.answers.Place.TheVariants.{Bound}
use Rattle.tableau.specs.Terms.{form, coefficient_of}
use Rattle.tableau.specs.Operations.{IsOperation}
use Rattle.tableau.specs.declared.terms.RowTerm.{RowTerm}
use Rattle.tableau.specs.declared.exchange.Followed.{Followed}

-- all names are below n
abbrev pub AreBelow : ℕ → List (List ℕ) → Type 0
AreBelow n users = (v : ℕ) → All (λ b. b < n) (get_or users v [])

-- each variable has a list of the variables whose rows may have it
pub record IsNamed {F : Type 0} (value : F → ℚ) (t : Table F) (users : List (List ℕ)) : Type 0 where
  pub count : length users ≡ variables t
  pub within : AreBelow (variables t) users
  pub named : (b v : ℕ) → ¬ (entry value t b v ≡ whole (pos 0)) → Contains (get_or users v []) b

-- the lists of a tableau have one length, each row is one, and the rows with a variable are named at it
pub record IsLaidOut {F : Type 0} (value : F → ℚ) (t : Table F) (users : List (List ℕ)) : Type 0 where
  pub table : IsTable value t
  pub basic : length t.basic ≡ variables t
  pub rows : (b : ℕ) → IsRow value (get_or t.rows b [])
  pub names : IsNamed value t users

-- the lists have lost no name
pub record IsGrown (old new : List (List ℕ)) : Type 0 where
  pub count : length new ≡ length old
  pub kept : (v b : ℕ) → Contains (get_or old v []) b → Contains (get_or new v []) b

-- the row that was formed is that of its variable with d in the place of o, and no operation of it is too wide
pub record IsFollowed {F : Type 0} (limit : ℕ) (value : F → ℚ) (b o : ℕ) (rows : List (List (Entry F))) (d : ℕ → ℚ) (f : Followed F) : Type 0 where
  pub within : f.variable < length rows
  pub other : f.variable ≡ b → ⊥
  pub is_row : IsRow value f.row
  pub substituted : IsSubstituted o d (coefficient value (get_or rows f.variable [])) (coefficient value f.row)
  pub fits : ¬ SomeEntryIsWide limit o d (coefficient value (get_or rows f.variable []))

-- the row of variable r is formed, if it isn't that of b and has o
abbrev pub IsVisited : {F : Type 0} → (F → ℚ) → ℕ → ℕ → List (List (Entry F)) → List (Followed F) → ℕ → Type 0
IsVisited value b o rows fs r =
    (r ≡ b → ⊥) → ¬ (coefficient value (get_or rows r []) o ≡ whole (pos 0)) → Any (λ f. f.variable ≡ r) fs

-- s is b's row solved for o, and each of these users' rows that has o is formed
pub record IsFormed {F : Type 0} (limit : ℕ) (value : F → ℚ) (b o : ℕ) (rows : List (List (Entry F))) (users : List ℕ) (s : List (Entry F)) (fs : List (Followed F)) : Type 0 where
  pub is_row : IsRow value s
  pub quotients : AreQuotients b o (coefficient value (get_or rows b [])) (coefficient value s)
  pub fits : ¬ SomeQuotientIsWide limit b o (coefficient value (get_or rows b []))
  pub each : All (IsFollowed limit value b o rows (coefficient value s)) fs
  pub all : All (IsVisited value b o rows fs) users

-- an operation is too wide in a row that has o
pub record IsStuckRow {F : Type 0} (limit : ℕ) (value : F → ℚ) (b o : ℕ) (rows : List (List (Entry F))) (d : ℕ → ℚ) (stuck : Stuck) : Type 0 where
  pub row : ℕ
  pub other : row ≡ b → ⊥
  pub some : ¬ (coefficient value (get_or rows row []) o ≡ whole (pos 0))
  pub operation : IsStuckStep limit row o d (coefficient value (get_or rows row [])) stuck

-- an operation is too wide in b's row solved for o, or in a row that follows it
abbrev pub IsStuckForming : {F : Type 0} → ℕ → (F → ℚ) → ℕ → ℕ → List (List (Entry F)) → Stuck → Type 0
IsStuckForming limit value b o rows stuck =
    IsStuckQuotient limit b o (coefficient value (get_or rows b [])) stuck
    ⊎ ((d : ℕ → ℚ) × AreQuotients b o (coefficient value (get_or rows b [])) d × IsStuckRow limit value b o rows d stuck)

-- the formed rows in place of those of their variables
abbrev pub placed : {F : Type 0} → List (List (Entry F)) → List (Followed F) → List (List (Entry F))
placed rows [] = rows
placed rows (f ∷ fs) = set (placed rows fs) f.variable f.row

-- the rows after an exchange
unfoldable pub exchanged_rows : {F : Type 0} → ℕ → ℕ → List (List (Entry F)) → List (Entry F) → List (Followed F) → List (List (Entry F))
exchanged_rows b o rows s fs = set (set (placed rows fs) b []) o s

-- which variables are basic after an exchange
unfoldable pub exchanged_flags : ℕ → ℕ → List Bool → List Bool
exchanged_flags b o flags = set (set flags b false) o true

-- the row has the terms' coefficients
pub record IsRowOf {F : Type 0} (value : F → ℚ) (ts : List RowTerm) (row : List (Entry F)) : Type 0 where
  pub is_row : IsRow value row
  pub entries : (v : ℕ) → coefficient value row v ≡ whole (coefficient_of ts v)

-- the first k forms are rows of variables from n on
pub record IsOpened {F : Type 0} (limit : ℕ) (value : F → ℚ) (n : ℕ) (forms : List (Vec RowTerm)) (k : ℕ) (basic : List Bool) (rows : List (List (Entry F))) (users : List (List ℕ)) : Type 0 where
  pub flag_count : length basic ≡ n + k
  pub row_count : length rows ≡ n + k
  pub user_count : length users ≡ n + length forms
  pub column_flags : (v : ℕ) → v < n → get_or basic v false ≡ false
  pub row_flags : (j : ℕ) → j < k → get_or basic (n + j) false ≡ true
  pub columns : (v : ℕ) → v < n → get_or rows v [] ≡ []
  pub each : (j : ℕ) → j < k → IsRowOf value (form forms j) (get_or rows (n + j) [])
  pub below : AreBelow (n + length forms) users
  pub named : (j v : ℕ) → j < k → ¬ (coefficient value (get_or rows (n + j) []) v ≡ whole (pos 0)) → Contains (get_or users v []) (n + j)
  pub fits : (j : ℕ) → j < k → All (λ t. unsigned_abs t.coef ≤ limit) (form forms j)

-- the coefficient of one term exceeds the limit
pub record IsStuckNumber (limit v : ℕ) (t : RowTerm) (stuck : Stuck) : Type 0 where
  pub operation : IsOperation Bound v t.var Product (whole t.coef) (whole (pos 1)) stuck
  pub overflows : limit < unsigned_abs t.coef

-- that of one of these terms does
pub record IsStuckTerm (limit v : ℕ) (ts : List RowTerm) (stuck : Stuck) : Type 0 where
  pub term : RowTerm
  pub listed : Contains ts term
  pub number : IsStuckNumber limit v term stuck
