-- Well formed clauses: within the limits, without repetition, with small numbers, and with each number in range.
use Rattle.std.specs.Prelude.{◌≡◌, ℕ, ◌+◌, ◌<◌, ◌≤◌, ◌^◌, ℤ, pos, unsigned_abs, ◌≤ℤ◌, Bool, List, [], ◌∷◌, length, All, Some, slice_get}
use Rattle.linear_form.specs.NormalForm.{IsNormalForm}
use Rattle.linear_form.specs.declared.lists.Form.{Form}
use Rattle.farkas_cert.specs.declared.literals.Lit.{Lit}
use Rattle.clause_form.specs.declared.clauses.Atom.TheVariants.{Row}
use Rattle.clause_form.specs.declared.clauses.Clauses.{Clauses}

-- each literal is of an atom below this number
abbrev pub Below : ℕ → List Lit → Type 0
Below n [] = Unit {0}
Below n (l ∷ ls) = (l.atom < n) × Below n ls

-- a form of several columns in normal form, with columns in range and small coefficients
pub record IsGoodForm (columns : ℕ) (f : Form) : Type 0 where
  pub normal : IsNormalForm f.terms
  pub several : 2 ≤ length f.terms
  pub in_range : All (λ t. t.column < columns) f.terms
  pub small : All (λ t. unsigned_abs t.coef < 10 ^ 16) f.terms

-- a row whose form is in range and whose numbers are small
pub record IsGoodRow (forms form : ℕ) (num den : ℤ) : Type 0 where
  pub in_range : form < forms
  pub num_small : unsigned_abs num < 10 ^ 16
  pub den_small : unsigned_abs den < 10 ^ 16
  pub den_some : pos 1 ≤ℤ den

pub record IsWellFormed (c : Clauses) : Type 0 where
  pub few_forms : c.columns + length c.forms ≤ 2048
  pub few_atoms : length c.atoms ≤ 4096
  pub few_clauses : length c.clauses ≤ 1048576
  pub forms : (j : ℕ) (f : Form) → slice_get c.forms j ≡ Some f → IsGoodForm c.columns f
  pub forms_differ : (i j : ℕ) (f : Form) → slice_get c.forms i ≡ Some f → slice_get c.forms j ≡ Some f → i ≡ j
  pub rows : (n form : ℕ) (num den : ℤ) (strict : Bool) → slice_get c.atoms n ≡ Some (Row form num den strict) → IsGoodRow (c.columns + length c.forms) form num den
  pub rows_differ : (m n form : ℕ) (num den : ℤ) (strict : Bool) → slice_get c.atoms m ≡ Some (Row form num den strict) → slice_get c.atoms n ≡ Some (Row form num den strict) → m ≡ n
  pub in_range : (k : ℕ) (clause : List Lit) → slice_get c.clauses k ≡ Some clause → Below (length c.atoms) clause
