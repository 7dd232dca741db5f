-- When values and truths are a model of clauses, and what well formed clauses are.
use Rattle.std.specs.Prelude.{◌≡◌, ◌↔◌, ℕ, ◌-◌, ℤ, pos, ◌*ℤ◌, nat_lt, Bool, true, ◌⊎◌, List, [], ◌∷◌, IsTrue, Some, slice_get, if◌then◌else◌}
use Rattle.std.specs.Option.{option_map_or}
use Rattle.linear_form.specs.Sums.{sum_of}
use Rattle.linear_form.specs.NormalForm.{Bounds}
use Rattle.linear_form.specs.declared.lists.Form.{Form}
use Rattle.farkas_cert.specs.declared.literals.Lit.{Lit}
use Rattle.clause_form.specs.declared.clauses.Atom.{Atom}
use Rattle.clause_form.specs.declared.clauses.Atom.TheVariants.{Row, Named}
use Rattle.clause_form.specs.declared.clauses.Clauses.{Clauses}

-- the value of a form by its number, in units of 1 / den: a column, or one of the forms of several columns
abbrev pub form_value : ℕ → List Form → (ℕ → ℤ) → ℕ → ℤ
form_value columns forms value form =
    if nat_lt form columns then value form else option_map_or (λ f. sum_of value f.terms) (slice_get forms (form - columns)) (pos 0)

-- the row of an atom's literal holds where each column has the value `value column / den`
abbrev pub RowHolds : ℕ → List Form → (ℕ → ℤ) → ℕ → Bool → Atom → Type 0
RowHolds columns forms value over positive (Row form num den strict) =
    Bounds strict positive (den *ℤ form_value columns forms value form) (num *ℤ pos over)
RowHolds columns forms value over positive Named = Unit {0}

-- each row atom is true exactly where its row holds
abbrev pub RowsAgree : Clauses → (ℕ → ℤ) → ℕ → (ℕ → Bool) → Type 0
RowsAgree c value over truth =
    (n : ℕ) (form : ℕ) (num den : ℤ) (strict : Bool) → slice_get c.atoms n ≡ Some (Row form num den strict)
    → (IsTrue (truth n) ↔ RowHolds c.columns c.forms value over true (Row form num den strict))

-- one of the literals is true
abbrev pub HasTrue : (ℕ → Bool) → List Lit → Type 0
HasTrue truth [] = ⊥
HasTrue truth (l ∷ ls) = (truth l.atom ≡ l.positive) ⊎ HasTrue truth ls

-- each clause has a true literal
abbrev pub Satisfies : (ℕ → Bool) → List (List Lit) → Type 0
Satisfies truth [] = Unit {0}
Satisfies truth (clause ∷ more) = HasTrue truth clause × Satisfies truth more

-- values of the columns over one denominator, and a truth for each atom
pub record IsModel (c : Clauses) (value : ℕ → ℤ) (over : ℕ) (truth : ℕ → Bool) : Type 0 where
  pub rows : RowsAgree c value over truth
  pub clauses : Satisfies truth c.clauses
