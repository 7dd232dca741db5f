-- Clauses over named atoms, and a theory that grants all literals.
use Rattle.std.specs.Prelude.{◌≡◌, ℕ, Bool, false, List, [], ◌∷◌, replicate, if◌then◌else◌}
use Rattle.farkas_cert.specs.declared.literals.Lit.{Lit}
use Rattle.clause_form.specs.declared.clauses.Atom.TheVariants.{Named}
use Rattle.clause_form.specs.declared.clauses.Clauses.{Clauses}
use Rattle.clause_form.specs.Derivations.{Rows, rows_of}
use Rattle.clause_form.specs.Theories.{Relations, TheoryView, without_memory, works}
use Rattle.clause_form.specs.WellFormed.{Below, IsWellFormed}

-- this many named atoms
abbrev pub named_rows : ℕ → Rows
named_rows n = record { columns = 0; forms = []; atoms = replicate n Named }

abbrev pub AreBelow : ℕ → List (List Lit) → Type 0
AreBelow n [] = Unit {0}
AreBelow n (c ∷ cs) = Below n c × AreBelow n cs

pub record IsNamed (n : ℕ) (c : Clauses) : Type 0 where
  pub formed : IsWellFormed c
  pub rows : rows_of c ≡ named_rows n

-- ---- a theory with one state, in which nothing contradicts and no pivot is allowed

abbrev pub names : Relations (Unit {0})
names = record {
  opening = λ s. Unit {0};
  after_literal = λ s l t. Unit {0};
  after_pivot = λ s b o t. Unit {0};
  after_undo = λ s mark t. Unit {0};
  allowed_pivot = λ s b o. ⊥;
  clash = λ s lits. ⊥;
  stuck_in_literal = λ s l k. ⊥;
  stuck_in_pivot = λ s b o k. ⊥;
  stuck_at = λ s k. ⊥;
  contradicts = λ s. ⊥;
  violated = λ s. ⊥;
}

abbrev pub seen_names : ℕ → List Lit → Bool → Bool → TheoryView (Unit {0})
seen_names n told fine working =
    record { rows = named_rows n; told = told; state = tt; fine = fine; owes = false; rest = if working then works else without_memory }

pub calm_names : (s : Unit {0}) → Unit {0} → (⊥ → ⊥) × (⊥ → ⊥)
calm_names s opens = (λ h. h, λ h. h)

pub mend_names : (s : Unit {0}) (b o : ℕ) → ⊥ → ⊥
mend_names s b o h = h
