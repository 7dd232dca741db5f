-- A conflict of three atoms, at which the implication point comes after the decision, and a clash of two rows.
use Rattle.std.specs.Prelude.{◌≡◌, ℕ, pos, true, false, List, [], ◌∷◌, Option, None, Some}
use Rattle.farkas_cert.specs.declared.literals.Lit.{Lit}
use Rattle.farkas_cert.specs.declared.trees.Part.{Part}
use Rattle.clause_form.specs.declared.clauses.Atom.TheVariants.{Row}
use Rattle.clause_form.specs.declared.clauses.Clauses.{Clauses}
use Rattle.learned_clause.specs.declared.trails.Assigned.{Assigned}

abbrev pub yes_lit : ℕ → Lit
yes_lit atom = record { atom = atom; positive = true }

abbrev pub no_lit : ℕ → Lit
no_lit atom = record { atom = atom; positive = false }

-- 0 gives 1, 1 gives 2, and 1 and 2 exclude each other; the last clause gives 0
abbrev pub four_clauses : List (List Lit)
four_clauses =
    (no_lit 0 ∷ yes_lit 1 ∷ []) ∷ (no_lit 1 ∷ yes_lit 2 ∷ []) ∷ (no_lit 1 ∷ no_lit 2 ∷ []) ∷ (yes_lit 0 ∷ []) ∷ []

-- 0 is decided, or follows from this clause
abbrev pub three_assigned : Option ℕ → List Assigned
three_assigned by =
    record { lit = yes_lit 0; by = by } ∷ record { lit = yes_lit 1; by = Some 0 } ∷ record { lit = yes_lit 2; by = Some 1 } ∷ []

abbrev pub IsGiven : Option ℕ → Type 0
IsGiven None = Unit {0}
IsGiven (Some number) = number ≡ 3

-- over one column x: atom 0 is `x <= 0`, atom 1 is `x <= 1`
abbrev pub two_rows : Clauses
two_rows = record { columns = 1; forms = []; atoms = Row 0 (pos 0) (pos 1) false ∷ Row 0 (pos 1) (pos 1) false ∷ []; clauses = [] }

-- both are decided
abbrev pub two_assigned : List Assigned
two_assigned = record { lit = yes_lit 0; by = None } ∷ record { lit = no_lit 1; by = None } ∷ []

abbrev pub two_parts : List Part
two_parts = record { lit = yes_lit 0; mult = pos 1 } ∷ record { lit = no_lit 1; mult = pos 1 } ∷ []
