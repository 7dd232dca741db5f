-- When the truth of an atom is right at values of the columns.
use Rattle.std.specs.Prelude.{ℕ, ℤ, Bool, true, ◌↔◌, IsTrue}
use Rattle.clause_form.specs.Models.{RowHolds}
use Rattle.clause_form.specs.declared.clauses.Atom.{Atom}
use Rattle.clause_form.specs.declared.clauses.Atom.TheVariants.{Row, Named}
use Rattle.clause_form.specs.declared.clauses.Clauses.{Clauses}

-- an atom of a row is true exactly where its row holds, and nothing is asked of a name
abbrev pub Agrees : Clauses → (ℕ → ℤ) → ℕ → Atom → Bool → Type 0
Agrees c value over (Row form num den strict) truth = IsTrue truth ↔ RowHolds c.columns c.forms value over true (Row form num den strict)
Agrees c value over Named truth = Unit {0}
