-- The types of what is numbered, which the builder keeps to itself, by the steps that take them.
use Rattle.clause_form.specs.Building.{atom_numbered, named, row_literal}

abbrev second : {A B C : Type 0} → (A → B → C) → Type 0
second {A} {B} step = B

abbrev pub RowLit : Type 0
RowLit = second row_literal

abbrev pub Key : Type 0
Key = second atom_numbered

abbrev pub Connective : Type 0
Connective = second named
