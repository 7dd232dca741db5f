-- The clauses that a cursor has passed: each has a true literal.
use Rattle.std.specs.Prelude.{◌≡◌, ℕ, List, [], ◌∷◌, ◌++◌, length, take, get_or, Some, slice_get}
use Rattle.farkas_cert.specs.declared.literals.Lit.{Lit}
use Rattle.clause_search.specs.declared.cursor.Cursor.{Cursor}
use Rattle.clause_search.specs.Standings.{AreTrueBelow}

-- the clauses before the cursor have a true literal; and for each length of the trail, those before its mark had one there
pub record IsMarked (known : List (List Lit)) (lits : List Lit) (cursor : Cursor) : Type 0 where
  pub here : AreTrueBelow known lits cursor.next
  pub count : length cursor.marks.items ≡ length lits
  pub before : (k mark : ℕ) → slice_get cursor.marks.items k ≡ Some mark → AreTrueBelow known (take k lits) mark

-- it was marked at the end of the trail
pub record Marks (old new : Cursor) : Type 0 where
  pub next : new.next ≡ old.next
  pub marks : new.marks.items ≡ old.marks.items ++ old.next ∷ []

-- it stands at the mark of this length, if there is one
pub record SetsBack (old : Cursor) (keep : ℕ) (new : Cursor) : Type 0 where
  pub next : new.next ≡ get_or old.marks.items keep old.next
  pub marks : new.marks.items ≡ take keep old.marks.items
