-- A trail as contracts see it, and what its literals say of an atom or a literal.
use Rattle.std.specs.Prelude.{ℕ, ◌<◌, Bool, true, false, List, length, Option, None, Some, slice_index_or}
use Rattle.farkas_cert.specs.Literals.{negation}
use Rattle.farkas_cert.specs.declared.literals.Lit.{Lit}
use Rattle.clause_form.specs.Derivations.{Has, HasAtom, NamesOnce}
use Rattle.clause_form.specs.Journals.{Entry}

-- the entries, the latest last, over this many atoms
pub record View : Type 0 where
  pub atoms : ℕ
  pub entries : List Entry

-- the literals name each of this many atoms
abbrev pub NameAll : ℕ → List Lit → Type 0
NameAll atoms lits = (atom : ℕ) → atom < atoms → HasAtom atom lits

-- the truth that the literals give an atom, if they name it
abbrev pub Says : List Lit → ℕ → Option Bool → Type 0
Says lits atom None = HasAtom atom lits → ⊥
Says lits atom (Some truth) = Has (record { atom = atom; positive = truth }) lits

-- whether the literals make a literal true or false, if they name its atom
abbrev pub Gives : List Lit → Lit → Option Bool → Type 0
Gives lits l None = HasAtom l.atom lits → ⊥
Gives lits l (Some true) = Has l lits
Gives lits l (Some false) = Has (negation l) lits

-- the table has the truth that the literals give each atom, and they name none twice
pub record Shows (lits : List Lit) (truths : List (Option Bool)) : Type 0 where
  pub once : NamesOnce (length truths) lits
  pub truth : (atom : ℕ) → Says lits atom (slice_index_or truths atom None)

abbrev pub is_true_at : Option Bool → Bool
is_true_at None = false
is_true_at (Some truth) = truth
