-- Which clauses an agenda has yet to look at: each other one is neither false nor unit.
use Rattle.std.specs.Prelude.{◌≡◌, ℕ, ◌+◌, ◌*◌, ◌⊎◌, ◌<◌, List, [], ◌∷◌, ◌++◌, length, Contains, get_or, Some, slice_get, if◌then◌else◌}
use Rattle.std.specs.BinaryHeap.{heap_items}
use Rattle.farkas_cert.specs.Literals.{negation}
use Rattle.farkas_cert.specs.declared.literals.Lit.{Lit}
use Rattle.clause_form.specs.Derivations.{Has, HasAtom, IsFalseOn}
use Rattle.clause_form.specs.Journals.{IsOpenClause, OthersFalse}
use Rattle.clause_search.specs.declared.agenda.Agenda.{Agenda}
use Rattle.clause_search.specs.declared.agenda.Waiting.{Waiting}

-- ---- clauses by literal

-- the place of a literal's list
abbrev pub place_of : Lit → ℕ
place_of l = if l.positive then 2 * l.atom + 1 else 2 * l.atom

abbrev pub list_of : List (List ℕ) → Lit → List ℕ
list_of lists l = get_or lists (place_of l) []

-- the lists have lost no number
pub record HasGrown (old new : List (List ℕ)) : Type 0 where
  pub count : length new ≡ length old
  pub kept : (place n : ℕ) → Contains (get_or old place []) n → Contains (get_or new place []) n

-- the clause with this number is listed with each of its literals that has a list
abbrev pub IsListed : List (List ℕ) → ℕ → List Lit → Type 0
IsListed lists n clause = (l : Lit) → Has l clause → place_of l < length lists → Contains (list_of lists l) n

-- there is a list for each literal of so many atoms, and each clause is listed
pub record IsIndexed (atoms : ℕ) (known : List (List Lit)) (lists : List (List ℕ)) : Type 0 where
  pub count : length lists ≡ 2 * atoms
  pub listed : (n : ℕ) (clause : List Lit) → slice_get known n ≡ Some clause → IsListed lists n clause

-- ---- what is yet to be looked at

-- the clause with this number waits
abbrev pub Waits : List Waiting → ℕ → Type 0
Waits units n = (w : Waiting) × Contains units w × (w.by ≡ n)

-- it is looked at next, or it is neither false nor unit, or it waits and isn't false
abbrev pub IsCovered : List Lit → List ℕ → List Waiting → ℕ → List Lit → Type 0
IsCovered lits fresh units n clause = Contains fresh n ⊎ (IsOpenClause lits clause ⊎ (Waits units n × (IsFalseOn lits clause → ⊥)))

-- so is each clause that is known
abbrev pub Covers : List (List Lit) → List Lit → List ℕ → List Waiting → Type 0
Covers known lits fresh units = (n : ℕ) (clause : List Lit) → slice_get known n ≡ Some clause → IsCovered lits fresh units n clause

-- the clause with this number gives no literal
abbrev pub GivesNone : List (List Lit) → List Lit → ℕ → Type 0
GivesNone known lits n =
    (clause : List Lit) → slice_get known n ≡ Some clause → (l : Lit) → Has l clause → (HasAtom l.atom lits → ⊥) → OthersFalse lits l clause → ⊥

-- ---- what the parts of an agenda are after it changed

-- a clause was listed and is looked at next
pub record Enters (old : Agenda) (n : ℕ) (clause : List Lit) (new : Agenda) : Type 0 where
  pub grown : HasGrown old.occurrences.lists.items new.occurrences.lists.items
  pub listed : IsListed new.occurrences.lists.items n clause
  pub fresh : new.fresh.items ≡ old.fresh.items ++ n ∷ []
  pub units : heap_items new.units ≡ heap_items old.units

-- a clause was listed and is all that is looked at next
pub record Learns (old : Agenda) (n : ℕ) (clause : List Lit) (new : Agenda) : Type 0 where
  pub grown : HasGrown old.occurrences.lists.items new.occurrences.lists.items
  pub listed : IsListed new.occurrences.lists.items n clause
  pub fresh : new.fresh.items ≡ n ∷ []
  pub units : heap_items new.units ≡ []

-- the clauses with the literal's negation are looked at next, too
pub record Rouses (old : Agenda) (l : Lit) (new : Agenda) : Type 0 where
  pub occurrences : new.occurrences ≡ old.occurrences
  pub fresh : new.fresh.items ≡ old.fresh.items ++ list_of old.occurrences.lists.items (negation l)
  pub units : heap_items new.units ≡ heap_items old.units
