-- How a clause stands to the literals of a trail, and what a search wants of the clauses.
use Rattle.std.specs.Prelude.{◌≡◌, ℕ, ◌<◌, ◌≤◌, List, ◌∷◌, ◌++◌, length, Option, None, Some, slice_get}
use Rattle.farkas_cert.specs.declared.literals.Lit.{Lit}
use Rattle.clause_form.specs.Derivations.{Has, HasAtom, IsFalseOn}
use Rattle.clause_form.specs.Journals.{IsReason, OthersFalse}
use Rattle.clause_search.specs.declared.standing.Standing.{Standing}
use Rattle.clause_search.specs.declared.standing.Standing.TheVariants.{Satisfied, Open, Unit as Single, False}

-- a literal of another kind than l, whose atom is off the trail
pub record HasOther (lits : List Lit) (l : Lit) (clause : List Lit) : Type 0 where
  pub other : Lit
  pub has : Has other clause
  pub off : HasAtom other.atom lits → ⊥
  pub differs : other ≡ l → ⊥

-- l is the first literal of the clause whose atom is off the trail, and those before it are false
pub record IsFirstFree (lits : List Lit) (l : Lit) (clause : List Lit) : Type 0 where
  pub front : List Lit
  pub back : List Lit
  pub is : clause ≡ front ++ l ∷ back
  pub false_front : IsFalseOn lits front
  pub off : HasAtom l.atom lits → ⊥

abbrev pub HasNoTrue : List Lit → List Lit → Type 0
HasNoTrue lits clause = (l : Lit) → Has l clause → Has l lits → ⊥

-- some literal is true; or none is, and several are off the trail, or one, or none
abbrev pub StandsAs : List Lit → List Lit → Standing → Type 0
StandsAs lits clause Satisfied = (l : Lit) × Has l clause × Has l lits
StandsAs lits clause (Open l) = IsFirstFree lits l clause × HasOther lits l clause × HasNoTrue lits clause
StandsAs lits clause (Single l) = Has l clause × (HasAtom l.atom lits → ⊥) × OthersFalse lits l clause
StandsAs lits clause False = IsFalseOn lits clause

-- so stands the clause with this number
pub record StandsAt (known : List (List Lit)) (lits : List Lit) (n : ℕ) (standing : Standing) : Type 0 where
  pub clause : List Lit
  pub is : slice_get known n ≡ Some clause
  pub stands : StandsAs lits clause standing

-- there is one
abbrev pub IfStandsAt : List (List Lit) → List Lit → ℕ → Option Standing → Type 0
IfStandsAt known lits n None = length known ≤ n
IfStandsAt known lits n (Some standing) = StandsAt known lits n standing

-- each clause before this number has a true literal
abbrev pub AreTrueBelow : List (List Lit) → List Lit → ℕ → Type 0
AreTrueBelow known lits n = (k : ℕ) → k < n → StandsAt known lits k Satisfied

-- the first literal off the trail of the first clause without a true literal
pub record IsWanted (known : List (List Lit)) (lits : List Lit) (l : Lit) : Type 0 where
  pub number : ℕ
  pub clause : List Lit
  pub is : slice_get known number ≡ Some clause
  pub first : IsFirstFree lits l clause
  pub untrue : HasNoTrue lits clause
  pub before : AreTrueBelow known lits number

-- there is none only where each clause has a true literal
abbrev pub IfWanted : List (List Lit) → List Lit → Option Lit → Type 0
IfWanted known lits None = AreTrueBelow known lits (length known)
IfWanted known lits (Some l) = IsWanted known lits l

-- the clause with this number is false
pub record IsFalseAt (known : List (List Lit)) (lits : List Lit) (n : ℕ) : Type 0 where
  pub clause : List Lit
  pub is : slice_get known n ≡ Some clause
  pub false_here : IsFalseOn lits clause

-- the literal follows from the clause with this number
pub record Follows (known : List (List Lit)) (lits : List Lit) (l : Lit) (n : ℕ) : Type 0 where
  pub off : HasAtom l.atom lits → ⊥
  pub reason : IsReason known lits l n
