-- Trails as lists of entries, and what each entry stands on.
use Rattle.std.specs.Prelude.{◌≡◌, ℕ, ◌<◌, ◌^◌, List, ◌++◌, map, take, length, Option, None, Some, slice_get}
use Rattle.farkas_cert.specs.declared.certificates.Lemma.{Lemma}
use Rattle.farkas_cert.specs.declared.literals.Lit.{Lit}
use Rattle.clause_form.specs.Journals.{Entry, IsFree, IsReason, literals}
use Rattle.learned_clause.specs.declared.trails.Assigned.{Assigned}

abbrev pub entry : Assigned → Entry
entry a = record { lit = a.lit; by = a.by }

abbrev pub entries : List Assigned → List Entry
entries trail = map entry trail

-- the problem's clauses, and then those of the lemmas
abbrev pub known_with : List (List Lit) → List Lemma → List (List Lit)
known_with clauses lemmas = clauses ++ map (λ lemma. lemma.clause) lemmas

-- a literal that wasn't decided follows from its clause
abbrev pub IsFounded : List (List Lit) → List Lit → Lit → Option ℕ → Type 0
IsFounded known front l None = Unit {0}
IsFounded known front l (Some n) = IsReason known front l n

-- an entry over the literals before it: its atom is in range and new
pub record Stands (atoms : ℕ) (known : List (List Lit)) (front : List Lit) (e : Entry) : Type 0 where
  pub free : IsFree atoms front e.lit
  pub founded : IsFounded known front e.lit e.by

-- each entry stands over those before it, and their numbers fit 32 bits
pub record IsTrail (atoms : ℕ) (known : List (List Lit)) (trail : List Entry) : Type 0 where
  pub few : length trail < 2 ^ 32
  pub stands : (k : ℕ) (e : Entry) → slice_get trail k ≡ Some e → Stands atoms known (literals (take k trail)) e

-- a decision stands at this place
abbrev pub DecidedAt : List Entry → ℕ → Type 0
DecidedAt trail k = (l : Lit) × (slice_get trail k ≡ Some (record { lit = l; by = None }))
