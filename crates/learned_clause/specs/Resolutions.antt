-- The learned clause: a false clause resolved backwards along the trail, down to its first unique implication point.
use Rattle.std.specs.Prelude.{◌≡◌, ◌↔◌, ℕ, ◌+◌, ◌<◌, ◌≤◌, ◌⊎◌, List, [], ◌∷◌, map, take, Some, slice_get}
use Rattle.farkas_cert.specs.Literals.{negation}
use Rattle.farkas_cert.specs.declared.literals.Lit.{Lit}
use Rattle.clause_form.specs.Derivations.{Has, HasAtom}
use Rattle.clause_form.specs.Journals.{Entry, literals}
use Rattle.learned_clause.specs.declared.learning.Start.{Start}
use Rattle.learned_clause.specs.declared.learning.Start.TheVariants.{Clause, Clash}
use Rattle.learned_clause.specs.Trails.{DecidedAt}

-- ---- places

-- the atom stands at this place of the trail
abbrev pub AtomAt : List Entry → ℕ → ℕ → Type 0
AtomAt trail k atom = (e : Entry) × (slice_get trail k ≡ Some e) × (e.lit.atom ≡ atom)

-- the atom of one of the clause's literals stands at this place
abbrev pub LiteralAt : List Entry → List Lit → ℕ → Type 0
LiteralAt trail clause k = (l : Lit) × Has l clause × AtomAt trail k l.atom

-- no literal of the clause stands at or after this place
abbrev pub NoneFrom : List Entry → List Lit → ℕ → Type 0
NoneFrom trail clause from = (k : ℕ) → from ≤ k → LiteralAt trail clause k → ⊥

-- the clause's level is the last decision at or after which one of its literals stands
pub record IsLevelOf (trail : List Entry) (clause : List Lit) (level : ℕ) : Type 0 where
  pub decided : DecidedAt trail level
  pub reached : (k : ℕ) × (level ≤ k) × LiteralAt trail clause k
  pub last : (later : ℕ) → level < later → DecidedAt trail later → NoneFrom trail clause later

-- no literal of the clause stands at or after a decision
abbrev pub HasNoLevel : List Entry → List Lit → Type 0
HasNoLevel trail clause = (level : ℕ) → DecidedAt trail level → NoneFrom trail clause level

-- ---- resolution

-- the two clauses have the same literals
abbrev pub HaveSame : List Lit → List Lit → Type 0
HaveSame clause other = (m : Lit) → Has m clause ↔ Has m other

-- the resolvent of a clause that has the literal's negation, and of the literal's reason: all other literals of both
abbrev pub IsResolvent : Lit → List Lit → List Lit → List Lit → Type 0
IsResolvent l clause reason next = (m : Lit) → Has m next ↔ ((Has m clause × (m ≡ negation l → ⊥)) ⊎ (Has m reason × (m ≡ l → ⊥)))

-- of two or more literals at or after the level, the one that stands last is replaced by the others of the clause that it follows from
pub record Resolves (known : List (List Lit)) (trail : List Entry) (level : ℕ) (clause next : List Lit) : Type 0 where
  pub place : ℕ
  pub entry : Entry
  pub number : ℕ
  pub reason : List Lit
  pub stands : slice_get trail place ≡ Some entry
  pub has : Has (negation entry.lit) clause
  pub last : NoneFrom trail clause (place + 1)
  pub another : (k : ℕ) × (level ≤ k) × (k < place) × LiteralAt trail clause k
  pub follows : entry.by ≡ Some number
  pub is : slice_get known number ≡ Some reason
  pub resolvent : IsResolvent entry.lit clause reason next

-- each clause is resolved to the next one, and the last to the end
abbrev pub Resolve : List (List Lit) → List Entry → ℕ → List Lit → List (List Lit) → List Lit → Type 0
Resolve known trail level clause [] end = HaveSame clause end
Resolve known trail level clause (next ∷ more) end = Resolves known trail level clause next × Resolve known trail level next more end

-- ---- the first unique implication point

-- just one literal of the clause stands at or after the level
pub record HasOneFrom (trail : List Entry) (level : ℕ) (clause : List Lit) (late : Lit) : Type 0 where
  pub has : Has late clause
  pub stands : (k : ℕ) × (level ≤ k) × AtomAt trail k late.atom
  pub only : (l : Lit) (k : ℕ) → Has l clause → level ≤ k → AtomAt trail k l.atom → l ≡ late

-- cut to this length, the trail ends before a decision and still has the atoms of all literals but the late one
pub record KeepsOthers (trail : List Entry) (clause : List Lit) (late : Lit) (keep : ℕ) : Type 0 where
  pub decided : DecidedAt trail keep
  pub others : (l : Lit) → Has l clause → (l ≡ late → ⊥) → HasAtom l.atom (literals (take keep trail))

-- the start is resolved until one literal stands at or after the level; the cut is the least that keeps the others
pub record IsImplicationPoint (known : List (List Lit)) (trail : List Entry) (level : ℕ) (start clause : List Lit) (keep : ℕ) : Type 0 where
  pub between : List (List Lit)
  pub resolved : Resolve known trail level start between clause
  pub late : Lit
  pub one : HasOneFrom trail level clause late
  pub keeps : KeepsOthers trail clause late keep
  pub least : (k : ℕ) → k < keep → KeepsOthers trail clause late k → ⊥

-- the learned clause of these literals; without a decision all are resolved away
abbrev pub IsLearnedClause : List (List Lit) → List Entry → List Lit → List Lit → ℕ → Type 0
IsLearnedClause known trail start clause keep =
    (HasNoLevel trail start × (clause ≡ []))
    ⊎ ((level : ℕ) × IsLevelOf trail start level × IsImplicationPoint known trail level start clause keep)

-- the literals that are false at a start: those of the clause, or the negations of those of the rows
abbrev pub AreFalseAt : List (List Lit) → Start → List Lit → Type 0
AreFalseAt known (Clause n) lits = slice_get known n ≡ Some lits
AreFalseAt known (Clash parts) lits = lits ≡ map negation (map (λ p. p.lit) parts)

abbrev pub IsLearnedBy : List (List Lit) → List Entry → Start → List Lit → ℕ → Type 0
IsLearnedBy known trail start clause keep = (lits : List Lit) × AreFalseAt known start lits × IsLearnedClause known trail lits clause keep
