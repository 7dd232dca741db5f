-- Journals of a search over a theory's states: which moves may be made, where they lead, and what a journal reaches.
use Rattle.std.specs.Prelude.{◌≡◌, ℕ, ◌<◌, Bool, true, false, ◌⊎◌, List, [], ◌∷◌, ◌++◌, map, take, length, Option, None, Some, slice_get}
use Rattle.whole.specs.declared.answers.Stuck.{Stuck}
use Rattle.farkas_cert.specs.Literals.{negation}
use Rattle.farkas_cert.specs.Trees.{Tree}
use Rattle.farkas_cert.specs.declared.journals.Move.{Move}
use Rattle.farkas_cert.specs.declared.journals.Move.TheVariants.{Decide, Propagate, Pivot, Conflict}
use Rattle.farkas_cert.specs.declared.literals.Lit.{Lit}
use Rattle.clause_form.specs.declared.clauses.Clauses.{Clauses}
use Rattle.clause_form.specs.Derivations.{Closes, Has, HasAtom, IsFalseOn, NamesOnce, rows_of}
use Rattle.clause_form.specs.Theories.{Relations}

-- a literal of the trail, and the clause that it follows from where it wasn't decided
pub record Entry : Type 0 where
  pub lit : Lit
  pub by : Option ℕ

abbrev pub literals : List Entry → List Lit
literals trail = map (λ e. e.lit) trail

-- the kind of the last move
pub data Last : Type 0 where
  nothing : Last
  literal : Last
  exchange : Last
  cut : Last

-- what a journal reaches
pub record Reached (S : Type 0) : Type 0 where
  pub trail : List Entry
  pub lemmas : List (List Lit)
  pub state : S
  pub last : Last

abbrev pub opened : {S : Type 0} → S → Reached S
opened s = record { trail = []; lemmas = []; state = s; last = nothing }

-- the problem's clauses, and then the lemmas
abbrev pub known_at : {S : Type 0} → Clauses → Reached S → List (List Lit)
known_at c p = c.clauses ++ p.lemmas

-- ---- what a move needs

-- the atom is in range and off the trail
abbrev pub IsFree : ℕ → List Lit → Lit → Type 0
IsFree atoms lits l = (l.atom < atoms) × (HasAtom l.atom lits → ⊥)

-- each literal of the clause other than l is false
abbrev pub OthersFalse : List Lit → Lit → List Lit → Type 0
OthersFalse lits l [] = Unit {0}
OthersFalse lits l (m ∷ ms) = ((m ≡ l) ⊎ Has (negation m) lits) × OthersFalse lits l ms

-- the clause with this number has l, and its other literals are false
abbrev pub IsReason : List (List Lit) → List Lit → Lit → ℕ → Type 0
IsReason known lits l n = (clause : List Lit) × (slice_get known n ≡ Some clause) × Has l clause × OthersFalse lits l clause

-- the two are one set of literals
abbrev pub AreAmong : List Lit → List Lit → Type 0
AreAmong [] ms = Unit {0}
AreAmong (l ∷ ls) ms = Has l ms × AreAmong ls ms

abbrev pub DiffersFromEach : List Lit → List (List Lit) → Type 0
DiffersFromEach clause [] = Unit {0}
DiffersFromEach clause (lemma ∷ lemmas) = (AreAmong clause lemma × AreAmong lemma clause → ⊥) × DiffersFromEach clause lemmas

-- a clause that is false on the trail, new, and follows from what is known; the trail is cut
pub record IsLearned {S : Type 0} (c : Clauses) (p : Reached S) (clause : List Lit) (keep : ℕ) : Type 0 where
  pub false_here : IsFalseOn (literals p.trail) clause
  pub once : NamesOnce (length c.atoms) clause
  pub differs : DiffersFromEach clause p.lemmas
  pub follows : (tree : Tree) × Closes (rows_of c) (known_at c p) tree (map negation clause)
  pub cuts : keep < length p.trail

-- not all literals of the clause are false, nor all but one whose atom is off the trail
pub record IsOpenClause (lits clause : List Lit) : Type 0 where
  pub not_false : IsFalseOn lits clause → ⊥
  pub not_unit : (l : Lit) → Has l clause → (HasAtom l.atom lits → ⊥) → OthersFalse lits l clause → ⊥

-- no known clause is false or gives a literal
abbrev pub IsSettled : List (List Lit) → List Lit → Type 0
IsSettled [] lits = Unit {0}
IsSettled (clause ∷ known) lits = IsOpenClause lits clause × IsSettled known lits

module _ {S : Type 0} (R : Relations S) (c : Clauses) where
  abbrev pub IsAllowed : Reached S → Move → Type 0
  IsAllowed p (Decide l) = IsFree (length c.atoms) (literals p.trail) l
  IsAllowed p (Propagate l n) = IsFree (length c.atoms) (literals p.trail) l × IsReason (known_at c p) (literals p.trail) l n
  IsAllowed p (Pivot b o) = R.allowed_pivot p.state b o
  IsAllowed p (Conflict clause keep) = IsLearned c p clause keep

  -- after a literal whose bound contradicts, only a conflict follows; a decision stands where nothing is violated and all is
  -- propagated; a row of pivots follows a literal
  abbrev pub IsOrderly : Reached S → Move → Type 0
  IsOrderly p (Decide l) = (p.last ≡ literal → R.contradicts p.state → ⊥) × (R.violated p.state → ⊥) × IsSettled (known_at c p) (literals p.trail)
  IsOrderly p (Propagate l n) = p.last ≡ literal → R.contradicts p.state → ⊥
  IsOrderly p (Pivot b o) = (p.last ≡ literal → R.contradicts p.state → ⊥) × ((p.last ≡ literal) ⊎ (p.last ≡ exchange))
  IsOrderly p (Conflict clause keep) = Unit {0}

  abbrev pub MayMove : Reached S → Move → Type 0
  MayMove p m = IsAllowed p m × IsOrderly p m

  -- where a move leads
  abbrev pub Leads : Reached S → Move → Reached S → Type 0
  Leads p (Decide l) q =
      (q.trail ≡ p.trail ++ record { lit = l; by = None } ∷ []) × (q.lemmas ≡ p.lemmas) × R.after_literal p.state l q.state × (q.last ≡ literal)
  Leads p (Propagate l n) q =
      (q.trail ≡ p.trail ++ record { lit = l; by = Some n } ∷ []) × (q.lemmas ≡ p.lemmas) × R.after_literal p.state l q.state × (q.last ≡ literal)
  Leads p (Pivot b o) q = (q.trail ≡ p.trail) × (q.lemmas ≡ p.lemmas) × R.after_pivot p.state b o q.state × (q.last ≡ exchange)
  Leads p (Conflict clause keep) q =
      (q.trail ≡ take keep p.trail) × (q.lemmas ≡ p.lemmas ++ clause ∷ []) × R.after_undo p.state keep q.state × (q.last ≡ cut)

  -- the moves may be made one after the other, and lead from one place to the other
  abbrev pub Moves : Reached S → List Move → Reached S → Type 0
  Moves p [] q = p ≡ q
  Moves p (m ∷ ms) q = MayMove p m × ((r : Reached S) × Leads p m r × Moves r ms q)

  abbrev pub Reaches : List Move → Reached S → Type 0
  Reaches ms q = (s : S) × R.opening s × Moves (opened s) ms q

  -- decisions, propagations and pivots are charged
  abbrev pub is_charged : Move → Bool
  is_charged (Decide l) = true
  is_charged (Propagate l n) = true
  is_charged (Pivot b o) = true
  is_charged (Conflict clause keep) = false

  -- some further charged move may be made
  abbrev pub IsOpen : List Move → Type 0
  IsOpen ms = (p : Reached S) × (m : Move) × Reaches ms p × (is_charged m ≡ true) × MayMove p m

  abbrev pub SticksIn : S → Move → Stuck → Type 0
  SticksIn s (Decide l) k = R.stuck_in_literal s l k
  SticksIn s (Propagate l n) k = R.stuck_in_literal s l k
  SticksIn s (Pivot b o) k = R.stuck_in_pivot s b o k
  SticksIn s (Conflict clause keep) k = ⊥

  -- an operation overflows at the place reached, or while the last move is carried out
  abbrev pub Sticks : List Move → Stuck → Type 0
  Sticks ms k =
      ((p : Reached S) × Reaches ms p × R.stuck_at p.state k)
      ⊎ ((front : List Move) × (m : Move) × (p : Reached S) × (ms ≡ front ++ m ∷ []) × Reaches front p × MayMove p m × SticksIn p.state m k)
