-- Journals whose conflicts learn: each adds the learned clause of what is false, cuts the trail by it, and the lemma gives the next literal.
use Rattle.std.specs.Prelude.{◌≡◌, ℕ, ◌+◌, ◌<◌, true, ◌⊎◌, List, [], ◌∷◌, ◌++◌, map, length, Some, slice_get}
use Rattle.whole.specs.declared.answers.Stuck.{Stuck}
use Rattle.farkas_cert.specs.Literals.{negation}
use Rattle.farkas_cert.specs.declared.journals.Move.{Move}
use Rattle.farkas_cert.specs.declared.journals.Move.TheVariants.{Decide, Propagate, Pivot, Conflict}
use Rattle.farkas_cert.specs.declared.literals.Lit.{Lit}
use Rattle.clause_form.specs.declared.clauses.Clauses.{Clauses}
use Rattle.clause_form.specs.Derivations.{IsFalseOn}
use Rattle.clause_form.specs.Journals.{Leads, MayMove, Reached, SticksIn, cut, is_charged, known_at, literals, opened}
use Rattle.clause_form.specs.Theories.{Relations}
use Rattle.learned_clause.specs.Resolutions.{IsImplicationPoint}
use Rattle.learned_clause.specs.Trails.{DecidedAt}

module _ {S : Type 0} (R : Relations S) (c : Clauses) where
  -- what is false at a place: a clause that is known, or the negations of the literals of a clash of the theory
  abbrev pub IsStartAt : Reached S → List Lit → Type 0
  IsStartAt p start =
      ((n : ℕ) × (slice_get (known_at c p) n ≡ Some start) × IsFalseOn (literals p.trail) start)
      ⊎ ((clash : List Lit) × R.clash p.state clash × (start ≡ map negation clash))

  -- the clause is the first unique implication point of a start at the last decision, and the cut the least that keeps its others
  pub record IsLesson (p : Reached S) (clause : List Lit) (keep : ℕ) : Type 0 where
    pub start : List Lit
    pub false_start : IsStartAt p start
    pub level : ℕ
    pub decided : DecidedAt p.trail level
    pub last : (k : ℕ) → level < k → DecidedAt p.trail k → ⊥
    pub point : IsImplicationPoint (known_at c p) p.trail level start clause keep

  abbrev pub Teaches : Reached S → Move → Type 0
  Teaches p (Decide l) = Unit {0}
  Teaches p (Propagate l n) = Unit {0}
  Teaches p (Pivot b o) = Unit {0}
  Teaches p (Conflict clause keep) = IsLesson p clause keep

  -- straight after a conflict a literal is propagated by the lemma, which is the last clause that is known; it is the late one, since
  -- no other literal of the lemma is off the trail
  abbrev pub Heeds : Reached S → Move → Type 0
  Heeds p m = p.last ≡ cut → (l : Lit) × (n : ℕ) × (m ≡ Propagate l n) × (n + 1 ≡ length (known_at c p))

  -- the move may be made, and a conflict learns
  pub record MayLearn (p : Reached S) (m : Move) : Type 0 where
    pub may : MayMove R c p m
    pub teaches : Teaches p m
    pub heeds : Heeds p m

  -- such moves lead from one place to the other
  abbrev pub Learns : Reached S → List Move → Reached S → Type 0
  Learns p [] q = p ≡ q
  Learns p (m ∷ ms) q = MayLearn p m × ((r : Reached S) × Leads R c p m r × Learns r ms q)

  abbrev pub ReachesLearning : List Move → Reached S → Type 0
  ReachesLearning ms q = (s : S) × R.opening s × Learns (opened s) ms q

  -- a further charged move may be made
  abbrev pub IsOpenLearning : List Move → Type 0
  IsOpenLearning ms = (p : Reached S) × (m : Move) × ReachesLearning ms p × (is_charged R c m ≡ true) × MayLearn p m

  -- an operation overflows at the place reached, or while the last move is carried out
  abbrev pub SticksLearning : List Move → Stuck → Type 0
  SticksLearning ms k =
      ((p : Reached S) × ReachesLearning ms p × R.stuck_at p.state k)
      ⊎ ((front : List Move) × (m : Move) × (p : Reached S) × (ms ≡ front ++ m ∷ []) × ReachesLearning front p × MayLearn p m
      × SticksIn R c p.state m k)
