-- What holds of a search at each step: its moves are legal and lead to its trail, lemmas and theory.
use Rattle.std.specs.Prelude.{◌≡◌, ℕ, ◌+◌, ◌-◌, ◌*◌, ◌≤◌, ◌<◌, ◌^◌, true, false, ◌⊎◌, List, [], ◌∷◌, ◌++◌, map, take, length, Option, None, Some}
use Rattle.whole.specs.Budget.{Counts, spent}
use Rattle.farkas_cert.specs.Trees.{derived}
use Rattle.farkas_cert.specs.declared.certificates.Lemma.{Lemma}
use Rattle.farkas_cert.specs.declared.journals.Move.{Move}
use Rattle.farkas_cert.specs.declared.journals.Move.TheVariants.{Decide, Propagate}
use Rattle.farkas_cert.specs.declared.literals.Lit.{Lit}
use Rattle.farkas_cert.specs.declared.trees.Part.{Part}
use Rattle.clause_form.specs.declared.clauses.Clauses.{Clauses}
use Rattle.clause_form.specs.Derivations.{Follow, HasAtom, IsContradiction, NamesOnce, Rows, SumsFit, rows_of}
use Rattle.clause_form.specs.Journals.{Entry, IsSettled, Last, Reached, cut, literal, literals, nothing}
use Rattle.clause_form.specs.Theories.{HasSolution, Relations, TheoryView, works}
use Rattle.clause_form.specs.WellFormed.{IsWellFormed}
use Rattle.learned_clause.specs.Learning.{IsUnitOn}
use Rattle.learned_clause.specs.Trails.{DecidedAt, IsTrail, known_with}
use Rattle.clause_search.specs.declared.course.Course.{Course}
use Rattle.clause_search.specs.declared.course.Phase.{Phase}
use Rattle.clause_search.specs.declared.course.Phase.TheVariants.{Told, Checked, Cut}
use Rattle.clause_search.specs.Answers.{AreLight, IsTally, starting_at}
use Rattle.clause_search.specs.Lessons.{MayLearn, ReachesLearning}
use Rattle.clause_search.specs.Tables.{View}

abbrev pub clauses_of : List Lemma → List (List Lit)
clauses_of lemmas = map (λ lemma. lemma.clause) lemmas

abbrev pub place : {S : Type 0} → List Entry → List Lemma → S → Last → Reached S
place trail lemmas s last = record { trail = trail; lemmas = clauses_of lemmas; state = s; last = last }

-- where a decision stands, each clause known now is neither false nor unit on the trail before it
abbrev pub AreOpenAtDecisions : List (List Lit) → List Entry → Type 0
AreOpenAtDecisions known trail = (k : ℕ) → DecidedAt trail k → IsSettled known (literals (take k trail))

-- and the literals before it have a common solution
abbrev pub AreSolvedAtDecisions : Rows → List Entry → Type 0
AreSolvedAtDecisions rows trail = (k : ℕ) → DecidedAt trail k → HasSolution rows (literals (take k trail))

-- the last clause known is unit, and no other is false or unit
pub record IsTaught (known : List (List Lit)) (lits : List Lit) : Type 0 where
  pub before : List (List Lit)
  pub lemma : List Lit
  pub is : known ≡ before ++ lemma ∷ []
  pub settled : IsSettled before lits
  pub single : IsUnitOn lits lemma

abbrev pub move_of : Lit → Option ℕ → Move
move_of l None = Decide l
move_of l (Some n) = Propagate l n

-- what a step leaves to do: it falls with each step, since a literal is charged, a check follows a literal, and a cut shortens
-- the trail
abbrev pub weight : Phase → ℕ
weight Told = 1
weight Checked = 0
weight Cut = 0

abbrev pub work_at_clash : Course → Counts → ℕ
work_at_clash course n = 2 * (2 * (n.limit - spent n) + length course.trail.entries)

abbrev pub work_left : Course → Counts → ℕ
work_left course n = work_at_clash course n + weight course.phase

module _ {S : Type 0} (R : Relations S) (c : Clauses) (s : S) where
  pub record IsUnderway (trail : List Entry) (lemmas : List Lemma) (moves : List Move) (last : Last) (seen : TheoryView S) (n : Counts) : Type 0 where
    pub formed : IsWellFormed c
    pub legal : ReachesLearning (starting_at s R) c moves (place trail lemmas seen.state last)
    pub told : seen.told ≡ literals trail
    pub rows : seen.rows ≡ rows_of c
    pub at_work : seen.rest ≡ works
    pub once : NamesOnce (length c.atoms) (literals trail)
    pub stands : IsTrail (length c.atoms) (known_with c.clauses lemmas) trail
    pub founded : AreOpenAtDecisions (known_with c.clauses lemmas) trail
    pub solved : AreSolvedAtDecisions (rows_of c) trail
    pub follow : Follow (rows_of c) c.clauses (map derived lemmas)
    pub light : AreLight (rows_of c) lemmas
    pub tally : IsTally moves n
    pub counted : n.conflicts ≡ length lemmas
    pub room : length lemmas + length trail ≤ spent n
    pub limit : n.limit ≤ 2 ^ 31

  -- a literal was told and no check followed, or nothing happened yet; a check answered Fine; or the trail was cut, and the lemma is
  -- unit
  abbrev pub IsInPhase : List Entry → List Lemma → Last → TheoryView S → Phase → Type 0
  IsInPhase trail lemmas last seen Told =
      (seen.owes ≡ false) × (R.contradicts seen.state → ⊥) × ((last ≡ literal) ⊎ ((last ≡ nothing) × (R.violated seen.state → ⊥)))
  IsInPhase trail lemmas last seen Checked =
      (seen.owes ≡ false) × (R.contradicts seen.state → ⊥) × (R.violated seen.state → ⊥) × (seen.fine ≡ true) × HasSolution seen.rows seen.told × (last ≡ cut → ⊥)
  IsInPhase trail lemmas last seen Cut =
      (seen.owes ≡ false) × (last ≡ cut) × IsTaught (known_with c.clauses lemmas) (literals trail)

  pub record IsStage (view : View) (lemmas : List Lemma) (moves : List Move) (phase : Phase) (seen : TheoryView S) (n : Counts) : Type 0 where
    pub last : Last
    pub atoms : view.atoms ≡ length c.atoms
    pub underway : IsUnderway view.entries lemmas moves last seen n
    pub in_phase : IsInPhase view.entries lemmas last seen phase

  -- the rows of the trail contradict, which the theory found straight after a literal or a pivot
  pub record IsClash (view : View) (lemmas : List Lemma) (moves : List Move) (seen : TheoryView S) (n : Counts) (parts : List Part) : Type 0 where
    pub last : Last
    pub atoms : view.atoms ≡ length c.atoms
    pub underway : IsUnderway view.entries lemmas moves last seen n
    pub few : length parts ≤ 2049
    pub contradiction : IsContradiction (rows_of c) (literals view.entries) parts
    pub fits : SumsFit (rows_of c) parts
    pub clash : R.clash seen.state (map (λ p. p.lit) parts)
    pub moved : last ≡ cut → ⊥

  -- the literal may be put on the trail, whose literals have a common solution where it is decided
  pub record IsLegal (view : View) (lemmas : List Lemma) (moves : List Move) (seen : TheoryView S) (n : Counts) (l : Lit) (by : Option ℕ) : Type 0 where
    pub last : Last
    pub atoms : view.atoms ≡ length c.atoms
    pub underway : IsUnderway view.entries lemmas moves last seen n
    pub paid : seen.owes ≡ false
    pub may : MayLearn (starting_at s R) c (place view.entries lemmas seen.state last) (move_of l by)
    pub solved : by ≡ None → HasSolution (rows_of c) (literals view.entries)

  -- the search stands at this course
  abbrev pub IsAt : Course → TheoryView S → Counts → Type 0
  IsAt course seen n = IsStage course.trail course.lemmas course.journal.moves course.phase seen n

  abbrev pub IsAtClash : Course → TheoryView S → Counts → List Part → Type 0
  IsAtClash course seen n parts = IsClash course.trail course.lemmas course.journal.moves seen n parts

  abbrev pub MayAssume : Course → TheoryView S → Counts → Lit → Option ℕ → Type 0
  MayAssume course seen n l by = IsLegal course.trail course.lemmas course.journal.moves seen n l by

-- what the theory and the trail need before the literal is told
pub record MayBeTold {S : Type 0} (view : View) (seen : TheoryView S) (l : Lit) : Type 0 where
  pub in_range : l.atom < view.atoms
  pub free : HasAtom l.atom (literals view.entries) → ⊥
  pub told : seen.told ≡ literals view.entries
  pub atoms : length seen.rows.atoms ≡ view.atoms
  pub room : length view.entries < 2 ^ 32 - 1
  pub paid : seen.owes ≡ false
  pub at_work : seen.rest ≡ works

-- a check is due
pub record IsDue {S : Type 0} (phase : Phase) (seen : TheoryView S) : Type 0 where
  pub told : phase ≡ Told
  pub paid : seen.owes ≡ false
  pub at_work : seen.rest ≡ works
