-- What the steps of a search answer.
use Rattle.std.specs.Prelude.{◌≡◌, ℕ, ◌+◌, ◌<◌, ◌≤◌, ◌^◌, Bool, true, List, ◌∷◌, [], ◌++◌, map, length, Option, None, Some}
use Rattle.whole.specs.Budget.{Counts}
use Rattle.farkas_cert.specs.Trees.{derived, tree_of}
use Rattle.farkas_cert.specs.declared.certificates.Lemma.{Lemma}
use Rattle.farkas_cert.specs.declared.journals.Move.{Move}
use Rattle.farkas_cert.specs.declared.literals.Lit.{Lit}
use Rattle.clause_form.specs.declared.clauses.Clauses.{Clauses}
use Rattle.clause_form.specs.declared.theory.Heard.{Heard}
use Rattle.clause_form.specs.declared.theory.Heard.TheVariants as heard
use Rattle.clause_form.specs.Derivations.{EndsEmpty, Follow, rows_of}
use Rattle.clause_form.specs.Journals.{IsFree, IsSettled, Last, cut, literals}
use Rattle.clause_form.specs.Theories.{Relations, TheoryView}
use Rattle.learned_clause.specs.Learning.{CutsTo, IsLearnedFrom}
use Rattle.learned_clause.specs.Trails.{known_with}
use Rattle.learned_clause.specs.declared.learning.Start.{Start}
use Rattle.learned_clause.specs.declared.learning.Start.TheVariants.{Clause, Clash}
use Rattle.clause_search.specs.declared.course.Course.{Course}
use Rattle.clause_search.specs.declared.course.Phase.TheVariants.{Told, Checked}
use Rattle.clause_search.specs.declared.step.Step.{Step}
use Rattle.clause_search.specs.declared.step.Step.TheVariants as step
use Rattle.clause_search.specs.declared.step.Turn.{Turn}
use Rattle.clause_search.specs.declared.step.Turn.TheVariants as turn
use Rattle.clause_search.specs.Answers.{AreLight, IsSpent, IsStuck, starting_at}
use Rattle.clause_search.specs.Courses.{IsAt, IsAtClash, IsUnderway, place, work_at_clash, work_left}
use Rattle.clause_search.specs.Lessons.{IsLesson}
use Rattle.clause_search.specs.Standings.{Follows, IfWanted, IsFalseAt}
use Rattle.clause_search.specs.Tables.{NameAll, View}

-- what was asked leaves less work
abbrev pub LeavesLess : ℕ → Course → Counts → Heard → Type 0
LeavesLess work course n heard.Fine = work_left course n < work
LeavesLess work course n (heard.Clash parts) = work_at_clash course n ≤ work
LeavesLess work course n heard.Spent = Unit {0}
LeavesLess work course n (heard.Stuck stuck) = Unit {0}
LeavesLess work course n heard.NoMemory = Unit {0}

module _ {S : Type 0} (R : Relations S) (c : Clauses) (s : S) where
  -- the theory was asked: nothing speaks against the trail, or its rows contradict, or the search ends
  abbrev pub Asks : Course → TheoryView S → Counts → Heard → Type 0
  Asks course seen n heard.Fine = IsAt R c s course seen n
  Asks course seen n (heard.Clash parts) = IsAtClash R c s course seen n parts
  Asks course seen n heard.Spent = IsSpent (starting_at s R) c n course.journal.moves
  Asks course seen n (heard.Stuck stuck) = IsStuck (starting_at s R) c n stuck course.journal.moves
  Asks course seen n heard.NoMemory = Unit {0}

  -- what is false at a conflict
  abbrev pub IsConflict : Course → TheoryView S → Counts → Start → Type 0
  IsConflict course seen n (Clause number) = IsAt R c s course seen n × IsFalseAt (known_with c.clauses course.lemmas) (literals course.trail.entries) number
  IsConflict course seen n (Clash parts) = IsAtClash R c s course seen n parts

  -- the lemmas lead to the empty clause
  pub record IsRefuted (course : Course) : Type 0 where
    pub follow : Follow (rows_of c) c.clauses (map derived course.lemmas)
    pub ends : EndsEmpty (map derived course.lemmas)
    pub light : AreLight (rows_of c) course.lemmas
    pub few : length c.clauses + length course.lemmas ≤ 2 ^ 32

  -- the trail has each atom, each clause is true, and the last check answered Fine
  pub record IsComplete (course : Course) (seen : TheoryView S) (n : Counts) : Type 0 where
    pub at : IsAt R c s course seen n
    pub checked : course.phase ≡ Checked
    pub settled : IsSettled (known_with c.clauses course.lemmas) (literals course.trail.entries)
    pub whole : NameAll (length c.atoms) (literals course.trail.entries)

  -- nothing is to be checked first
  abbrev pub IsAdvancing : Course → TheoryView S → Counts → Type 0
  IsAdvancing course seen n = IsAt R c s course seen n × (course.phase ≡ Told → ⊥)

  -- and the clause with this number gives the literal
  abbrev pub IsPropagating : Course → TheoryView S → Counts → Lit → ℕ → Type 0
  IsPropagating course seen n l by = IsAdvancing course seen n × Follows (known_with c.clauses course.lemmas) (literals course.trail.entries) l by

  -- or no clause is false or gives a literal
  abbrev pub IsDeciding : Course → TheoryView S → Counts → Option Lit → Type 0
  IsDeciding course seen n wish =
      IsAdvancing course seen n × IsSettled (known_with c.clauses course.lemmas) (literals course.trail.entries)
      × IfWanted (known_with c.clauses course.lemmas) (literals course.trail.entries) wish

  -- the lemma is the learned clause of a start, and a cut to this length makes it unit
  pub record IsCutting (view : View) (lemmas : List Lemma) (moves : List Move) (seen : TheoryView S) (n : Counts) (lemma : Lemma) (keep : ℕ) : Type 0 where
    pub last : Last
    pub atoms : view.atoms ≡ length c.atoms
    pub underway : IsUnderway R c s view.entries lemmas moves last seen n
    pub learned : IsLearnedFrom (rows_of c) (known_with c.clauses lemmas) view.entries lemma.clause (tree_of lemma.proof) keep
    pub cuts : CutsTo view.entries lemma.clause keep
    pub moved : last ≡ cut → ⊥
    pub lesson : IsLesson (starting_at s R) c (place view.entries lemmas seen.state last) lemma.clause keep

  abbrev pub IsJump : Course → TheoryView S → Counts → Lemma → ℕ → Type 0
  IsJump course seen n lemma keep = IsCutting course.trail course.lemmas course.journal.moves seen n lemma keep

  -- the search goes on with less work left, or has found its answer
  abbrev pub Steps : ℕ → Course → TheoryView S → Counts → Step → Type 0
  Steps work course seen n step.GoesOn = IsAt R c s course seen n × (work_left course n < work)
  Steps work course seen n step.Total = IsComplete course seen n
  Steps work course seen n step.Closed = IsRefuted course
  Steps work course seen n step.Spent = IsSpent (starting_at s R) c n course.journal.moves
  Steps work course seen n (step.Stuck stuck) = IsStuck (starting_at s R) c n stuck course.journal.moves
  Steps work course seen n step.NoMemory = Unit {0}

  -- the search stands at a decision, and the last check answered Fine
  pub record IsPaused (course : Course) (seen : TheoryView S) (n : Counts) : Type 0 where
    pub at : IsAt R c s course seen n
    pub checked : course.phase ≡ Checked

  -- a step is made, or the guide stops the search
  abbrev pub Turns : Type 0 → ℕ → Course → TheoryView S → Counts → Turn → Type 0
  Turns stop work course seen n (turn.Takes made) = Steps work course seen n made
  Turns stop work course seen n turn.Stops = IsPaused course seen n × stop

-- what a cut needs before it
pub record MayJump {S : Type 0} (known : List (List Lit)) (seen : TheoryView S) (n : Counts) (keep : ℕ) : Type 0 where
  pub few : length known < 2 ^ 32
  pub within : keep ≤ length seen.told
  pub counted : n.conflicts < 2 ^ 63

-- the lemma was added, or memory ran out
abbrev pub Refutes : List Lemma → Lemma → List Lemma → Step → Type 0
Refutes old lemma new step.GoesOn = ⊥
Refutes old lemma new step.Total = ⊥
Refutes old lemma new step.Closed = new ≡ old ++ lemma ∷ []
Refutes old lemma new step.Spent = ⊥
Refutes old lemma new (step.Stuck stuck) = ⊥
Refutes old lemma new step.NoMemory = Unit {0}

-- a stop that was allowed
abbrev pub IsAllowedStop : Bool → Type 0 → Type 0
IsAllowedStop may_stop stop = (may_stop ≡ true) × stop

-- the atom is in range and off the trail
abbrev pub IfFree : View → Option Lit → Type 0
IfFree view None = Unit {0}
IfFree view (Some l) = IsFree view.atoms (literals view.entries) l

-- the literal's atom is in range and off the trail; there is none only where the trail has each atom
abbrev pub Chooses : View → Option Lit → Type 0
Chooses view None = NameAll view.atoms (literals view.entries)
Chooses view (Some l) = IsFree view.atoms (literals view.entries) l
