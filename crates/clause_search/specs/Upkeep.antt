-- What a search keeps of its agenda and its cursor at each step.
use Rattle.std.specs.Prelude.{ℕ, List}
use Rattle.std.specs.BinaryHeap.{heap_items}
use Rattle.farkas_cert.specs.declared.literals.Lit.{Lit}
use Rattle.clause_form.specs.declared.clauses.Clauses.{Clauses}
use Rattle.clause_form.specs.declared.theory.Heard.{Heard}
use Rattle.clause_form.specs.declared.theory.Heard.TheVariants as heard
use Rattle.clause_form.specs.Journals.{literals}
use Rattle.learned_clause.specs.Trails.{known_with}
use Rattle.clause_search.specs.declared.course.Course.{Course}
use Rattle.clause_search.specs.declared.cursor.Cursor.{Cursor}
use Rattle.clause_search.specs.declared.step.Step.{Step}
use Rattle.clause_search.specs.declared.step.Step.TheVariants as step
use Rattle.clause_search.specs.declared.step.Turn.{Turn}
use Rattle.clause_search.specs.declared.step.Turn.TheVariants as turn
use Rattle.clause_search.specs.Agendas.{Covers, IsIndexed}
use Rattle.clause_search.specs.Cursors.{IsMarked}

-- each clause is listed by its literals, and the cursor is marked along the trail
pub record IsKept (atoms : ℕ) (known : List (List Lit)) (lits : List Lit) (lists : List (List ℕ)) (cursor : Cursor) : Type 0 where
  pub indexed : IsIndexed atoms known lists
  pub marked : IsMarked known lits cursor

abbrev pub IsKeptAt : Clauses → Course → Type 0
IsKeptAt c course = IsKept course.trail.atoms (known_with c.clauses course.lemmas) (literals course.trail.entries) course.agenda.occurrences.lists.items course.cursor

-- and the agenda covers each clause
abbrev pub IsCovering : Clauses → Course → Type 0
IsCovering c course = IsKeptAt c course × Covers (known_with c.clauses course.lemmas) (literals course.trail.entries) course.agenda.fresh.items (heap_items course.agenda.units)

-- so where the theory was asked: at a clash, a conflict begins
abbrev pub CoveringAsked : Clauses → Course → Heard → Type 0
CoveringAsked c course heard.Fine = IsCovering c course
CoveringAsked c course (heard.Clash parts) = IsKeptAt c course
CoveringAsked c course heard.Spent = Unit {0}
CoveringAsked c course (heard.Stuck stuck) = Unit {0}
CoveringAsked c course heard.NoMemory = Unit {0}

-- and where a step was made and the search goes on
abbrev pub CoveringStep : Clauses → Course → Step → Type 0
CoveringStep c course step.GoesOn = IsCovering c course
CoveringStep c course step.Total = Unit {0}
CoveringStep c course step.Closed = Unit {0}
CoveringStep c course step.Spent = Unit {0}
CoveringStep c course (step.Stuck stuck) = Unit {0}
CoveringStep c course step.NoMemory = Unit {0}

abbrev pub CoveringTurn : Clauses → Course → Turn → Type 0
CoveringTurn c course (turn.Takes made) = CoveringStep c course made
CoveringTurn c course turn.Stops = Unit {0}
