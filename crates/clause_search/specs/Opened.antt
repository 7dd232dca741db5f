-- What the parts of a course are after they are made or changed.
use Rattle.std.specs.Prelude.{◌≡◌, ℕ, [], ◌∷◌, ◌++◌, take, length, Option, None, Some}
use Rattle.std.specs.BinaryHeap.{heap_items}
use Rattle.whole.specs.declared.budget.Charge.{Charge}
use Rattle.whole.specs.declared.budget.Charge.TheVariants.{Decision, Propagation}
use Rattle.farkas_cert.specs.declared.certificates.Lemma.{Lemma}
use Rattle.farkas_cert.specs.declared.journals.Move.TheVariants.{Conflict}
use Rattle.farkas_cert.specs.declared.literals.Lit.{Lit}
use Rattle.clause_form.specs.declared.clauses.Clauses.{Clauses}
use Rattle.clause_form.specs.Journals.{literals}
use Rattle.clause_search.specs.declared.course.Course.{Course}
use Rattle.clause_search.specs.declared.course.Phase.TheVariants.{Told, Cut}
use Rattle.clause_search.specs.declared.found.Found.{Found}
use Rattle.clause_search.specs.declared.found.Found.TheVariants as found
use Rattle.clause_search.specs.Agendas.{Covers, IsIndexed, Learns, Rouses}
use Rattle.clause_search.specs.Answers.{IsAssignment}
use Rattle.clause_search.specs.Courses.{move_of}
use Rattle.clause_search.specs.Cursors.{Marks, SetsBack}

-- the charge of a literal
abbrev pub charge_of : Option ℕ → Charge
charge_of None = Decision
charge_of (Some n) = Propagation

-- nothing is done yet
pub record IsOpened (c : Clauses) (course : Course) : Type 0 where
  pub trail : course.trail ≡ record { atoms = length c.atoms; entries = [] }
  pub lemmas : course.lemmas ≡ []
  pub moves : course.journal.moves ≡ []
  pub phase : course.phase ≡ Told
  pub indexed : IsIndexed (length c.atoms) c.clauses course.agenda.occurrences.lists.items
  pub covers : Covers c.clauses [] course.agenda.fresh.items (heap_items course.agenda.units)
  pub next : course.cursor.next ≡ 0
  pub marks : course.cursor.marks.items ≡ []

-- the literal was put on the trail, and the move written
pub record Putting (old : Course) (l : Lit) (by : Option ℕ) (new : Course) : Type 0 where
  pub trail : new.trail ≡ record { atoms = old.trail.atoms; entries = old.trail.entries ++ record { lit = l; by = by } ∷ [] }
  pub lemmas : new.lemmas ≡ old.lemmas
  pub moves : new.journal.moves ≡ old.journal.moves ++ move_of l by ∷ []
  pub phase : new.phase ≡ Told
  pub agenda : Rouses old.agenda l new.agenda
  pub cursor : Marks old.cursor new.cursor

-- the lemma was added with this number, the trail cut, and the move written
pub record Cutting (old : Course) (lemma : Lemma) (keep number : ℕ) (new : Course) : Type 0 where
  pub trail : new.trail ≡ record { atoms = old.trail.atoms; entries = take keep old.trail.entries }
  pub lemmas : new.lemmas ≡ old.lemmas ++ lemma ∷ []
  pub moves : new.journal.moves ≡ old.journal.moves ++ Conflict lemma.clause keep ∷ []
  pub phase : new.phase ≡ Cut
  pub agenda : Learns old.agenda number lemma.clause new.agenda
  pub cursor : SetsBack old.cursor keep new.cursor

-- the trail's truths and the journal
abbrev pub IsOfCourse : Course → Found → Type 0
IsOfCourse course (found.Total truths journal) =
    (length truths ≡ course.trail.atoms) × IsAssignment truths (literals course.trail.entries) × (journal ≡ course.journal)
IsOfCourse course (found.Closed cert) = ⊥
IsOfCourse course (found.Spent journal) = ⊥
IsOfCourse course (found.Stuck stuck journal) = ⊥
IsOfCourse course found.NoMemory = Unit {0}
