-- A search's agenda and cursor at its beginning, after a literal is told, and after a cut.
use Rattle.std.proofs.Common.{◌≡◌, ℕ, ◌<◌, List, [], ◌∷◌, ◌++◌, length, take, Option, None, Some, IfNone, sym, subst}
use Rattle.std.specs.BinaryHeap.{heap_items}
use Rattle.std.proofs.lemmas.List.{append-nil, length-map}
use Rattle.whole.specs.Budget.{Counts}
use Rattle.farkas_cert.specs.declared.certificates.Lemma.{Lemma}
use Rattle.farkas_cert.specs.declared.literals.Lit.{Lit}
use Rattle.clause_form.specs.declared.clauses.Clauses.{Clauses}
use Rattle.clause_form.specs.declared.theory.Heard.{Heard}
use Rattle.clause_form.specs.declared.theory.Heard.TheVariants as heard
use Rattle.clause_form.specs.Derivations.{NamesOnce}
use Rattle.clause_form.specs.Journals.{Entry, literals}
use Rattle.clause_form.specs.Theories.{Relations, TheoryView}
use Rattle.learned_clause.specs.Trails.{known_with}
use Rattle.clause_search.specs.declared.agenda.Agenda.{Agenda}
use Rattle.clause_search.specs.declared.agenda.Waiting.{Waiting}
use Rattle.clause_search.specs.declared.course.Course.{Course}
use Rattle.clause_search.specs.declared.cursor.Cursor.{Cursor}
use Rattle.clause_search.specs.Agendas.{Covers, IsIndexed}
use Rattle.clause_search.specs.Cursors.{IsMarked}
use Rattle.clause_search.specs.declared.occurrences.Occurrences.{Occurrences}
use Rattle.clause_search.specs.Upkeep.{IsKept, IsKeptAt, IsCovering, CoveringAsked}
use Rattle.clause_search.specs.Opened.{Cutting, IsOpened, Putting}
use Rattle.clause_search.specs.Steps.{IsCutting}
use Rattle.clause_search.specs.Tables.{View}
use Rattle.clause_search.proofs.AgendaLaws.{covers_learned, covers_told, indexed_more}
use Rattle.clause_search.proofs.CursorLaws.{marked_cut, marked_none, marked_told}
use Rattle.clause_search.proofs.TrailLaws.{known_more, lits_more, lits_take}

-- what holds of a course's parts
abbrev pub ReadyAt : Clauses → View → List Lemma → List (List ℕ) → Cursor → List ℕ → List Waiting → Type 0
ReadyAt c view lemmas lists cursor fresh units =
    IsKept view.atoms (known_with c.clauses lemmas) (literals view.entries) lists cursor × Covers (known_with c.clauses lemmas) (literals view.entries) fresh units

-- ---- the beginning

pub covering_begun : (c : Clauses) (course : Course) → IsOpened c course → IsCovering c course
covering_begun c course opened =
    subst (λ (v : View). ReadyAt c v course.lemmas lists course.cursor fresh units) (sym opened.trail) (
    subst (λ (ls : List Lemma). ReadyAt c (record { atoms = length c.atoms; entries = [] }) ls lists course.cursor fresh units) (sym opened.lemmas) (
      record {
        indexed = subst (λ (ks : List (List Lit)). IsIndexed (length c.atoms) ks lists) (sym (append-nil c.clauses)) opened.indexed;
        marked = marked_none (known_with c.clauses []) course.cursor opened.next opened.marks;
      },
      subst (λ (ks : List (List Lit)). Covers ks [] fresh units) (sym (append-nil c.clauses)) opened.covers,
    ))
  where
    lists : List (List ℕ)
    lists = course.agenda.occurrences.lists.items

    fresh : List ℕ
    fresh = course.agenda.fresh.items

    units : List Waiting
    units = heap_items course.agenda.units

-- ---- a literal is told

pub covering_told : (c : Clauses) (old new : Course) (l : Lit) (by : Option ℕ) → l.atom < old.trail.atoms → Putting old l by new → IsCovering c old → IsCovering c new
covering_told c old new l by less put (kept, covers) =
    subst (λ (v : View). ReadyAt c v new.lemmas lists new.cursor fresh units) (sym put.trail) (
    subst (λ (ls : List Lemma). ReadyAt c (record { atoms = old.trail.atoms; entries = longer }) ls lists new.cursor fresh units) (sym put.lemmas) (
    subst (λ (ls : List Lit). IsKept old.trail.atoms known ls lists new.cursor × Covers known ls fresh units) (sym (lits_more old.trail.entries (record { lit = l; by = by }))) (
      record {
        indexed = subst (λ (o : Occurrences). IsIndexed old.trail.atoms known o.lists.items) (sym put.agenda.occurrences) kept.indexed;
        marked = marked_told known (literals old.trail.entries) l old.cursor new.cursor kept.marked put.cursor;
      },
      covers_told old.trail.atoms known (literals old.trail.entries) l old.agenda.occurrences.lists.items old.agenda.fresh.items fresh (heap_items old.agenda.units) units less kept.indexed covers put.agenda.fresh put.agenda.units,
    )))
  where
    known : List (List Lit)
    known = known_with c.clauses old.lemmas

    longer : List Entry
    longer = old.trail.entries ++ record { lit = l; by = by } ∷ []

    lists : List (List ℕ)
    lists = new.agenda.occurrences.lists.items

    fresh : List ℕ
    fresh = new.agenda.fresh.items

    units : List Waiting
    units = heap_items new.agenda.units

pub covering_asked : (c : Clauses) (course : Course) (answer : Heard) → IsCovering c course → CoveringAsked c course answer
covering_asked c course heard.Fine covering = covering
covering_asked c course (heard.Clash parts) covering = covering.0
covering_asked c course heard.Spent covering = tt
covering_asked c course (heard.Stuck stuck) covering = tt
covering_asked c course heard.NoMemory covering = tt

-- the fresh clauses were looked at, and none is false
pub covering_looked : (c : Clauses) (course : Course) (agenda : Agenda) (ls : List Lemma) (found : Option ℕ) (atoms : ℕ) → ls ≡ course.lemmas
    → agenda.occurrences ≡ course.agenda.occurrences → found ≡ None → NamesOnce atoms (literals course.trail.entries)
    → ((n : ℕ) → NamesOnce n (literals course.trail.entries) → Covers (known_with c.clauses ls) (literals course.trail.entries) course.agenda.fresh.items (heap_items course.agenda.units)
    → IfNone found (Covers (known_with c.clauses ls) (literals course.trail.entries) agenda.fresh.items (heap_items agenda.units)))
    → IsCovering c course → ReadyAt c course.trail course.lemmas agenda.occurrences.lists.items course.cursor agenda.fresh.items (heap_items agenda.units)
covering_looked c course agenda ls (Some number) atoms same occurrences none once covers covering = absurd (cc)
covering_looked c course agenda ls None atoms same occurrences none once covers (kept, before) = (
  record {
    indexed = subst (λ (o : Occurrences). IsIndexed course.trail.atoms (known_with c.clauses course.lemmas) o.lists.items) (sym occurrences) kept.indexed;
    marked = kept.marked;
  },
  subst (λ (ms : List Lemma). Covers (known_with c.clauses ms) (literals course.trail.entries) agenda.fresh.items (heap_items agenda.units)) same (
      covers atoms once (subst (λ (ms : List Lemma). Covers (known_with c.clauses ms) (literals course.trail.entries) course.agenda.fresh.items (heap_items course.agenda.units)) (sym same) before)),
)

-- ---- the trail is cut

pub covering_cut : {S : Type 0} (R : Relations S) (c : Clauses) (s : S) (old new : Course) (seen : TheoryView S) (n : Counts) (lemma : Lemma) (keep number : ℕ)
    → IsCutting R c s old.trail old.lemmas old.journal.moves seen n lemma keep → Cutting old lemma keep number new
    → number ≡ length (known_with c.clauses old.lemmas) → IsKeptAt c old → IsCovering c new
covering_cut R c s old new seen n lemma keep number jump cutting last kept =
    subst (λ (v : View). ReadyAt c v new.lemmas lists new.cursor fresh units) (sym cutting.trail) (
    subst (λ (ls : List Lemma). ReadyAt c (record { atoms = old.trail.atoms; entries = shorter }) ls lists new.cursor fresh units) (sym cutting.lemmas) (
    subst (λ (ks : List (List Lit)). IsKept old.trail.atoms ks (literals shorter) lists new.cursor × Covers ks (literals shorter) fresh units) (sym (known_more c.clauses old.lemmas lemma)) (
      record {
        indexed = indexed_more old.trail.atoms known old.agenda.occurrences.lists.items lists number lemma.clause kept.indexed cutting.agenda.grown cutting.agenda.listed last;
        marked = subst (λ (ls : List Lit). IsMarked (known ++ lemma.clause ∷ []) ls new.cursor) (sym (lits_take old.trail.entries keep)) (marked_cut known (lemma.clause ∷ []) (literals old.trail.entries) keep old.cursor new.cursor short kept.marked cutting.cursor);
      },
      covers_learned known lemma.clause (literals shorter) number fresh units (jump.underway.founded keep jump.cuts.decided) last cutting.agenda.fresh,
    )))
  where
    known : List (List Lit)
    known = known_with c.clauses old.lemmas

    shorter : List Entry
    shorter = take keep old.trail.entries

    short : keep < length (literals old.trail.entries)
    short = subst (λ (k : ℕ). keep < k) (sym (length-map old.trail.entries (λ (e : Entry). e.lit))) jump.cuts.within

    lists : List (List ℕ)
    lists = new.agenda.occurrences.lists.items

    fresh : List ℕ
    fresh = new.agenda.fresh.items

    units : List Waiting
    units = heap_items new.agenda.units
