-- What may be propagated or decided, and what the answers of the search rest on.
use Rattle.std.proofs.Common.{◌≡◌, ℕ, suc, ◌+◌, ◌<◌, Bool, true, false, not, ◌⊎◌, inl, inr, List, [], ◌∷◌, length, Option, None, Some, slice_get, refl, sym, ◌∙◌, ap, subst, length-append, arith}
use Rattle.whole.specs.Budget.{Counts}
use Rattle.farkas_cert.specs.declared.certificates.Cert.{Cert}
use Rattle.farkas_cert.specs.declared.certificates.Lemma.{Lemma}
use Rattle.farkas_cert.specs.declared.journals.Journal.{Journal}
use Rattle.farkas_cert.specs.declared.literals.Lit.{Lit}
use Rattle.clause_form.specs.declared.clauses.Clauses.{Clauses}
use Rattle.clause_form.specs.Derivations.{Has, HasAtom, IsFalseOn, Rows, rows_of}
use Rattle.clause_form.specs.Journals.{Entry, IsFree, IsReason, IsSettled, Last, Reaches, cut, literal, literals}
use Rattle.clause_form.specs.Models.{HasTrue, Satisfies}
use Rattle.clause_form.specs.Theories.{HasSolution, Relations, TheoryView}
use Rattle.clause_form.specs.WellFormed.{Below}
use Rattle.learned_clause.specs.Trails.{known_with}
use Rattle.clause_search.specs.declared.course.Course.{Course}
use Rattle.clause_search.specs.declared.course.Phase.{Phase}
use Rattle.clause_search.specs.declared.course.Phase.TheVariants.{Told, Checked, Cut}
use Rattle.clause_search.specs.declared.found.Found.{Found}
use Rattle.clause_search.specs.declared.found.Found.TheVariants as found
use Rattle.clause_search.specs.declared.step.Step.{Step}
use Rattle.clause_search.specs.declared.found.Until.{Until}
use Rattle.clause_search.specs.declared.found.Until.TheVariants as until
use Rattle.clause_search.specs.Answers.{Finds, FindsUntil, IsAssignment, IsCalm, IsStopped, IsClosed, IsTally, starting_at, truth_in}
use Rattle.clause_search.specs.Courses.{IsInPhase, IsLegal, IsTaught, place}
use Rattle.clause_search.specs.Lessons.{ReachesLearning}
use Rattle.clause_search.specs.Opened.{IsOfCourse}
use Rattle.clause_search.specs.Steps.{Chooses, IfFree, IsAllowedStop, IsComplete, IsDeciding, IsPaused, IsPropagating, IsRefuted, Steps}
use Rattle.clause_search.specs.Tables.{NameAll}
use Rattle.clause_search.proofs.LiteralLaws.{below_has, settled_at, settled_back, settled_front}
use Rattle.clause_search.proofs.StandingLaws.{first_has}
use Rattle.clause_search.proofs.TrailLaws.{get_either, known_below}
use Rattle.clause_search.proofs.JournalLaws.{reaches_of}

-- ---- propagations and decisions

calm_in : {S : Type 0} (R : Relations S) (c : Clauses) (s : S) (trail : List Entry) (lemmas : List Lemma) (last : Last) (seen : TheoryView S) (phase : Phase)
    → (phase ≡ Told → ⊥) → IsInPhase R c s trail lemmas last seen phase → (seen.owes ≡ false) × (last ≡ literal → R.contradicts seen.state → ⊥)
calm_in R c s trail lemmas last seen Told moved is = absurd (moved refl)
calm_in R c s trail lemmas last seen Checked moved is = (is.0, λ e. is.1)
calm_in R c s trail lemmas last seen Cut moved is = (is.0, λ e. absurd (other (sym is.1 ∙ e)))
  where
    other : cut ≡ literal → ⊥
    other e = cc

taught_in : {S : Type 0} (R : Relations S) (c : Clauses) (s : S) (trail : List Entry) (lemmas : List Lemma) (last : Last) (seen : TheoryView S) (phase : Phase)
    → (phase ≡ Told → ⊥) → IsInPhase R c s trail lemmas last seen phase → last ≡ cut → IsTaught (known_with c.clauses lemmas) (literals trail)
taught_in R c s trail lemmas last seen Told moved is e = absurd (moved refl)
taught_in R c s trail lemmas last seen Checked moved is e = absurd (is.5 e)
taught_in R c s trail lemmas last seen Cut moved is e = is.2

-- straight after a conflict the lemma alone gives a literal
by_lemma : (known : List (List Lit)) (lits : List Lit) (l : Lit) (by : ℕ) → IsTaught known lits → (HasAtom l.atom lits → ⊥) → IsReason known lits l by
    → by + 1 ≡ length known
by_lemma known lits l by taught off reason =
    elim (get_either taught.before taught.lemma by reason.0 (subst (λ (ks : List (List Lit)). slice_get ks by ≡ Some reason.0) taught.is reason.1)) [
      | inl before ↦ absurd ((settled_at taught.before lits by reason.0 taught.settled before).not_unit l reason.2 off reason.3)
      | inr at ↦ (let size : length known ≡ length taught.before + 1 = ap length taught.is ∙ length-append taught.before (taught.lemma ∷ []) in
          let place : by ≡ length taught.before = at.0 in
          omega arith)
    ]

unsettled : (known : List (List Lit)) (lits : List Lit) → IsTaught known lits → IsSettled known lits → ⊥
unsettled known lits taught settled =
    let last = settled_back taught.before (taught.lemma ∷ []) lits (subst (λ (ks : List (List Lit)). IsSettled ks lits) taught.is settled) in
    last.0.not_unit taught.single.late taught.single.has taught.single.off taught.single.others

solved_in : {S : Type 0} (R : Relations S) (c : Clauses) (s : S) (trail : List Entry) (lemmas : List Lemma) (last : Last) (seen : TheoryView S) (phase : Phase)
    → phase ≡ Checked → IsInPhase R c s trail lemmas last seen phase → HasSolution seen.rows seen.told
solved_in R c s trail lemmas last seen Told e is = absurd (cc)
solved_in R c s trail lemmas last seen Checked e is = is.4
solved_in R c s trail lemmas last seen Cut e is = absurd (cc)

in_range : (c : Clauses) (lemmas : List Lemma) (l : Lit)
    (known : (k : ℕ) (clause : List Lit) → slice_get (known_with c.clauses lemmas) k ≡ Some clause → Below (length c.atoms) clause)
    → (k : ℕ) (clause : List Lit) → slice_get (known_with c.clauses lemmas) k ≡ Some clause → Has l clause → l.atom < length c.atoms
in_range c lemmas l known k clause is has = below_has (length c.atoms) l clause (known k clause is) has

some_none : (n : ℕ) → ◌≡◌ {A = Option ℕ} (Some n) None → ⊥
some_none n e = cc

pub may_propagate : {S : Type 0} (R : Relations S) (c : Clauses) (s : S) (course : Course) (seen : TheoryView S) (n : Counts) (l : Lit) (by : ℕ)
    → IsPropagating R c s course seen n l by → IsLegal R c s course.trail course.lemmas course.journal.moves seen n l (Some by)
may_propagate R c s course seen n l by ((at, moved), follows) =
    let calm = calm_in R c s course.trail.entries course.lemmas at.last seen course.phase moved at.in_phase in
    let reason = follows.reason in
    record {
      last = at.last;
      atoms = at.atoms;
      underway = at.underway;
      paid = calm.0;
      may = record {
        may = (
          (
            (in_range c course.lemmas l (known_below (rows_of c) c.clauses course.lemmas at.underway.formed.in_range at.underway.follow) by reason.0 reason.1 reason.2, follows.off),
            follows.reason,
          ),
          calm.1,
        );
        teaches = tt;
        heeds = λ e. (l, by, refl, by_lemma (known_with c.clauses course.lemmas) (literals course.trail.entries) l by (taught_in R c s course.trail.entries course.lemmas at.last seen course.phase moved at.in_phase e) follows.off follows.reason);
      };
      solved = λ e. absurd (some_none by e);
    }

rested_in : {S : Type 0} (R : Relations S) (c : Clauses) (s : S) (trail : List Entry) (lemmas : List Lemma) (last : Last) (seen : TheoryView S) (phase : Phase)
    → (phase ≡ Told → ⊥) → IsSettled (known_with c.clauses lemmas) (literals trail) → IsInPhase R c s trail lemmas last seen phase
    → (phase ≡ Checked) × (R.violated seen.state → ⊥)
rested_in R c s trail lemmas last seen Told moved settled is = absurd (moved refl)
rested_in R c s trail lemmas last seen Checked moved settled is = (refl, is.2)
rested_in R c s trail lemmas last seen Cut moved settled is = absurd (unsettled (known_with c.clauses lemmas) (literals trail) is.2 settled)

pub may_decide : {S : Type 0} (R : Relations S) (c : Clauses) (s : S) (course : Course) (seen : TheoryView S) (n : Counts) (wish : Option Lit) (l : Lit)
    → IsDeciding R c s course seen n wish → IsFree course.trail.atoms (literals course.trail.entries) l
    → IsLegal R c s course.trail course.lemmas course.journal.moves seen n l None
may_decide R c s course seen n wish l ((at, moved), settled, wished) free =
    let calm = calm_in R c s course.trail.entries course.lemmas at.last seen course.phase moved at.in_phase in
    let rested = rested_in R c s course.trail.entries course.lemmas at.last seen course.phase moved settled at.in_phase in
    record {
      last = at.last;
      atoms = at.atoms;
      underway = at.underway;
      paid = calm.0;
      may = record {
        may = ((subst (λ (a : ℕ). l.atom < a) at.atoms free.0, free.1), (calm.1, rested.1, settled));
        teaches = tt;
        heeds = λ e. absurd (unsettled (known_with c.clauses course.lemmas) (literals course.trail.entries) (taught_in R c s course.trail.entries course.lemmas at.last seen course.phase moved at.in_phase e) settled);
      };
      solved = λ e. subst (λ (r : Rows). HasSolution r (literals course.trail.entries)) at.underway.rows (subst (λ (ls : List Lit). HasSolution seen.rows ls) at.underway.told (solved_in R c s course.trail.entries course.lemmas at.last seen course.phase rested.0 at.in_phase));
    }

pub wish_free : {S : Type 0} (R : Relations S) (c : Clauses) (s : S) (course : Course) (seen : TheoryView S) (n : Counts) (wish : Option Lit)
    → IsDeciding R c s course seen n wish → IfFree course.trail wish
wish_free R c s course seen n None d = tt
wish_free R c s course seen n (Some l) ((at, moved), settled, wished) = (
  subst (λ (a : ℕ). l.atom < a) (sym at.atoms) (in_range c course.lemmas l (known_below (rows_of c) c.clauses course.lemmas at.underway.formed.in_range at.underway.follow) wished.number wished.clause wished.is (first_has (literals course.trail.entries) l wished.clause wished.first)),
  wished.first.off,
)

pub complete : {S : Type 0} (R : Relations S) (c : Clauses) (s : S) (course : Course) (seen : TheoryView S) (n : Counts) (wish : Option Lit)
    → IsDeciding R c s course seen n wish → Chooses course.trail None → IsComplete R c s course seen n
complete R c s course seen n wish ((at, moved), settled, wished) whole = record {
  at = at;
  checked = (rested_in R c s course.trail.entries course.lemmas at.last seen course.phase moved settled at.in_phase).0;
  settled = settled;
  whole = λ atom less. whole atom (subst (λ (a : ℕ). atom < a) (sym at.atoms) less);
}

-- ---- stops

pub paused : {S : Type 0} (R : Relations S) (c : Clauses) (s : S) (course : Course) (seen : TheoryView S) (n : Counts) (wish : Option Lit)
    → IsDeciding R c s course seen n wish → IsPaused R c s course seen n
paused R c s course seen n wish ((at, moved), settled, wished) = record {
  at = at;
  checked = (rested_in R c s course.trail.entries course.lemmas at.last seen course.phase moved settled at.in_phase).0;
}

pub calm_of : {S : Type 0} (R : Relations S) (c : Clauses) (s : S) (course : Course) (seen : TheoryView S) (n : Counts)
    → IsPaused R c s course seen n → IsCalm R seen
calm_of R c s course seen n is =
    let phase : IsInPhase R c s course.trail.entries course.lemmas is.at.last seen Checked = subst (λ (p : Phase). IsInPhase R c s course.trail.entries course.lemmas is.at.last seen p) is.checked is.at.in_phase in
    record { fine = phase.3; paid = phase.0; at_work = is.at.underway.at_work; solution = phase.4; calm = phase.2 }

pub stopped : {S : Type 0} (R : Relations S) (c : Clauses) (s : S) (course : Course) (seen : TheoryView S) (n : Counts) (journal : Journal)
    → IsPaused R c s course seen n → journal ≡ course.journal → IsStopped (starting_at s R) c seen n journal.moves
stopped R c s course seen n journal is same =
    subst (λ (j : Journal). IsStopped (starting_at s R) c seen n j.moves) (sym same) (record {
      calm = (let calm = calm_of R c s course seen n is in record { fine = calm.fine; paid = calm.paid; at_work = calm.at_work; solution = calm.solution; calm = calm.calm });
      reached = record {
        place = place course.trail.entries course.lemmas seen.state is.at.last;
        reached = reaches_of (starting_at s R) c course.journal.moves (place course.trail.entries course.lemmas seen.state is.at.last) is.at.underway.legal;
        learned = is.at.underway.legal;
        state = refl;
        trail = sym is.at.underway.told;
      };
      tally = is.at.underway.tally;
    })

pub made_as : {S : Type 0} (R : Relations S) (c : Clauses) (s : S) (work : ℕ) (course : Course) (seen : TheoryView S) (n : Counts) (a b : Step) → a ≡ b
    → Steps R c s work course seen n a → Steps R c s work course seen n b
made_as R c s work course seen n a b same made = subst (λ (m : Step). Steps R c s work course seen n m) same made

-- a stop that was allowed is one
pub found_until : {S : Type 0} (R : Relations S) (c : Clauses) (may : Bool) (stop : Type 0) (seen : TheoryView S) (n : Counts) (answer : Until)
    → FindsUntil R c (IsAllowedStop may stop) seen n answer → FindsUntil R c stop seen n answer
found_until R c may stop seen n (until.Stopped journal) is = (is.0, is.1.1)
found_until R c may stop seen n (until.Found answer) is = is

-- ---- totals

same_truth : (a b : Bool) → (a ≡ b) ⊎ (a ≡ not b)
same_truth true true = inl refl
same_truth true false = inr refl
same_truth false true = inr refl
same_truth false false = inl refl

true_or_false : (truths : List Bool) (told : List Lit) → IsAssignment truths told → (clause : List Lit) → Below (length truths) clause
    → HasTrue (truth_in truths) clause ⊎ IsFalseOn told clause
true_or_false truths told is [] below = inr tt
true_or_false truths told is (l ∷ ls) below = elim (true_or_false truths told is ls below.1) [
  | inl some ↦ inl (inr some)
  | inr none ↦ (elim (same_truth (truth_in truths l.atom) l.positive) [
    | inl e ↦ inl (inl e)
    | inr e ↦ inr (subst (λ (b : Bool). Has (record { atom = l.atom; positive = b }) told) e (is.each l.atom below.0), none)
  ])
]

all_satisfied : (truths : List Bool) (told : List Lit) → IsAssignment truths told → (clauses : List (List Lit)) → IsSettled clauses told
    → ((k : ℕ) (clause : List Lit) → slice_get clauses k ≡ Some clause → Below (length truths) clause) → Satisfies (truth_in truths) clauses
all_satisfied truths told is [] settled below = tt
all_satisfied truths told is (x ∷ xs) settled below = (
  elim (true_or_false truths told is x (below 0 x refl)) [ inl some ↦ some | inr none ↦ absurd (settled.0.not_false none) ],
  all_satisfied truths told is xs settled.1 (λ k clause e. below (suc k) clause e),
)

pub total_found : {S : Type 0} (R : Relations S) (c : Clauses) (s : S) (course : Course) (seen : TheoryView S) (n : Counts) (answer : Found)
    → IsComplete R c s course seen n → IsOfCourse course answer → Finds (starting_at s R) c seen n answer
total_found {S} R c s course seen n (found.Total truths journal) done of =
    let old = done.at.underway in
    let phase : IsInPhase R c s course.trail.entries course.lemmas done.at.last seen Checked = subst (λ (p : Phase). IsInPhase R c s course.trail.entries course.lemmas done.at.last seen p) done.checked done.at.in_phase in
    let size : length truths ≡ length c.atoms = of.0 ∙ done.at.atoms in
    record {
      atoms = size;
      clauses = all_satisfied truths (literals course.trail.entries) of.1 c.clauses (settled_front c.clauses _ (literals course.trail.entries) done.settled) (λ k clause e. subst (λ (a : ℕ). Below a clause) (sym size) (old.formed.in_range k clause e));
      assignment = subst (λ (ls : List Lit). IsAssignment truths ls) (sym old.told) of.1;
      fine = phase.3;
      paid = phase.0;
      at_work = old.at_work;
      solution = phase.4;
      calm = phase.2;
      reached = record {
        place = place course.trail.entries course.lemmas seen.state done.at.last;
        reached = subst (λ (j : Journal). Reaches (starting_at s R) c j.moves (place course.trail.entries course.lemmas seen.state done.at.last)) (sym of.2) (reaches_of (starting_at s R) c course.journal.moves (place course.trail.entries course.lemmas seen.state done.at.last) old.legal);
        learned = subst (λ (j : Journal). ReachesLearning (starting_at s R) c j.moves (place course.trail.entries course.lemmas seen.state done.at.last)) (sym of.2) old.legal;
        state = refl;
        trail = sym old.told;
      };
      tally = subst (λ (j : Journal). IsTally j.moves n) (sym of.2) old.tally;
    }
total_found R c s course seen n (found.Closed cert) done of = absurd of
total_found R c s course seen n (found.Spent journal) done of = absurd of
total_found R c s course seen n (found.Stuck stuck journal) done of = absurd of
total_found R c s course seen n found.NoMemory done of = tt

pub all_atoms : {S : Type 0} (R : Relations S) (c : Clauses) (s : S) (course : Course) (seen : TheoryView S) (n : Counts) → IsComplete R c s course seen n
    → NameAll course.trail.atoms (literals course.trail.entries)
all_atoms R c s course seen n done atom less = done.whole atom (subst (λ (a : ℕ). atom < a) done.at.atoms less)

pub closed_found : {S : Type 0} (R Q : Relations S) (c : Clauses) (s : S) (course : Course) (cert : Cert) (lemmas : List Lemma) → IsRefuted R c s course → lemmas ≡ course.lemmas → cert ≡ record { columns = c.columns; atoms = length c.atoms; clauses = length c.clauses; lemmas = lemmas } → IsClosed Q c cert
closed_found R Q c s course cert lemmas done same e = subst (λ (x : Cert). IsClosed Q c x) (sym e) (subst (λ (ls : List Lemma). IsClosed Q c (record { columns = c.columns; atoms = length c.atoms; clauses = length c.clauses; lemmas = ls })) (sym same) (record {
  proves = record { columns = refl; atoms = refl; clauses = refl; lemmas = done.follow; ends = done.ends };
  few = done.few;
  light = done.light;
}))
