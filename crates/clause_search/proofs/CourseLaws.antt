-- A search stays legal: where it begins, after a literal is told, and after a check.
use Rattle.std.proofs.Common.{◌≡◌, ℕ, ◌+◌, ◌-◌, ◌*◌, ◌<◌, ◌≤◌, ◌^◌, nat_lt, Bool, true, false, ◌⊎◌, inl, inr, List, [], ◌∷◌, ◌++◌, map, length, Option, None, Some, slice_get, refl, sym, ◌∙◌, ap, subst, length-append, arith, if◌then◌else◌}
use Rattle.std.proofs.lemmas.Bool.{ltb-false, ltb-true}
use Rattle.whole.specs.Budget.{Counts, charged, spent}
use Rattle.whole.specs.declared.answers.Stuck.{Stuck}
use Rattle.whole.specs.declared.budget.Charge.{Charge}
use Rattle.farkas_cert.specs.declared.certificates.Lemma.{Lemma}
use Rattle.farkas_cert.specs.declared.journals.Move.{Move}
use Rattle.farkas_cert.specs.declared.journals.Move.TheVariants.{Pivot}
use Rattle.farkas_cert.specs.declared.literals.Lit.{Lit}
use Rattle.farkas_cert.specs.declared.trees.Part.{Part}
use Rattle.clause_form.specs.declared.clauses.Clauses.{Clauses}
use Rattle.clause_form.specs.declared.theory.Heard.{Heard}
use Rattle.clause_form.specs.declared.theory.Heard.TheVariants as heard
use Rattle.clause_form.specs.Derivations.{IsContradiction, NamesOnce, Rows, SumsFit, rows_of}
use Rattle.clause_form.specs.Journals.{Entry, IsFree, IsSettled, Last, Leads, MayMove, Reached, SticksIn, cut, is_charged, known_at, literal, literals, nothing}
use Rattle.clause_form.specs.Theories.{HasClash, HasSolution, HearsCheckAtWork, HearsLiteralAtWork, MadePivots, Relations, TheoryView, TookLiteral}
use Rattle.learned_clause.specs.Trails.{IsFounded, known_with}
use Rattle.clause_search.specs.declared.course.Course.{Course}
use Rattle.clause_search.specs.declared.course.Phase.{Phase}
use Rattle.clause_search.specs.declared.course.Phase.TheVariants.{Told, Checked, Cut}
use Rattle.clause_search.specs.Answers.{IsSpent, IsStart, IsStuck, starting_at}
use Rattle.clause_search.specs.Courses.{IsClash, IsInPhase, IsLegal, IsStage, IsUnderway, MayBeTold, move_of, place, weight, work_left}
use Rattle.clause_search.specs.Lessons.{IsOpenLearning, SticksLearning}
use Rattle.clause_search.specs.Opened.{IsOpened, Putting, charge_of}
use Rattle.clause_search.specs.Steps.{Asks, LeavesLess}
use Rattle.clause_search.specs.Tables.{View}
use Rattle.clause_search.proofs.LiteralLaws.{once_more}
use Rattle.clause_search.proofs.TrailLaws.{decisions_more, lits_more, solved_more, trail_more}
use Rattle.clause_search.proofs.JournalLaws.{IsPivoted, charged_spent, conflicts_charged, limit_charged, literal_not_cut, may_pivot, nothing_not_cut, open_of, pivot_of, pivots_made, reaches_more, spent_charged, sticks_after, sticks_of, tally_literal, tally_pivots, with_pivots}

-- ---- the beginning

no_entry : (k : ℕ) (e : Entry) → slice_get [] k ≡ Some e → ⊥
no_entry k e is = cc

pub begun : {S : Type 0} (R : Relations S) (c : Clauses) (seen : TheoryView S) (n : Counts) (course : Course)
    → ((s : S) → R.opening s → (R.contradicts s → ⊥) × (R.violated s → ⊥)) → IsStart R c seen n → IsOpened c course
    → IsStage R c seen.state course.trail course.lemmas course.journal.moves course.phase seen n
begun {S} R c seen n course calm start opened =
    subst (λ (v : View). IsStage R c seen.state v course.lemmas course.journal.moves course.phase seen n) (sym opened.trail) (
    subst (λ (ls : List Lemma). IsStage R c seen.state (record { atoms = length c.atoms; entries = [] }) ls course.journal.moves course.phase seen n) (sym opened.lemmas) (
    subst (λ (ms : List Move). IsStage R c seen.state (record { atoms = length c.atoms; entries = [] }) [] ms course.phase seen n) (sym opened.moves) (
    subst (λ (p : Phase). IsStage R c seen.state (record { atoms = length c.atoms; entries = [] }) [] [] p seen n) (sym opened.phase) stage)))
  where
    stage : IsStage R c seen.state (record { atoms = length c.atoms; entries = [] }) [] [] Told seen n
    stage = record {
      last = nothing;
      atoms = refl;
      underway = record {
        formed = start.formed;
        legal = (seen.state, refl, refl);
        told = start.untold;
        rows = start.rows;
        at_work = start.at_work;
        once = tt;
        stands = record { few = omega arith; stands = λ k e at. absurd (no_entry k e at) };
        founded = λ k decided. absurd (no_entry k (record { lit = decided.0; by = None }) decided.1);
        solved = λ k decided. absurd (no_entry k (record { lit = decided.0; by = None }) decided.1);
        follow = tt;
        light = tt;
        tally = record {
          decisions = ap (λ (m : Counts). m.decisions) start.unspent;
          propagations = ap (λ (m : Counts). m.propagations) start.unspent;
          pivots = ap (λ (m : Counts). m.pivots) start.unspent;
          conflicts = ap (λ (m : Counts). m.conflicts) start.unspent;
        };
        counted = ap (λ (m : Counts). m.conflicts) start.unspent;
        room = omega arith;
        limit = start.limit;
      };
      in_phase = (start.paid, (calm seen.state start.opens).0, inr (refl, (calm seen.state start.opens).1));
    }

-- ---- a literal that may be assumed

free_of : {S : Type 0} (R : Relations S) (c : Clauses) (p : Reached S) (l : Lit) (by : Option ℕ) → MayMove R c p (move_of l by)
    → IsFree (length c.atoms) (literals p.trail) l
free_of R c p l None may = may.0
free_of R c p l (Some n) may = may.0.0

founded_of : {S : Type 0} (R : Relations S) (c : Clauses) (p : Reached S) (l : Lit) (by : Option ℕ) → MayMove R c p (move_of l by)
    → IsFounded (c.clauses ++ p.lemmas) (literals p.trail) l by
founded_of R c p l None may = tt
founded_of R c p l (Some n) may = may.0.1

settled_of : {S : Type 0} (R : Relations S) (c : Clauses) (p : Reached S) (l : Lit) (by : Option ℕ) → MayMove R c p (move_of l by) → by ≡ None
    → IsSettled (known_at c p) (literals p.trail)
settled_of R c p l None may e = may.1.2
settled_of R c p l (Some n) may e = absurd (cc)

leads_of : {S : Type 0} (R : Relations S) (c : Clauses) (trail : List Entry) (lemmas : List Lemma) (u t : S) (last : Last) (l : Lit) (by : Option ℕ) → R.after_literal u l t → Leads R c (place trail lemmas u last) (move_of l by) (place (trail ++ record { lit = l; by = by } ∷ []) lemmas t literal)
leads_of R c trail lemmas u t last l None after = (refl, refl, after, refl)
leads_of R c trail lemmas u t last l (Some n) after = (refl, refl, after, refl)

sticks_in : {S : Type 0} (R : Relations S) (c : Clauses) (u : S) (l : Lit) (by : Option ℕ) (k : Stuck) → R.stuck_in_literal u l k
    → SticksIn R c u (move_of l by) k
sticks_in R c u l None k stuck = stuck
sticks_in R c u l (Some n) k stuck = stuck

charged_move : {S : Type 0} (R : Relations S) (c : Clauses) (l : Lit) (by : Option ℕ) → is_charged R c (move_of l by) ≡ true
charged_move R c l None = refl
charged_move R c l (Some n) = refl

pub may_be_told : {S : Type 0} (R : Relations S) (c : Clauses) (s : S) (view : View) (lemmas : List Lemma) (moves : List Move) (seen : TheoryView S)
    (n : Counts) (l : Lit) (by : Option ℕ) → spent n ≤ n.limit → IsLegal R c s view lemmas moves seen n l by → MayBeTold view seen l
may_be_told R c s view lemmas moves seen n l by within legal =
    let free = free_of (starting_at s R) c (place view.entries lemmas seen.state legal.last) l by legal.may.may in record {
      in_range = subst (λ (a : ℕ). l.atom < a) (sym legal.atoms) free.0;
      free = free.1;
      told = legal.underway.told;
      atoms = ap (λ (r : Rows). length r.atoms) legal.underway.rows ∙ sym legal.atoms;
      room = (let room = legal.underway.room in let limit = legal.underway.limit in omega arith);
      paid = legal.paid;
      at_work = legal.underway.at_work;
    }

-- ---- after a literal was told

told_on : {S : Type 0} (R : Relations S) (c : Clauses) (s : S) (view : View) (lemmas : List Lemma) (moves : List Move) (seen new : TheoryView S) (n : Counts) (l : Lit) (by : Option ℕ) → IsLegal R c s view lemmas moves seen n l by → spent n < n.limit → TookLiteral R seen l new → IsUnderway R c s (view.entries ++ record { lit = l; by = by } ∷ []) lemmas (moves ++ move_of l by ∷ []) literal new (charged (charge_of by) n)
told_on {S} R c s view lemmas moves seen new n l by legal less took =
    let here : Reached S = place view.entries lemmas seen.state legal.last in
    let e : Entry = record { lit = l; by = by } in
    let old = legal.underway in
    let free = free_of (starting_at s R) c here l by legal.may.may in
    let lits = lits_more view.entries e in
    record {
      formed = old.formed;
      legal = reaches_more (starting_at s R) c moves (move_of l by) here (place (view.entries ++ e ∷ []) lemmas new.state literal) old.legal legal.may (leads_of (starting_at s R) c view.entries lemmas seen.state new.state legal.last l by took.state);
      told = took.told ∙ ap (λ (ls : List Lit). ls ++ l ∷ []) old.told ∙ sym lits;
      rows = took.rows ∙ old.rows;
      at_work = took.rest;
      once = subst (λ (ls : List Lit). NamesOnce (length c.atoms) ls) (sym lits) (once_more (length c.atoms) (literals view.entries) l old.once free.0 free.1);
      stands = trail_more (length c.atoms) (known_with c.clauses lemmas) view.entries e old.stands (record { free = free; founded = founded_of (starting_at s R) c here l by legal.may.may }) (short (length lemmas) (length view.entries) (spent n) n.limit old.room less old.limit);
      founded = decisions_more (known_with c.clauses lemmas) view.entries e old.founded (λ none. settled_of (starting_at s R) c here l by legal.may.may none);
      solved = solved_more (rows_of c) view.entries e old.solved legal.solved;
      follow = old.follow;
      light = old.light;
      tally = tally_literal moves n l by old.tally;
      counted = conflicts_charged n by ∙ old.counted;
      room = longer (length lemmas) view.entries e (spent n) (spent (charged (charge_of by) n)) (spent_charged n by) old.room;
      limit = subst (λ (k : ℕ). k ≤ 2 ^ 31) (sym (limit_charged n by)) old.limit;
    }
  where
    short : (a b spent limit : ℕ) → a + b ≤ spent → spent < limit → limit ≤ 2 ^ 31 → b + 1 < 2 ^ 32
    short a b spent limit room less few = omega arith

    longer : (a : ℕ) (trail : List Entry) (e : Entry) (m k : ℕ) → k ≡ m + 1 → a + length trail ≤ m → a + length (trail ++ e ∷ []) ≤ k
    longer a trail e m k is room = simp length-append (omega arith)

same_contradiction : (rows rows' : Rows) (told lits : List Lit) (parts : List Part) → rows ≡ rows' → told ≡ lits → IsContradiction rows told parts
    → IsContradiction rows' lits parts
same_contradiction rows rows' told lits parts e f is = subst (λ (r : Rows). IsContradiction r lits parts) e (subst (λ (ls : List Lit). IsContradiction rows ls parts) f is)

clash_of : {S : Type 0} (R : Relations S) (c : Clauses) (s : S) (view : View) (lemmas : List Lemma) (moves : List Move) (last : Last) (seen : TheoryView S)
    (n : Counts) (parts : List Part) → view.atoms ≡ length c.atoms → IsUnderway R c s view.entries lemmas moves last seen n → (last ≡ cut → ⊥)
    → HasClash R seen parts → IsClash R c s view lemmas moves seen n parts
clash_of R c s view lemmas moves last seen n parts atoms old moved clash = record {
  last = last;
  atoms = atoms;
  underway = old;
  few = clash.few;
  contradiction = same_contradiction seen.rows (rows_of c) seen.told (literals view.entries) parts old.rows old.told clash.contradiction;
  fits = subst (λ (r : Rows). SumsFit r parts) old.rows clash.fits;
  clash = clash.clash;
  moved = moved;
}

abbrev longer_by : View → Lit → Option ℕ → View
longer_by view l by = record { atoms = view.atoms; entries = view.entries ++ record { lit = l; by = by } ∷ [] }

-- the same course by its parts
same_asks : {S : Type 0} (R : Relations S) (c : Clauses) (s : S) (course : Course) (seen : TheoryView S) (n n' : Counts) (answer : Heard) → n ≡ n'
    → Asks R c s course seen n' answer → Asks R c s course seen n answer
same_asks R c s course seen n n' answer e asks = subst (λ (m : Counts). Asks R c s course seen m answer) (sym e) asks

told_stage : {S : Type 0} (R : Relations S) (c : Clauses) (s : S) (old new : Course) (seen seen' : TheoryView S) (n : Counts) (l : Lit) (by : Option ℕ)
    → IsLegal R c s old.trail old.lemmas old.journal.moves seen n l by → Putting old l by new → spent n < n.limit → TookLiteral R seen l seen'
    → (new.trail.atoms ≡ length c.atoms) × IsUnderway R c s new.trail.entries new.lemmas new.journal.moves literal seen' (charged (charge_of by) n)
told_stage R c s old new seen seen' n l by legal put less took = (
  ap (λ (v : View). v.atoms) put.trail ∙ legal.atoms,
  subst (λ (v : View). IsUnderway R c s v.entries new.lemmas new.journal.moves literal seen' (charged (charge_of by) n)) (sym put.trail) (
      subst (λ (ls : List Lemma). IsUnderway R c s (old.trail.entries ++ record { lit = l; by = by } ∷ []) ls new.journal.moves literal seen' (charged (charge_of by) n)) (sym put.lemmas) (
      subst (λ (ms : List Move). IsUnderway R c s (old.trail.entries ++ record { lit = l; by = by } ∷ []) old.lemmas ms literal seen' (charged (charge_of by) n)) (sym put.moves) (
      told_on R c s old.trail old.lemmas old.journal.moves seen seen' n l by legal less took))),
)

in_told : {S : Type 0} (R : Relations S) (c : Clauses) (s : S) (trail : List Entry) (lemmas : List Lemma) (seen : TheoryView S) (phase : Phase) → phase ≡ Told
    → seen.owes ≡ false → (R.contradicts seen.state → ⊥) → IsInPhase R c s trail lemmas literal seen phase
in_told R c s trail lemmas seen Told e owes calm = (owes, calm, inl refl)
in_told R c s trail lemmas seen Checked e owes calm = absurd (cc)
in_told R c s trail lemmas seen Cut e owes calm = absurd (cc)

stuck_told : {S : Type 0} (R : Relations S) (c : Clauses) (s : S) (old new : Course) (seen : TheoryView S) (n : Counts) (l : Lit) (by : Option ℕ) (k : Stuck)
    → IsLegal R c s old.trail old.lemmas old.journal.moves seen n l by → Putting old l by new
    → (R.stuck_in_literal seen.state l k) ⊎ ((t : S) × R.after_literal seen.state l t × R.stuck_at t k)
    → IsStuck (starting_at s R) c (charged (charge_of by) n) k new.journal.moves
stuck_told {S} R c s old new seen n l by k legal put stuck =
    subst (λ (ms : List Move). IsStuck (starting_at s R) c (charged (charge_of by) n) k ms) (sym put.moves) (record {
      sticks = sticks_of (starting_at s R) c (old.journal.moves ++ move_of l by ∷ []) k (sticks stuck);
      learned = sticks stuck;
      tally = tally_literal old.journal.moves n l by legal.underway.tally;
    })
  where
    here : Reached S
    here = place old.trail.entries old.lemmas seen.state legal.last

    sticks : (R.stuck_in_literal seen.state l k) ⊎ ((t : S) × R.after_literal seen.state l t × R.stuck_at t k)
        → SticksLearning (starting_at s R) c (old.journal.moves ++ move_of l by ∷ []) k
    sticks (inl now) = inr (old.journal.moves, move_of l by, here, refl, legal.underway.legal, legal.may, sticks_in (starting_at s R) c seen.state l by k now)
    sticks (inr later) = inl (
      place (old.trail.entries ++ record { lit = l; by = by } ∷ []) old.lemmas later.0 literal,
      reaches_more (starting_at s R) c old.journal.moves (move_of l by) here (place (old.trail.entries ++ record { lit = l; by = by } ∷ []) old.lemmas later.0 literal) legal.underway.legal legal.may (leads_of (starting_at s R) c old.trail.entries old.lemmas seen.state later.0 legal.last l by later.1),
      later.2,
    )

pub asks_told : {S : Type 0} (R : Relations S) (c : Clauses) (s : S) (old new : Course) (seen seen' : TheoryView S) (n n' : Counts) (l : Lit) (by : Option ℕ)
    (answer : Heard) → IsLegal R c s old.trail old.lemmas old.journal.moves seen n l by → Putting old l by new → n' ≡ charged (charge_of by) n
    → nat_lt (spent n) n.limit ≡ true → HearsLiteralAtWork R seen l answer seen' → Asks R c s new seen' n' answer
asks_told {S} R c s old new seen seen' n n' l by answer legal put counted room hears =
    same_asks R c s new seen' n' (charged (charge_of by) n) answer counted (by_answer answer hears)
  where
    less : spent n < n.limit
    less = ltb-true (spent n) n.limit room

    by_answer : (a : Heard) → HearsLiteralAtWork R seen l a seen' → Asks R c s new seen' (charged (charge_of by) n) a
    by_answer heard.Fine (took, owes, calm) =
        let stage = told_stage R c s old new seen seen' n l by legal put less took in
        record { last = literal; atoms = stage.0; underway = stage.1; in_phase = in_told R c s new.trail.entries new.lemmas seen' new.phase put.phase owes calm }
    by_answer (heard.Clash parts) (took, owes, clash) =
        let stage = told_stage R c s old new seen seen' n l by legal put less took in
        clash_of R c s new.trail new.lemmas new.journal.moves literal seen' (charged (charge_of by) n) parts stage.0 stage.1 literal_not_cut clash
    by_answer heard.Spent h = absurd h
    by_answer (heard.Stuck k) (rest, rows, stuck) = stuck_told R c s old new seen n l by k legal put stuck
    by_answer heard.NoMemory h = tt

-- the budget refuses the literal
pub asks_refused : {S : Type 0} (R : Relations S) (c : Clauses) (s : S) (view : View) (lemmas : List Lemma) (moves : List Move) (seen : TheoryView S)
    (n n' : Counts) (l : Lit) (by : Option ℕ) → IsLegal R c s view lemmas moves seen n l by → n' ≡ n → spent n ≡ n.limit
    → IsSpent (starting_at s R) c n' moves
asks_refused R c s view lemmas moves seen n n' l by legal same all =
    subst (λ (m : Counts). IsSpent (starting_at s R) c m moves) (sym same) (record {
      goes_on = open_of (starting_at s R) c moves more;
      learned = more;
      all = charged_spent (starting_at s R) c moves n legal.underway.tally ∙ all;
      tally = legal.underway.tally;
    })
  where
    more : IsOpenLearning (starting_at s R) c moves
    more = (place view.entries lemmas seen.state legal.last, move_of l by, legal.underway.legal, charged_move (starting_at s R) c l by, legal.may)

-- ---- after a check

pivoted : {S : Type 0} (R : Relations S) (c : Clauses) (s : S) (view : View) (lemmas : List Lemma) (moves : List Move) (seen : TheoryView S) (n : Counts)
    → ((t : S) (b o : ℕ) → R.allowed_pivot t b o → R.violated t) → IsStage R c s view lemmas moves Told seen n
    → IsPivoted R c s view.entries lemmas moves seen.state
pivoted R c s view lemmas moves seen n mend stage = record {
  last = stage.last;
  reached = stage.underway.legal;
  moved = elim stage.in_phase.2 [ inl e ↦ λ t. literal_not_cut (sym e ∙ t) | inr both ↦ λ t. nothing_not_cut (sym both.0 ∙ t) ];
  calm = λ e. stage.in_phase.1;
  turn = λ b o allowed. elim stage.in_phase.2 [ inl e ↦ inl e | inr both ↦ absurd (both.1 (mend seen.state b o allowed)) ];
}

made_on : {S : Type 0} (R : Relations S) (c : Clauses) (s : S) (view : View) (lemmas : List Lemma) (moves : List Move) (seen new : TheoryView S) (n : Counts)
    (ps : List (ℕ × ℕ)) → ((t : S) (b o : ℕ) → R.allowed_pivot t b o → R.violated t) → IsStage R c s view lemmas moves Told seen n → MadePivots R seen ps new
    → (last : Last) × IsUnderway R c s view.entries lemmas (moves ++ map pivot_of ps) last new (with_pivots n (length ps)) × (last ≡ cut → ⊥)
made_on R c s view lemmas moves seen new n ps mend stage made =
    let old = stage.underway in
    let there = pivots_made R c s view.entries lemmas ps moves seen.state new.state (pivoted R c s view lemmas moves seen n mend stage) made.state in (
      there.last,
      record {
        formed = old.formed;
        legal = there.reached;
        told = made.told ∙ old.told;
        rows = made.rows ∙ old.rows;
        at_work = made.rest;
        once = old.once;
        stands = old.stands;
        founded = old.founded;
        solved = old.solved;
        follow = old.follow;
        light = old.light;
        tally = tally_pivots moves n ps old.tally;
        counted = old.counted;
        room = (let room = old.room in omega arith);
        limit = old.limit;
      },
      there.moved,
    )

in_checked : {S : Type 0} (R : Relations S) (c : Clauses) (s : S) (trail : List Entry) (lemmas : List Lemma) (last : Last) (seen : TheoryView S) (phase : Phase)
    → phase ≡ Checked → seen.owes ≡ false → (R.contradicts seen.state → ⊥) → (R.violated seen.state → ⊥) → seen.fine ≡ true → HasSolution seen.rows seen.told
    → (last ≡ cut → ⊥) → IsInPhase R c s trail lemmas last seen phase
in_checked R c s trail lemmas last seen Told e owes calm still fine solved moved = absurd (cc)
in_checked R c s trail lemmas last seen Checked e owes calm still fine solved moved = (owes, calm, still, fine, solved, moved)
in_checked R c s trail lemmas last seen Cut e owes calm still fine solved moved = absurd (cc)

pub asks_checked : {S : Type 0} (R : Relations S) (c : Clauses) (s : S) (old new : Course) (seen seen' : TheoryView S) (n n' : Counts) (ps : List (ℕ × ℕ))
    (answer : Heard) → ((t : S) (b o : ℕ) → R.allowed_pivot t b o → R.violated t) → old.phase ≡ Told
    → IsStage R c s old.trail old.lemmas old.journal.moves old.phase seen n → new.trail ≡ old.trail → new.lemmas ≡ old.lemmas
    → new.journal.moves ≡ old.journal.moves ++ map pivot_of ps → (answer ≡ heard.Fine → new.phase ≡ Checked) → n' ≡ with_pivots n (length ps)
    → HearsCheckAtWork R seen ps answer seen' n' → Asks R c s new seen' n' answer
asks_checked {S} R c s old new seen seen' n n' ps answer mend was before trail lemmas moves checked counted hears =
    same_asks R c s new seen' n' (with_pivots n (length ps)) answer counted (by_answer answer checked (subst (λ (m : Counts). HearsCheckAtWork R seen ps answer seen' m) counted hears))
  where
    stage : IsStage R c s old.trail old.lemmas old.journal.moves Told seen n
    stage = subst (λ (p : Phase). IsStage R c s old.trail old.lemmas old.journal.moves p seen n) was before

    atoms : new.trail.atoms ≡ length c.atoms
    atoms = ap (λ (v : View). v.atoms) trail ∙ before.atoms

    on : MadePivots R seen ps seen'
        → (last : Last) × IsUnderway R c s new.trail.entries new.lemmas new.journal.moves last seen' (with_pivots n (length ps)) × (last ≡ cut → ⊥)
    on made =
        let there = made_on R c s old.trail old.lemmas old.journal.moves seen seen' n ps mend stage made in (
          there.0,
          subst (λ (v : View). IsUnderway R c s v.entries new.lemmas new.journal.moves there.0 seen' (with_pivots n (length ps))) (sym trail) (
              subst (λ (ls : List Lemma). IsUnderway R c s old.trail.entries ls new.journal.moves there.0 seen' (with_pivots n (length ps))) (sym lemmas) (
              subst (λ (ms : List Move). IsUnderway R c s old.trail.entries old.lemmas ms there.0 seen' (with_pivots n (length ps))) (sym moves) there.1)),
          there.2,
        )

    by_answer : (a : Heard) → (a ≡ heard.Fine → new.phase ≡ Checked) → HearsCheckAtWork R seen ps a seen' (with_pivots n (length ps))
        → Asks R c s new seen' (with_pivots n (length ps)) a
    by_answer heard.Fine phase (made, fine, owes, calm, still, solved) =
        let there = on made in
        record { last = there.0; atoms = atoms; underway = there.1; in_phase = in_checked R c s new.trail.entries new.lemmas there.0 seen' new.phase (phase refl) owes calm still fine solved there.2 }
    by_answer (heard.Clash parts) phase (made, fine, owes, clash) =
        let there = on made in
        clash_of R c s new.trail new.lemmas new.journal.moves there.0 seen' (with_pivots n (length ps)) parts atoms there.1 there.2 clash
    by_answer heard.Spent phase (made, fine, owes, all, (b, o, allowed)) =
        let there = pivots_made R c s old.trail.entries old.lemmas ps old.journal.moves seen.state seen'.state (pivoted R c s old.trail old.lemmas old.journal.moves seen n mend stage) made.state in
        let more : IsPivoted R c s old.trail.entries old.lemmas (old.journal.moves ++ map pivot_of ps) seen'.state → IsOpenLearning (starting_at s R) c (old.journal.moves ++ map pivot_of ps) = λ here. (place old.trail.entries old.lemmas seen'.state here.last, Pivot b o, here.reached, refl, may_pivot R c s old.trail.entries old.lemmas (old.journal.moves ++ map pivot_of ps) seen'.state here b o allowed) in
        let tally = tally_pivots old.journal.moves n ps before.underway.tally in
        subst (λ (ms : List Move). IsSpent (starting_at s R) c (with_pivots n (length ps)) ms) (sym moves) (record {
          goes_on = open_of (starting_at s R) c (old.journal.moves ++ map pivot_of ps) (more there);
          learned = more there;
          all = charged_spent (starting_at s R) c (old.journal.moves ++ map pivot_of ps) (with_pivots n (length ps)) tally ∙ all;
          tally = tally;
        })
    by_answer (heard.Stuck k) phase (rest, rows, stuck) =
        let after = sticks_after R c s old.trail.entries old.lemmas ps old.journal.moves seen.state k (pivoted R c s old.trail old.lemmas old.journal.moves seen n mend stage) in
        subst (λ (ms : List Move). IsStuck (starting_at s R) c (with_pivots n (length ps)) k ms) (sym moves) (record {
          sticks = sticks_of (starting_at s R) c (old.journal.moves ++ map pivot_of ps) k (after stuck);
          learned = after stuck;
          tally = tally_pivots old.journal.moves n ps before.underway.tally;
        })
    by_answer heard.NoMemory phase h = tt

-- ---- less work is left

less_told_at : (limit limit' spent spent' t t' w w' : ℕ) → limit' ≡ limit → spent' ≡ spent + 1 → spent < limit → t' ≡ t + 1 → w' ≡ 1
    → 2 * (2 * (limit' - spent') + t') + w' < 2 * (2 * (limit - spent) + t) + w
less_told_at limit limit' spent spent' t t' w w' a b c d e = omega arith

clash_told_at : (limit limit' spent spent' t t' w : ℕ) → limit' ≡ limit → spent' ≡ spent + 1 → spent < limit → t' ≡ t + 1
    → 2 * (2 * (limit' - spent') + t') ≤ 2 * (2 * (limit - spent) + t) + w
clash_told_at limit limit' spent spent' t t' w a b c d = omega arith

pub less_told : (old new : Course) (n n' : Counts) (l : Lit) (by : Option ℕ) (answer : Heard) → Putting old l by new → n' ≡ charged (charge_of by) n
    → nat_lt (spent n) n.limit ≡ true → LeavesLess (work_left old n) new n' answer
less_told old new n n' l by answer put counted room = by_answer answer
  where
    less : spent n < n.limit
    less = ltb-true (spent n) n.limit room

    limit : n'.limit ≡ n.limit
    limit = ap (λ (m : Counts). m.limit) counted ∙ limit_charged n by

    one : spent n' ≡ spent n + 1
    one = ap (λ (m : Counts). spent m) counted ∙ spent_charged n by

    longer : length new.trail.entries ≡ length old.trail.entries + 1
    longer = ap (λ (v : View). length v.entries) put.trail ∙ length-append old.trail.entries (record { lit = l; by = by } ∷ [])

    by_answer : (a : Heard) → LeavesLess (work_left old n) new n' a
    by_answer heard.Fine = less_told_at n.limit n'.limit (spent n) (spent n') (length old.trail.entries) (length new.trail.entries) (weight old.phase) (weight new.phase) limit one less longer (ap weight put.phase)
    by_answer (heard.Clash parts) = clash_told_at n.limit n'.limit (spent n) (spent n') (length old.trail.entries) (length new.trail.entries) (weight old.phase) limit one less longer
    by_answer heard.Spent = tt
    by_answer (heard.Stuck k) = tt
    by_answer heard.NoMemory = tt

less_checked_at : (limit limit' spent spent' t t' w w' k : ℕ) → limit' ≡ limit → spent' ≡ spent + k → t' ≡ t → w ≡ 1 → w' ≡ 0
    → 2 * (2 * (limit' - spent') + t') + w' < 2 * (2 * (limit - spent) + t) + w
less_checked_at limit limit' spent spent' t t' w w' k a b c d e = omega arith

clash_checked_at : (limit limit' spent spent' t t' w k : ℕ) → limit' ≡ limit → spent' ≡ spent + k → t' ≡ t
    → 2 * (2 * (limit' - spent') + t') ≤ 2 * (2 * (limit - spent) + t) + w
clash_checked_at limit limit' spent spent' t t' w k a b c = omega arith

pub less_checked : (old new : Course) (n n' : Counts) (k : ℕ) (answer : Heard) → old.phase ≡ Told → new.trail ≡ old.trail
    → (answer ≡ heard.Fine → new.phase ≡ Checked) → n' ≡ with_pivots n k → LeavesLess (work_left old n) new n' answer
less_checked old new n n' k answer was trail checked counted = by_answer answer checked
  where
    limit : n'.limit ≡ n.limit
    limit = ap (λ (m : Counts). m.limit) counted

    more : spent n' ≡ spent n + k
    more = ap (λ (m : Counts). spent m) counted ∙ sums n.decisions n.propagations n.pivots
      where
        sums : (d p v : ℕ) → d + p + (v + k) ≡ d + p + v + k
        sums d p v = omega arith

    same : length new.trail.entries ≡ length old.trail.entries
    same = ap (λ (v : View). length v.entries) trail

    by_answer : (a : Heard) → (a ≡ heard.Fine → new.phase ≡ Checked) → LeavesLess (work_left old n) new n' a
    by_answer heard.Fine phase = less_checked_at n.limit n'.limit (spent n) (spent n') (length old.trail.entries) (length new.trail.entries) (weight old.phase) (weight new.phase) k limit more same (ap weight was) (ap weight (phase refl))
    by_answer (heard.Clash parts) phase = clash_checked_at n.limit n'.limit (spent n) (spent n') (length old.trail.entries) (length new.trail.entries) (weight old.phase) k limit more same
    by_answer heard.Spent phase = tt
    by_answer (heard.Stuck j) phase = tt
    by_answer heard.NoMemory phase = tt

-- ---- over what the calls answer

all_spent : (a b : ℕ) → nat_lt a b ≡ false → a ≤ b → a ≡ b
all_spent a b none within = let more : b ≤ a = ltb-false a b none in omega arith

pub refused_at : {S : Type 0} (R : Relations S) (c : Clauses) (s : S) (view : View) (lemmas : List Lemma) (moves : List Move) (seen : TheoryView S)
    (n n' : Counts) (l : Lit) (by : Option ℕ) (what : Charge) (went : Bool) → went ≡ nat_lt (spent n) n.limit → n' ≡ (if went then charged what n else n)
    → went ≡ false → spent n ≤ n.limit → IsLegal R c s view lemmas moves seen n l by → IsSpent (starting_at s R) c n' moves
refused_at R c s view lemmas moves seen n n' l by what went is counted refused within legal =
    asks_refused R c s view lemmas moves seen n n' l by legal (counted ∙ ap (λ (b : Bool). if b then charged what n else n) refused) (all_spent (spent n) n.limit (sym is ∙ refused) within)

pub charged_at : (n n' : Counts) (what what' : Charge) (went : Bool) → went ≡ nat_lt (spent n) n.limit → n' ≡ (if went then charged what n else n)
    → went ≡ true → what ≡ what' → (n' ≡ charged what' n) × (nat_lt (spent n) n.limit ≡ true)
charged_at n n' what what' went is counted true_is same =
    (counted ∙ ap (λ (b : Bool). if b then charged what n else n) true_is ∙ ap (λ (w : Charge). charged w n) same, sym is ∙ true_is)

pub told_rows : {S : Type 0} (R : Relations S) (seen seen' : TheoryView S) (l : Lit) (answer : Heard) → HearsLiteralAtWork R seen l answer seen'
    → seen'.rows ≡ seen.rows
told_rows R seen seen' l heard.Fine h = h.0.rows
told_rows R seen seen' l (heard.Clash parts) h = h.0.rows
told_rows R seen seen' l heard.Spent h = absurd h
told_rows R seen seen' l (heard.Stuck k) h = h.1
told_rows R seen seen' l heard.NoMemory h = h.1

pub checked_rows : {S : Type 0} (R : Relations S) (seen seen' : TheoryView S) (ps : List (ℕ × ℕ)) (answer : Heard) (n : Counts)
    → HearsCheckAtWork R seen ps answer seen' n → seen'.rows ≡ seen.rows
checked_rows R seen seen' ps heard.Fine n h = h.0.rows
checked_rows R seen seen' ps (heard.Clash parts) n h = h.0.rows
checked_rows R seen seen' ps heard.Spent n h = h.0.rows
checked_rows R seen seen' ps (heard.Stuck k) n h = h.1
checked_rows R seen seen' ps heard.NoMemory n h = h.1
