-- What is learned from a conflict ends the search or cuts its trail.
use Rattle.std.proofs.Common.{◌≡◌, ◌↔◌, IsTrue, ℕ, ◌+◌, ◌-◌, ◌*◌, ◌<◌, ◌≤◌, ◌^◌, nat_lt, Bool, true, false, inl, inr, List, [], ◌∷◌, ◌++◌, map, length, take, Some, slice_get, refl, sym, ◌∙◌, ap, subst, length-append, arith, if◌then◌else◌}
use Rattle.std.proofs.lemmas.Bool.{cases_lt, lt-ltb}
use Rattle.std.proofs.lemmas.List.{length-map}
use Rattle.whole.specs.Budget.{Counts, conflict_noted, spent}
use Rattle.farkas_cert.specs.Literals.{negation}
use Rattle.farkas_cert.specs.Trees.{Tree, derived, tree_of}
use Rattle.farkas_cert.specs.declared.certificates.Lemma.{Lemma}
use Rattle.farkas_cert.specs.declared.journals.Move.{Move}
use Rattle.farkas_cert.specs.declared.journals.Move.TheVariants.{Conflict}
use Rattle.farkas_cert.specs.declared.literals.Lit.{Lit}
use Rattle.farkas_cert.specs.declared.trees.Part.{Part}
use Rattle.clause_form.specs.declared.clauses.Clauses.{Clauses}
use Rattle.clause_form.specs.Derivations.{ArePartsOf, EndsEmpty, Follow, Has, IsFalseOn, NamesOnce, Rows, rows_of}
use Rattle.clause_form.specs.Journals.{AreAmong, DiffersFromEach, Entry, IsLearned, IsSettled, Last, cut, literals}
use Rattle.clause_form.specs.Theories.{Relations, TheoryView}
use Rattle.learned_clause.specs.Learning.{CutsTo, IsFalseStart, IsLearnedFrom, IsUnitOn}
use Rattle.learned_clause.specs.LightTrees.{IsLight}
use Rattle.learned_clause.specs.Resolutions.{AreFalseAt, IsLearnedBy, NoneFrom}
use Rattle.learned_clause.specs.Trails.{DecidedAt, IsTrail, known_with}
use Rattle.learned_clause.specs.declared.learning.Learned.{Learned}
use Rattle.learned_clause.specs.declared.learning.Start.{Start}
use Rattle.learned_clause.specs.declared.learning.Start.TheVariants.{Clause, Clash}
use Rattle.learned_clause.proofs.MemberLaws.{Has-negation}
use Rattle.learned_clause.proofs.PlaceLaws.{Has-front_place, place-Has}
use Rattle.clause_search.specs.declared.course.Course.{Course}
use Rattle.clause_search.specs.declared.course.Phase.{Phase}
use Rattle.clause_search.specs.declared.course.Phase.TheVariants.{Told, Checked, Cut}
use Rattle.clause_search.specs.Answers.{AreLight, starting_at}
use Rattle.clause_search.specs.Courses.{AreOpenAtDecisions, IsInPhase, IsStage, IsTaught, IsUnderway, clauses_of, place, weight, work_at_clash, work_left}
use Rattle.clause_search.specs.Lessons.{IsLesson, IsStartAt}
use Rattle.clause_search.specs.Opened.{Cutting}
use Rattle.clause_search.specs.Standings.{IsFalseAt}
use Rattle.clause_search.specs.Starts.{IsLearnedHere, IsStartHere}
use Rattle.clause_search.specs.declared.step.Step.{Step}
use Rattle.clause_search.specs.declared.step.Step.TheVariants as step
use Rattle.clause_search.specs.Steps.{IsConflict, IsCutting, IsRefuted, MayJump, Refutes, Steps}
use Rattle.clause_search.specs.Tables.{View}
use Rattle.clause_search.proofs.LiteralLaws.{false_has, has_atom, once_length, once_take, others_each, others_has, settled_at, settled_back, true_not_false}
use Rattle.clause_search.proofs.TrailLaws.{clauses_more, decisions_cut, ends_more, follow_more, get_either, known_more, length_take, lits_take, same_some, solved_cut, trail_cut}
use Rattle.clause_search.proofs.JournalLaws.{literal_not_cut, nothing_not_cut, reaches_more, tally_conflict}
use Rattle.clause_search.proofs.SolutionLaws.{no_clash}

-- ---- what is false at a conflict reaches its last decision

-- where no literal stands at or after a place, those that are false are so on the trail before it
false_before : (T : List Entry) (k : ℕ) (all lits : List Lit) → ((l : Lit) → Has l lits → Has l all) → NoneFrom T all k → IsFalseOn (literals T) lits
    → IsFalseOn (literals (take k T)) lits
false_before T k all [] inside none f = tt
false_before T k all (l ∷ ls) inside none f = (before (place-Has (negation l) T f.0), false_before T k all ls (λ m h. inside m (inr h)) none f.1)
  where
    before : ((j : ℕ) × (e : Entry) × (slice_get T j ≡ Some e) × (e.lit ≡ negation l)) → Has (negation l) (literals (take k T))
    before (j, e, g, is) = elim (cases_lt j k) [
      | inl less ↦ subst (λ (m : Lit). Has m (literals (take k T))) is (Has-front_place T k j e g less)
      | inr more ↦ absurd (none j more (l, inside l (inl refl), (e, g, ap (λ (m : Lit). m.atom) is)))
    ]

-- and so with the literals of rows
parts_before : (rows : Rows) (T : List Entry) (k : ℕ) (all : List Lit) (parts : List Part)
    → ((l : Lit) → Has l (map (λ p. p.lit) parts) → Has (negation l) all) → NoneFrom T all k → ArePartsOf rows (literals T) parts
    → ArePartsOf rows (literals (take k T)) parts
parts_before rows T k all [] inside none are = tt
parts_before rows T k all (p ∷ ps) inside none are =
    (are.0, before (place-Has p.lit T are.1), are.2, parts_before rows T k all ps (λ m h. inside m (inr h)) none are.3)
  where
    before : ((j : ℕ) × (e : Entry) × (slice_get T j ≡ Some e) × (e.lit ≡ p.lit)) → Has p.lit (literals (take k T))
    before (j, e, g, is) = elim (cases_lt j k) [
      | inl less ↦ subst (λ (m : Lit). Has m (literals (take k T))) is (Has-front_place T k j e g less)
      | inr more ↦ absurd (none j more (negation p.lit, inside p.lit (inl refl), (e, g, ap (λ (m : Lit). m.atom) is)))
    ]

-- straight after a conflict no clause is false
taught_not_false : (known : List (List Lit)) (lits : List Lit) (n : ℕ) (clause : List Lit) → IsTaught known lits → slice_get known n ≡ Some clause
    → IsFalseOn lits clause → ⊥
taught_not_false known lits n clause taught is f = elim (get_either taught.before taught.lemma n clause (subst (λ (ks : List (List Lit)). slice_get ks n ≡ Some clause) taught.is is)) [
  | inl before ↦ (settled_at taught.before lits n clause taught.settled before).not_false f
  | inr at ↦ taught.single.off (has_atom (negation taught.single.late) lits (false_has lits taught.lemma taught.single.late (subst (λ (ls : List Lit). IsFalseOn lits ls) (sym at.1) f) taught.single.has))
]

-- ---- what a conflict begins with

pub record IsBegun {S : Type 0} (R : Relations S) (c : Clauses) (s : S) (view : View) (lemmas : List Lemma) (moves : List Move) (seen : TheoryView S) (n : Counts) (start : Start) : Type 0 where
  pub last : Last
  pub atoms : view.atoms ≡ length c.atoms
  pub underway : IsUnderway R c s view.entries lemmas moves last seen n
  pub false_start : IsFalseStart (rows_of c) (known_with c.clauses lemmas) (literals view.entries) start
  pub moved : last ≡ cut → ⊥
  pub starts : (lits : List Lit) → AreFalseAt (known_with c.clauses lemmas) start lits
      → IsStartAt (starting_at s R) c (place view.entries lemmas seen.state last) lits
  pub reaches : (lits : List Lit) → AreFalseAt (known_with c.clauses lemmas) start lits → (k : ℕ) → DecidedAt view.entries k → NoneFrom view.entries lits k → ⊥

moved_at : {S : Type 0} (R : Relations S) (c : Clauses) (s : S) (trail : List Entry) (lemmas : List Lemma) (last : Last) (seen : TheoryView S) (phase : Phase)
    (number : ℕ) → IsInPhase R c s trail lemmas last seen phase → IsFalseAt (known_with c.clauses lemmas) (literals trail) number → last ≡ cut → ⊥
moved_at R c s trail lemmas last seen Told number is fails e = elim is.2 [ inl l ↦ literal_not_cut (sym l ∙ e) | inr both ↦ nothing_not_cut (sym both.0 ∙ e) ]
moved_at R c s trail lemmas last seen Checked number is fails e = is.5 e
moved_at R c s trail lemmas last seen Cut number is fails e = taught_not_false (known_with c.clauses lemmas) (literals trail) number fails.clause is.2 fails.is fails.false_here

pub conflict_begun : {S : Type 0} (R : Relations S) (c : Clauses) (s : S) (course : Course) (seen : TheoryView S) (n : Counts) (start : Start)
    → IsConflict R c s course seen n start → IsBegun R c s course.trail course.lemmas course.journal.moves seen n start
conflict_begun R c s course seen n (Clause number) (at, fails) = record {
  last = at.last;
  atoms = at.atoms;
  underway = at.underway;
  false_start = (fails.clause, fails.is, fails.false_here);
  moved = moved_at R c s course.trail.entries course.lemmas at.last seen course.phase number at.in_phase fails;
  starts = λ lits is. inl (number, is, false_at lits is);
  reaches = λ lits is k decided none. (settled_at (known_with c.clauses course.lemmas) (literals (take k course.trail.entries)) number lits (at.underway.founded k decided) is).not_false (false_before course.trail.entries k lits lits (λ l h. h) none (false_at lits is));
}
  where
    false_at : (lits : List Lit) → slice_get (known_with c.clauses course.lemmas) number ≡ Some lits → IsFalseOn (literals course.trail.entries) lits
    false_at lits is = subst (λ (ls : List Lit). IsFalseOn (literals course.trail.entries) ls) (same_some fails.clause lits (sym fails.is ∙ is)) fails.false_here
conflict_begun R c s course seen n (Clash parts) at = record {
  last = at.last;
  atoms = at.atoms;
  underway = at.underway;
  false_start = (at.few, at.contradiction, at.fits);
  moved = at.moved;
  starts = λ lits is. inr (map (λ p. p.lit) parts, at.clash, is);
  reaches = λ lits is k decided none. no_clash c at.underway.formed (literals (take k course.trail.entries)) parts (at.underway.solved k decided) (record {
    rows = parts_before (rows_of c) course.trail.entries k lits parts (λ l h. subst (λ (ls : List Lit). Has (negation l) ls) (sym is) (Has-negation l (map (λ p. p.lit) parts) h)) none at.contradiction.rows;
    columns = at.contradiction.columns;
    bound = at.contradiction.bound;
  });
}

-- with another start that is false here
begun_at : {S : Type 0} (R : Relations S) (c : Clauses) (s : S) (view : View) (lemmas : List Lemma) (moves : List Move) (seen : TheoryView S) (n : Counts)
    (start : Start) (number : ℕ) → IsBegun R c s view lemmas moves seen n start → IsFalseAt (known_with c.clauses lemmas) (literals view.entries) number
    → IsBegun R c s view lemmas moves seen n (Clause number)
begun_at R c s view lemmas moves seen n start number begun fails = record {
  last = begun.last;
  atoms = begun.atoms;
  underway = begun.underway;
  false_start = (fails.clause, fails.is, fails.false_here);
  moved = begun.moved;
  starts = λ lits is. inl (number, is, false_at lits is);
  reaches = λ lits is k decided none. (settled_at (known_with c.clauses lemmas) (literals (take k view.entries)) number lits (begun.underway.founded k decided) is).not_false (false_before view.entries k lits lits (λ l h. h) none (false_at lits is));
}
  where
    false_at : (lits : List Lit) → slice_get (known_with c.clauses lemmas) number ≡ Some lits → IsFalseOn (literals view.entries) lits
    false_at lits is = subst (λ (ls : List Lit). IsFalseOn (literals view.entries) ls) (same_some fails.clause lits (sym fails.is ∙ is)) fails.false_here

pub begun_from : {S : Type 0} (R : Relations S) (c : Clauses) (s : S) (view : View) (lemmas : List Lemma) (moves : List Move) (seen : TheoryView S) (n : Counts)
    (start from : Start) → IsBegun R c s view lemmas moves seen n start → IsStartHere (known_with c.clauses lemmas) (literals view.entries) start from
    → IsBegun R c s view lemmas moves seen n from
begun_from R c s view lemmas moves seen n start from begun (inl same) = subst (λ (x : Start). IsBegun R c s view lemmas moves seen n x) (sym same) begun
begun_from R c s view lemmas moves seen n start from begun (inr (number, same, fails)) =
    subst (λ (x : Start). IsBegun R c s view lemmas moves seen n x) (sym same) (begun_at R c s view lemmas moves seen n start number begun fails)

pub trail_for : {S : Type 0} (R : Relations S) (c : Clauses) (s : S) (view : View) (lemmas : List Lemma) (moves : List Move) (seen : TheoryView S) (n : Counts)
    (start : Start) (ls : List Lemma) → IsBegun R c s view lemmas moves seen n start → ls ≡ lemmas
    → IsTrail (length c.atoms) (known_with c.clauses ls) view.entries
trail_for R c s view lemmas moves seen n start ls begun e =
    subst (λ (ms : List Lemma). IsTrail (length c.atoms) (known_with c.clauses ms) view.entries) (sym e) begun.underway.stands

pub start_for : {S : Type 0} (R : Relations S) (c : Clauses) (s : S) (view : View) (lemmas : List Lemma) (moves : List Move) (seen : TheoryView S) (n : Counts)
    (start : Start) (ls : List Lemma) → IsBegun R c s view lemmas moves seen n start → ls ≡ lemmas
    → IsFalseStart (rows_of c) (known_with c.clauses ls) (literals view.entries) start
start_for R c s view lemmas moves seen n start ls begun e =
    subst (λ (ms : List Lemma). IsFalseStart (rows_of c) (known_with c.clauses ms) (literals view.entries) start) (sym e) begun.false_start

-- how many clauses are known
pub few_known : {S : Type 0} (R : Relations S) (c : Clauses) (s : S) (trail : List Entry) (lemmas : List Lemma) (moves : List Move) (last : Last)
    (seen : TheoryView S) (n : Counts) → spent n ≤ n.limit → IsUnderway R c s trail lemmas moves last seen n → length (known_with c.clauses lemmas) < 2 ^ 32
few_known R c s trail lemmas moves last seen n within old =
    let size : length (clauses_of lemmas) ≡ length lemmas = length-map lemmas (λ (l : Lemma). l.clause) in
    let room = old.room in
    let limit = old.limit in
    let few = old.formed.few_clauses in
    simp length-append (omega arith)

pub few_for : {S : Type 0} (R : Relations S) (c : Clauses) (s : S) (view : View) (lemmas : List Lemma) (moves : List Move) (seen : TheoryView S) (n : Counts)
    (start : Start) (ls : List Lemma) → spent n ≤ n.limit → IsBegun R c s view lemmas moves seen n start → ls ≡ lemmas
    → length (known_with c.clauses ls) < 2 ^ 32
few_for R c s view lemmas moves seen n start ls within begun e =
    subst (λ (ms : List Lemma). length (known_with c.clauses ms) < 2 ^ 32) (sym e) (few_known R c s view.entries lemmas moves begun.last seen n within begun.underway)

pub learned_for : (c : Clauses) (view : View) (lemmas ls : List Lemma) (start : Start) (learned : Learned) → ls ≡ lemmas
    → IsLearnedHere (rows_of c) (known_with c.clauses ls) view.entries start learned
    → IsLearnedHere (rows_of c) (known_with c.clauses lemmas) view.entries start learned
learned_for c view lemmas ls start learned e here =
    subst (λ (ms : List Lemma). IsLearnedHere (rows_of c) (known_with c.clauses ms) view.entries start learned) e here

-- what is learned is the first unique implication point at the last decision
lesson_of : {S : Type 0} (R : Relations S) (c : Clauses) (s : S) (view : View) (lemmas : List Lemma) (moves : List Move) (seen : TheoryView S) (n : Counts)
    (start : Start) (clause : List Lit) (keep : ℕ) (begun : IsBegun R c s view lemmas moves seen n start)
    → IsLearnedBy (known_with c.clauses lemmas) view.entries start clause keep → (clause ≡ [] → ⊥)
    → IsLesson (starting_at s R) c (place view.entries lemmas seen.state begun.last) clause keep
lesson_of R c s view lemmas moves seen n start clause keep begun (lits, are, inl empty) some = absurd (some empty.1)
lesson_of R c s view lemmas moves seen n start clause keep begun (lits, are, inr (level, of, point)) some = record {
  start = lits;
  false_start = begun.starts lits are;
  level = level;
  decided = of.decided;
  last = λ k less decided. begun.reaches lits are k decided (of.last k less decided);
  point = point;
}

-- ---- light trees

light_more : (rows : Rows) (lemmas : List Lemma) (lemma : Lemma) → AreLight rows lemmas → IsLight rows 4096 (tree_of lemma.proof)
    → AreLight rows (lemmas ++ lemma ∷ [])
light_more rows [] lemma all light = (light, tt)
light_more rows (x ∷ xs) lemma all light = (all.0, light_more rows xs lemma all.1 light)

lighter : (rows : Rows) (n : ℕ) (tree : Tree) → n ≤ 4096 → IsLight rows n tree → IsLight rows 4096 tree
lighter rows n tree few light = record { shallow = (let deep = light.shallow in omega arith); leaves = light.leaves }

few_entries : {S : Type 0} (R : Relations S) (c : Clauses) (s : S) (trail : List Entry) (lemmas : List Lemma) (moves : List Move) (last : Last)
    (seen : TheoryView S) (n : Counts) → IsUnderway R c s trail lemmas moves last seen n → length trail ≤ 4096
few_entries R c s trail lemmas moves last seen n old =
    let short : length (literals trail) ≤ length c.atoms = once_length (length c.atoms) (literals trail) old.once in
    let same : length (literals trail) ≡ length trail = length-map trail (λ (e : Entry). e.lit) in
    let few = old.formed.few_atoms in
    omega arith

all_light : {S : Type 0} (R : Relations S) (c : Clauses) (s : S) (trail : List Entry) (lemmas : List Lemma) (moves : List Move) (last : Last)
    (seen : TheoryView S) (n : Counts) (lemma : Lemma) → IsUnderway R c s trail lemmas moves last seen n → IsLight (rows_of c) (length trail) (tree_of lemma.proof)
    → AreLight (rows_of c) (lemmas ++ lemma ∷ [])
all_light R c s trail lemmas moves last seen n lemma old light =
    light_more (rows_of c) lemmas lemma old.light (lighter (rows_of c) (length trail) (tree_of lemma.proof) (few_entries R c s trail lemmas moves last seen n old) light)

-- ---- the empty clause

pub refuted : {S : Type 0} (R : Relations S) (c : Clauses) (s : S) (view : View) (lemmas : List Lemma) (moves : List Move) (seen : TheoryView S) (n : Counts)
    (start : Start) (lemma : Lemma) (keep : ℕ) (new : Course) → spent n ≤ n.limit → IsBegun R c s view lemmas moves seen n start
    → IsLearnedFrom (rows_of c) (known_with c.clauses lemmas) view.entries lemma.clause (tree_of lemma.proof) keep → lemma.clause ≡ []
    → new.lemmas ≡ lemmas ++ lemma ∷ [] → IsRefuted R c s new
refuted R c s view lemmas moves seen n start lemma keep new within begun learned empty e = record {
  follow = subst (λ (ls : List Lemma). Follow (rows_of c) c.clauses (map derived ls)) (sym e) (follow_more (rows_of c) c.clauses lemmas lemma begun.underway.follow learned.once learned.follows);
  ends = subst (λ (ls : List Lemma). EndsEmpty (map derived ls)) (sym e) (ends_more lemmas lemma empty);
  light = subst (λ (ls : List Lemma). AreLight (rows_of c) ls) (sym e) (all_light R c s view.entries lemmas moves begun.last seen n lemma begun.underway learned.light);
  few = subst (λ (ls : List Lemma). length c.clauses + length ls ≤ 2 ^ 32) (sym e) (short (length c.clauses) lemmas lemma (length view.entries) (spent n) n.limit begun.underway.formed.few_clauses begun.underway.room within begun.underway.limit);
}
  where
    short : (clauses : ℕ) (ls : List Lemma) (l : Lemma) (t spent limit : ℕ) → clauses ≤ 1048576 → length ls + t ≤ spent → spent ≤ limit → limit ≤ 2 ^ 31
        → clauses + length (ls ++ l ∷ []) ≤ 2 ^ 32
    short clauses ls l t spent limit most room within few = simp length-append (omega arith)

-- ---- a cut

among_has : (xs ys : List Lit) (l : Lit) → AreAmong xs ys → Has l xs → Has l ys
among_has [] ys l among h = absurd h
among_has (x ∷ xs) ys l among (inl e) = subst (λ (m : Lit). Has m ys) (sym e) among.0
among_has (x ∷ xs) ys l among (inr h) = among_has xs ys l among.1 h

-- a unit clause is no clause that is neither false nor unit
differs : (lits clause : List Lit) (lemmas : List (List Lit)) → IsSettled lemmas lits → IsUnitOn lits clause → DiffersFromEach clause lemmas
differs lits clause [] settled single = tt
differs lits clause (lemma ∷ lemmas) settled single = (
  λ same. settled.0.not_unit single.late (among_has clause lemma single.late same.0 single.has) single.off (others_each lits lemma single.late (λ m h. others_has lits clause single.late m single.others (among_has lemma clause m same.1 h))),
  differs lits clause lemmas settled.1 single,
)

module _ {S : Type 0} (R : Relations S) (c : Clauses) (s : S) (view : View) (lemmas : List Lemma) (moves : List Move) (seen : TheoryView S) (n : Counts) (lemma : Lemma) (keep : ℕ) (jump : IsCutting R c s view lemmas moves seen n lemma keep) where
  may_learn : IsLearned c (place view.entries lemmas seen.state jump.last) lemma.clause keep
  may_learn = record {
    false_here = jump.learned.false_here;
    once = jump.learned.once;
    differs = differs (literals (take keep view.entries)) lemma.clause (clauses_of lemmas) (settled_back c.clauses (clauses_of lemmas) (literals (take keep view.entries)) (jump.underway.founded keep jump.cuts.decided)) jump.cuts.unit_after;
    follows = (tree_of lemma.proof, jump.learned.follows);
    cuts = jump.cuts.within;
  }

  taught : IsTaught (known_with c.clauses (lemmas ++ lemma ∷ [])) (literals (take keep view.entries))
  taught = record {
    before = known_with c.clauses lemmas;
    lemma = lemma.clause;
    is = known_more c.clauses lemmas lemma;
    settled = jump.underway.founded keep jump.cuts.decided;
    single = jump.cuts.unit_after;
  }

  kept : keep ≤ length view.entries
  kept = let within = jump.cuts.within in omega arith

  pub cut_on : (new : TheoryView S) → new.told ≡ take keep seen.told → R.after_undo seen.state keep new.state → new.rows ≡ seen.rows → new.rest ≡ seen.rest
      → IsUnderway R c s (take keep view.entries) (lemmas ++ lemma ∷ []) (moves ++ Conflict lemma.clause keep ∷ []) cut new (conflict_noted n)
  cut_on new told state rows rest =
      let old = jump.underway in record {
        formed = old.formed;
        legal = reaches_more (starting_at s R) c moves (Conflict lemma.clause keep) (place view.entries lemmas seen.state jump.last) (place (take keep view.entries) (lemmas ++ lemma ∷ []) new.state cut) old.legal (record { may = (may_learn, tt); teaches = jump.lesson; heeds = λ e. absurd (jump.moved e) }) (refl, clauses_more lemmas lemma, state, refl);
        told = told ∙ ap (take keep) old.told ∙ sym (lits_take view.entries keep);
        rows = rows ∙ old.rows;
        at_work = rest ∙ old.at_work;
        once = subst (λ (ls : List Lit). NamesOnce (length c.atoms) ls) (sym (lits_take view.entries keep)) (once_take (length c.atoms) keep (literals view.entries) old.once);
        stands = subst (λ (ks : List (List Lit)). IsTrail (length c.atoms) ks (take keep view.entries)) (sym (known_more c.clauses lemmas lemma)) (trail_cut (length c.atoms) (known_with c.clauses lemmas) (lemma.clause ∷ []) view.entries keep kept old.stands);
        founded = subst (λ (ks : List (List Lit)). AreOpenAtDecisions ks (take keep view.entries)) (sym (known_more c.clauses lemmas lemma)) (decisions_cut (known_with c.clauses lemmas) lemma.clause view.entries keep old.founded jump.cuts.open_before);
        solved = solved_cut (rows_of c) view.entries keep old.solved;
        follow = follow_more (rows_of c) c.clauses lemmas lemma old.follow jump.learned.once jump.learned.follows;
        light = all_light R c s view.entries lemmas moves jump.last seen n lemma old jump.learned.light;
        tally = tally_conflict moves n lemma.clause keep old.tally;
        counted = ap (λ (k : ℕ). k + 1) old.counted ∙ sym (length-append lemmas (lemma ∷ []));
        room = room_after lemmas lemma (length view.entries) (length (take keep view.entries)) (spent n) (length_take view.entries keep kept) jump.cuts.within old.room;
        limit = old.limit;
      }
    where
      room_after : (ls : List Lemma) (l : Lemma) (t k spent : ℕ) → k ≡ keep → keep < t → length ls + t ≤ spent → length (ls ++ l ∷ []) + k ≤ spent
      room_after ls l t k spent same within room = simp length-append (omega arith)

paid_after : (keep told : ℕ) (owed : Bool) → keep < told → (if nat_lt keep told then false else owed) ≡ false
paid_after keep told owed less = ap (λ (b : Bool). if b then false else owed) (lt-ltb keep told less)

in_cut : {S : Type 0} (R : Relations S) (c : Clauses) (s : S) (trail : List Entry) (lemmas : List Lemma) (seen : TheoryView S) (phase : Phase) → phase ≡ Cut
    → seen.owes ≡ false → IsTaught (known_with c.clauses lemmas) (literals trail) → IsInPhase R c s trail lemmas cut seen phase
in_cut R c s trail lemmas seen Told e owes taught = absurd (cc)
in_cut R c s trail lemmas seen Checked e owes taught = absurd (cc)
in_cut R c s trail lemmas seen Cut e owes taught = (owes, refl, taught)

pub cut_stage : {S : Type 0} (R : Relations S) (c : Clauses) (s : S) (old new : Course) (seen seen' : TheoryView S) (n n' : Counts) (lemma : Lemma)
    (keep number : ℕ) → IsCutting R c s old.trail old.lemmas old.journal.moves seen n lemma keep → Cutting old lemma keep number new → seen'.told ≡ take keep seen.told
    → R.after_undo seen.state keep seen'.state → seen'.rows ≡ seen.rows → seen'.rest ≡ seen.rest
    → seen'.owes ≡ (if nat_lt keep (length seen.told) then false else seen.owes) → n' ≡ conflict_noted n
    → IsStage R c s new.trail new.lemmas new.journal.moves new.phase seen' n'
cut_stage {S} R c s old new seen seen' n n' lemma keep number jump cutting told state rows rest owes counted =
    subst (λ (m : Counts). IsStage R c s new.trail new.lemmas new.journal.moves new.phase seen' m) (sym counted) (record {
      last = cut;
      atoms = ap (λ (v : View). v.atoms) cutting.trail ∙ jump.atoms;
      underway =
          subst (λ (v : View). IsUnderway R c s v.entries new.lemmas new.journal.moves cut seen' (conflict_noted n)) (sym cutting.trail) (
          subst (λ (ls : List Lemma). IsUnderway R c s (take keep old.trail.entries) ls new.journal.moves cut seen' (conflict_noted n)) (sym cutting.lemmas) (
          subst (λ (ms : List Move). IsUnderway R c s (take keep old.trail.entries) (old.lemmas ++ lemma ∷ []) ms cut seen' (conflict_noted n)) (sym cutting.moves) (
          cut_on R c s old.trail old.lemmas old.journal.moves seen n lemma keep jump seen' told state rows rest)));
      in_phase = in_cut R c s new.trail.entries new.lemmas seen' new.phase cutting.phase (owes ∙ paid_after keep (length seen.told) seen.owes short) (
          subst (λ (v : View). IsTaught (known_with c.clauses new.lemmas) (literals v.entries)) (sym cutting.trail) (
          subst (λ (ls : List Lemma). IsTaught (known_with c.clauses ls) (literals (take keep old.trail.entries))) (sym cutting.lemmas) (
          taught R c s old.trail old.lemmas old.journal.moves seen n lemma keep jump)));
    })
  where
    short : keep < length seen.told
    short = subst (λ (k : ℕ). keep < k) (sym (ap length jump.underway.told ∙ length-map old.trail.entries (λ (e : Entry). e.lit))) jump.cuts.within

less_cut_at : (limit limit' spent spent' t t' w' keep work : ℕ) → limit' ≡ limit → spent' ≡ spent → t' ≡ keep → keep < t → w' ≡ 0
    → 2 * (2 * (limit - spent) + t) ≤ work → 2 * (2 * (limit' - spent') + t') + w' < work
less_cut_at limit limit' spent spent' t t' w' keep work a b c d e f = omega arith

pub cut_less : (old new : Course) (n n' : Counts) (lemma : Lemma) (keep number work : ℕ) → keep < length old.trail.entries
    → Cutting old lemma keep number new
    → n' ≡ conflict_noted n → work_at_clash old n ≤ work → work_left new n' < work
cut_less old new n n' lemma keep number work within cutting counted most =
    less_cut_at n.limit n'.limit (spent n) (spent n') (length old.trail.entries) (length new.trail.entries) (weight new.phase) keep work (ap (λ (m : Counts). m.limit) counted) (ap (λ (m : Counts). spent m) counted) (ap (λ (v : View). length v.entries) cutting.trail ∙ length_take old.trail.entries keep (omega arith)) within (ap weight cutting.phase) most

-- what a cut needs before it
pub may_jump : {S : Type 0} (R : Relations S) (c : Clauses) (s : S) (view : View) (lemmas : List Lemma) (moves : List Move) (seen : TheoryView S) (n : Counts)
    (lemma : Lemma) (keep : ℕ) → spent n ≤ n.limit → IsCutting R c s view lemmas moves seen n lemma keep → MayJump (known_with c.clauses lemmas) seen n keep
may_jump R c s view lemmas moves seen n lemma keep within jump =
    let old = jump.underway in
    let size : length (clauses_of lemmas) ≡ length lemmas = length-map lemmas (λ (l : Lemma). l.clause) in
    let told : length seen.told ≡ length view.entries = ap length old.told ∙ length-map view.entries (λ (e : Entry). e.lit) in
    let room = old.room in
    let limit = old.limit in
    let few = old.formed.few_clauses in
    let counted = old.counted in
    let short = jump.cuts.within in
    record { few = simp length-append (omega arith); within = omega arith; counted = omega arith }

-- a clause that is learned and isn't empty cuts the trail
pub cuts_of : (c : Clauses) (known : List (List Lit)) (trail : List Entry) (clause : List Lit) (tree : Tree) (keep : ℕ)
    → IsLearnedFrom (rows_of c) known trail clause tree keep → (clause ≡ [] → ⊥) → CutsTo trail clause keep
cuts_of c known trail clause tree keep learned some = elim learned.cut [ inl e ↦ absurd (some e) | inr cuts ↦ cuts ]

pub jump_of : {S : Type 0} (R : Relations S) (c : Clauses) (s : S) (view : View) (lemmas : List Lemma) (moves : List Move) (seen : TheoryView S) (n : Counts)
    (start : Start) (lemma : Lemma) (keep : ℕ) → IsBegun R c s view lemmas moves seen n start
    → IsLearnedFrom (rows_of c) (known_with c.clauses lemmas) view.entries lemma.clause (tree_of lemma.proof) keep
    → IsLearnedBy (known_with c.clauses lemmas) view.entries start lemma.clause keep → (lemma.clause ≡ [] → ⊥)
    → IsCutting R c s view lemmas moves seen n lemma keep
jump_of R c s view lemmas moves seen n start lemma keep begun learned exact some = record {
  last = begun.last;
  atoms = begun.atoms;
  underway = begun.underway;
  learned = learned;
  cuts = cuts_of c (known_with c.clauses lemmas) view.entries lemma.clause (tree_of lemma.proof) keep learned some;
  moved = begun.moved;
  lesson = lesson_of R c s view lemmas moves seen n start lemma.clause keep begun exact some;
}

pub steps_refuted : {S : Type 0} (R : Relations S) (c : Clauses) (s : S) (work : ℕ) (old : List Lemma) (lemma : Lemma) (new : Course) (seen : TheoryView S)
    (n : Counts) (answer : Step) → Refutes old lemma new.lemmas answer → (new.lemmas ≡ old ++ lemma ∷ [] → IsRefuted R c s new)
    → Steps R c s work new seen n answer
steps_refuted R c s work old lemma new seen n step.GoesOn r closes = absurd r
steps_refuted R c s work old lemma new seen n step.Total r closes = absurd r
steps_refuted R c s work old lemma new seen n step.Closed r closes = closes r
steps_refuted R c s work old lemma new seen n step.Spent r closes = absurd r
steps_refuted R c s work old lemma new seen n (step.Stuck stuck) r closes = absurd r
steps_refuted R c s work old lemma new seen n step.NoMemory r closes = tt

pub true_of : {P : Type 0} (b : Bool) → IsTrue b ↔ P → b ≡ true → P
true_of b both e = both.0 e

pub false_of : {P : Type 0} (b : Bool) → IsTrue b ↔ P → b ≡ false → P → ⊥
false_of b both e p = true_not_false (sym (both.1 p) ∙ e)

pub most_work : (course : Course) (n : Counts) → work_at_clash course n ≤ work_left course n
most_work course n = more (work_at_clash course n) (weight course.phase)
  where
    more : (a b : ℕ) → a ≤ a + b
    more a b = omega arith
