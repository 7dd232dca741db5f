-- What may follow in a journal doesn't depend on what the openings are: with more openings, more is legal.
use Rattle.std.proofs.Common.{ℕ, List, [], ◌∷◌, inl, inr}
use Rattle.whole.specs.declared.answers.Stuck.{Stuck}
use Rattle.farkas_cert.specs.declared.journals.Move.{Move}
use Rattle.farkas_cert.specs.declared.journals.Move.TheVariants.{Decide, Propagate, Pivot, Conflict}
use Rattle.farkas_cert.specs.declared.literals.Lit.{Lit}
use Rattle.clause_form.specs.Journals.{IsOpen, Leads, MayMove, Moves, Reached, Reaches, Sticks, SticksIn}
use Rattle.clause_form.specs.Theories.{Relations}
use Rattle.clause_form.specs.declared.clauses.Clauses.{Clauses}
use Rattle.clause_search.specs.Lessons.{IsLesson, IsOpenLearning, Learns, MayLearn, ReachesLearning, SticksLearning, Teaches}
use Rattle.lra_solve.specs.Openings.{opening_with}

module _ {S : Type 0} (R : Relations S) (c : Clauses) (Few Many : S → Type 0) where
  may_so : (p : Reached S) (m : Move) → MayMove (opening_with Few R) c p m → MayMove (opening_with Many R) c p m
  may_so p (Decide l) may = may
  may_so p (Propagate l n) may = may
  may_so p (Pivot b o) may = may
  may_so p (Conflict clause keep) may = may

  leads_so : (p : Reached S) (m : Move) (q : Reached S) → Leads (opening_with Few R) c p m q → Leads (opening_with Many R) c p m q
  leads_so p (Decide l) q leads = leads
  leads_so p (Propagate l n) q leads = leads
  leads_so p (Pivot b o) q leads = leads
  leads_so p (Conflict clause keep) q leads = leads

  sticks_in_so : (s : S) (m : Move) (k : Stuck) → SticksIn (opening_with Few R) c s m k → SticksIn (opening_with Many R) c s m k
  sticks_in_so s (Decide l) k sticks = sticks
  sticks_in_so s (Propagate l n) k sticks = sticks
  sticks_in_so s (Pivot b o) k sticks = sticks
  sticks_in_so s (Conflict clause keep) k sticks = sticks

  moves_so : (p : Reached S) (ms : List Move) (q : Reached S) → Moves (opening_with Few R) c p ms q → Moves (opening_with Many R) c p ms q
  moves_so p [] q moves = moves
  moves_so p (m ∷ ms) q moves = (may_so p m moves.0, (moves.1.0, leads_so p m moves.1.0 moves.1.1, moves_so moves.1.0 ms q moves.1.2))

  lesson_so : (p : Reached S) (clause : List Lit) (keep : ℕ) → IsLesson (opening_with Few R) c p clause keep → IsLesson (opening_with Many R) c p clause keep
  lesson_so p clause keep lesson = record {
    start = lesson.start;
    false_start = lesson.false_start;
    level = lesson.level;
    decided = lesson.decided;
    last = lesson.last;
    point = lesson.point;
  }

  teaches_so : (p : Reached S) (m : Move) → Teaches (opening_with Few R) c p m → Teaches (opening_with Many R) c p m
  teaches_so p (Decide l) teaches = teaches
  teaches_so p (Propagate l n) teaches = teaches
  teaches_so p (Pivot b o) teaches = teaches
  teaches_so p (Conflict clause keep) teaches = lesson_so p clause keep teaches

  may_learn_so : (p : Reached S) (m : Move) → MayLearn (opening_with Few R) c p m → MayLearn (opening_with Many R) c p m
  may_learn_so p m may = record { may = may_so p m may.may; teaches = teaches_so p m may.teaches; heeds = may.heeds }

  learns_so : (p : Reached S) (ms : List Move) (q : Reached S) → Learns (opening_with Few R) c p ms q → Learns (opening_with Many R) c p ms q
  learns_so p [] q learns = learns
  learns_so p (m ∷ ms) q learns =
      (may_learn_so p m learns.0, (learns.1.0, leads_so p m learns.1.0 learns.1.1, learns_so learns.1.0 ms q learns.1.2))

  module _ (so : (s : S) → Few s → Many s) where
    pub reaches_so : (ms : List Move) (p : Reached S) → Reaches (opening_with Few R) c ms p → Reaches (opening_with Many R) c ms p
    reaches_so ms p reaches = (reaches.0, so reaches.0 reaches.1, moves_so _ ms p reaches.2)

    pub open_so : (ms : List Move) → IsOpen (opening_with Few R) c ms → IsOpen (opening_with Many R) c ms
    open_so ms opens = (opens.0, opens.1, reaches_so ms opens.0 opens.2, opens.3, may_so opens.0 opens.1 opens.4)

    pub sticks_so : (ms : List Move) (k : Stuck) → Sticks (opening_with Few R) c ms k → Sticks (opening_with Many R) c ms k
    sticks_so ms k (inl here) = inl (here.0, reaches_so ms here.0 here.1, here.2)
    sticks_so ms k (inr last) =
        inr (last.0, last.1, last.2, last.3, reaches_so last.0 last.2 last.4, may_so last.2 last.1 last.5, sticks_in_so last.2.state last.1 k last.6)

    pub reaches_learning_so : (ms : List Move) (p : Reached S) → ReachesLearning (opening_with Few R) c ms p → ReachesLearning (opening_with Many R) c ms p
    reaches_learning_so ms p reaches = (reaches.0, so reaches.0 reaches.1, learns_so _ ms p reaches.2)

    pub open_learning_so : (ms : List Move) → IsOpenLearning (opening_with Few R) c ms → IsOpenLearning (opening_with Many R) c ms
    open_learning_so ms opens = (opens.0, opens.1, reaches_learning_so ms opens.0 opens.2, opens.3, may_learn_so opens.0 opens.1 opens.4)

    pub sticks_learning_so : (ms : List Move) (k : Stuck) → SticksLearning (opening_with Few R) c ms k → SticksLearning (opening_with Many R) c ms k
    sticks_learning_so ms k (inl here) = inl (here.0, reaches_learning_so ms here.0 here.1, here.2)
    sticks_learning_so ms k (inr last) =
        inr (
          last.0,
          last.1,
          last.2,
          last.3,
          reaches_learning_so last.0 last.2 last.4,
          may_learn_so last.2 last.1 last.5,
          sticks_in_so last.2.state last.1 k last.6,
        )
