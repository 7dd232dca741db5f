-- What a search begins with, and what each of its answers says.
use Rattle.std.specs.Prelude.{◌≡◌, ℕ, ◌+◌, ◌<◌, ◌≤◌, ◌^◌, Bool, true, false, List, [], ◌∷◌, length, slice_index_or}
use Rattle.whole.specs.Budget.{Counts, opening}
use Rattle.whole.specs.declared.answers.Stuck.{Stuck}
use Rattle.farkas_cert.specs.Trees.{tree_of}
use Rattle.farkas_cert.specs.declared.certificates.Cert.{Cert}
use Rattle.farkas_cert.specs.declared.certificates.Lemma.{Lemma}
use Rattle.farkas_cert.specs.declared.journals.Move.{Move}
use Rattle.farkas_cert.specs.declared.literals.Lit.{Lit}
use Rattle.cert_text.specs.Journals.{how_many, is_decide, is_propagate, is_pivot, is_conflict}
use Rattle.clause_form.specs.declared.clauses.Clauses.{Clauses}
use Rattle.clause_form.specs.Derivations.{Has, NamesOnce, Proves, Rows, rows_of}
use Rattle.clause_form.specs.Journals.{IsOpen, Reached, Reaches, Sticks, is_charged, literals}
use Rattle.clause_form.specs.Models.{Satisfies}
use Rattle.clause_form.specs.Theories.{HasSolution, Relations, TheoryView, works}
use Rattle.clause_form.specs.WellFormed.{IsWellFormed}
use Rattle.learned_clause.specs.LightTrees.{IsLight}
use Rattle.clause_search.specs.declared.found.Found.{Found}
use Rattle.clause_search.specs.declared.found.Found.TheVariants as found
use Rattle.clause_search.specs.declared.found.Until.{Until}
use Rattle.clause_search.specs.declared.found.Until.TheVariants as until
use Rattle.clause_search.specs.Lessons.{IsOpenLearning, ReachesLearning, SticksLearning}

-- the same relations, with this state as the only opening
abbrev pub starting_at : {S : Type 0} → S → Relations S → Relations S
starting_at s R = record R { opening = λ t. t ≡ s }

-- the theory stands for these clauses at an opening, nothing is told and nothing is spent
pub record IsStart {S : Type 0} (R : Relations S) (c : Clauses) (seen : TheoryView S) (n : Counts) : Type 0 where
  pub formed : IsWellFormed c
  pub rows : seen.rows ≡ rows_of c
  pub untold : seen.told ≡ []
  pub paid : seen.owes ≡ false
  pub at_work : seen.rest ≡ works
  pub opens : R.opening seen.state
  pub unspent : n ≡ opening n.limit
  pub limit : n.limit ≤ 2 ^ 31

-- the truth of an atom in a list of truths
abbrev pub truth_in : List Bool → ℕ → Bool
truth_in truths atom = slice_index_or truths atom false

-- these truths, each atom's once, are what was told
pub record IsAssignment (truths : List Bool) (told : List Lit) : Type 0 where
  pub once : NamesOnce (length truths) told
  pub each : (atom : ℕ) → atom < length truths → Has (record { atom = atom; positive = truth_in truths atom }) told

-- the counts are those of the moves
pub record IsTally (moves : List Move) (n : Counts) : Type 0 where
  pub decisions : n.decisions ≡ how_many is_decide moves
  pub propagations : n.propagations ≡ how_many is_propagate moves
  pub pivots : n.pivots ≡ how_many is_pivot moves
  pub conflicts : n.conflicts ≡ how_many is_conflict moves

-- each lemma's tree is one that a certificate's text can hold and a checker can add up
abbrev pub AreLight : Rows → List Lemma → Type 0
AreLight rows [] = Unit {0}
AreLight rows (lemma ∷ lemmas) = IsLight rows 4096 (tree_of lemma.proof) × AreLight rows lemmas

-- the theory's last answer was Fine
pub record IsCalm {S : Type 0} (R : Relations S) (seen : TheoryView S) : Type 0 where
  pub fine : seen.fine ≡ true
  pub paid : seen.owes ≡ false
  pub at_work : seen.rest ≡ works
  pub solution : HasSolution seen.rows seen.told
  pub calm : R.violated seen.state → ⊥

module _ {S : Type 0} (R : Relations S) (c : Clauses) where
  -- the moves reach a place with the literals told and the state of the theory, and each conflict among them learns
  pub record IsReached (moves : List Move) (seen : TheoryView S) : Type 0 where
    pub place : Reached S
    pub reached : Reaches R c moves place
    pub learned : ReachesLearning R c moves place
    pub state : place.state ≡ seen.state
    pub trail : literals place.trail ≡ seen.told

  -- a truth of each atom with which each clause is true, all told, and the theory's last answer was Fine
  pub record IsTotal (seen : TheoryView S) (n : Counts) (truths : List Bool) (moves : List Move) : Type 0 where
    pub atoms : length truths ≡ length c.atoms
    pub clauses : Satisfies (truth_in truths) c.clauses
    pub assignment : IsAssignment truths seen.told
    pub fine : seen.fine ≡ true
    pub paid : seen.owes ≡ false
    pub at_work : seen.rest ≡ works
    pub solution : HasSolution seen.rows seen.told
    pub calm : R.violated seen.state → ⊥
    pub reached : IsReached moves seen
    pub tally : IsTally moves n

  -- the search stands at a decision
  pub record IsStopped (seen : TheoryView S) (n : Counts) (moves : List Move) : Type 0 where
    pub calm : IsCalm R seen
    pub reached : IsReached moves seen
    pub tally : IsTally moves n

  -- no clause can be satisfied: the lemmas prove it
  pub record IsClosed (cert : Cert) : Type 0 where
    pub proves : Proves c cert
    pub few : length c.clauses + length cert.lemmas ≤ 2 ^ 32
    pub light : AreLight (rows_of c) cert.lemmas

  -- the budget is spent, and a further charged move may be made
  pub record IsSpent (n : Counts) (moves : List Move) : Type 0 where
    pub goes_on : IsOpen R c moves
    pub learned : IsOpenLearning R c moves
    pub all : how_many (is_charged R c) moves ≡ n.limit
    pub tally : IsTally moves n

  -- an operation overflowed, in the last move or at the place reached
  pub record IsStuck (n : Counts) (stuck : Stuck) (moves : List Move) : Type 0 where
    pub sticks : Sticks R c moves stuck
    pub learned : SticksLearning R c moves stuck
    pub tally : IsTally moves n

  -- what an answer says of the theory and the counts that it leaves
  abbrev pub Finds : TheoryView S → Counts → Found → Type 0
  Finds seen n (found.Total truths journal) = IsTotal seen n truths journal.moves
  Finds seen n (found.Closed cert) = IsClosed cert
  Finds seen n (found.Spent journal) = IsSpent n journal.moves
  Finds seen n (found.Stuck stuck journal) = IsStuck n stuck journal.moves
  Finds seen n found.NoMemory = Unit {0}

  -- the same of a search that may be stopped, with what its guide says of a stop
  abbrev pub FindsUntil : Type 0 → TheoryView S → Counts → Until → Type 0
  FindsUntil stop seen n (until.Stopped journal) = IsStopped seen n journal.moves × stop
  FindsUntil stop seen n (until.Found answer) = Finds seen n answer
