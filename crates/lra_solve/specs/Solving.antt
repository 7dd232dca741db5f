-- What the answers of a search over linear rows mean. A journal is legal for the clauses: it begins at the opening of the
-- theory of their rows, and each of its conflicts learns.
use Rattle.std.specs.Prelude.{◌≡◌, ℕ, ◌+◌, ◌^◌, ◌≤◌, pos, ◌≤ℤ◌, unsigned_abs, Bool, true, ◌⊎◌, List, length, All}
use Rattle.whole.specs.Budget.{counts}
use Rattle.whole.specs.Numbers.{IsWithin}
use Rattle.whole.specs.declared.answers.Stuck.{Stuck}
use Rattle.whole.specs.declared.budget.Budget.{Budget}
use Rattle.ordered_field.specs.Rational.{ℚ}
use Rattle.fraction.specs.Mixed.{kept_value, limit}
use Rattle.fraction.specs.declared.mixed.MixedFrac.{MixedFrac}
use Rattle.linear_form.specs.Sums.{entry}
use Rattle.farkas_cert.specs.declared.certificates.Cert.{Cert}
use Rattle.farkas_cert.specs.declared.journals.Move.{Move}
use Rattle.clause_form.specs.Derivations.{Proves, rows_of}
use Rattle.clause_form.specs.Journals.{IsOpen, Reached, Reaches, Sticks, literals}
use Rattle.clause_form.specs.Models.{IsModel, Satisfies}
use Rattle.clause_form.specs.Theories.{AreMet, HasSolution, Relations, TheoryView}
use Rattle.clause_form.specs.declared.clauses.Clauses.{Clauses}
use Rattle.cert_text.specs.Journals.{how_many, is_decide, is_pivot, is_propagate}
use Rattle.clause_search.specs.Answers.{AreLight, IsAssignment, IsTally, truth_in}
use Rattle.clause_search.specs.declared.found.Found.{Found}
use Rattle.clause_search.specs.declared.found.Found.TheVariants as found
use Rattle.clause_search.specs.Lessons.{IsOpenLearning, ReachesLearning, SticksLearning}
use Rattle.corner_values.specs.Faults.{IsStuckValue}
use Rattle.corner_values.specs.Values.{AreValuesAt}
use Rattle.corner_values.specs.declared.answer.Values.{Values}
use Rattle.lra_theory.specs.Relations.{HasViolated, IsOpeningOf, relations}
use Rattle.lra_theory.specs.Standings.{Standing, seen}
use Rattle.lra_theory.specs.States.{State}
use Rattle.lra_solve.specs.Openings.{opening_with}
use Rattle.lra_solve.specs.declared.solved.Solved.{Solved}
use Rattle.lra_solve.specs.declared.solved.Solved.TheVariants as solved
use Rattle.lra_solve.specs.declared.solved.Spent.{Spent}

-- the numbers of the tableau
abbrev pub value_of : MixedFrac → ℚ
value_of x = kept_value x.kept

-- how the states of the theory follow one another, from the opening of these clauses' rows on
abbrev pub theory_of : Clauses → Relations (State MixedFrac)
theory_of c = opening_with (IsOpeningOf limit value_of c) (relations limit value_of)

-- what a search sees of the theory
abbrev pub seen_of : Standing MixedFrac → TheoryView (State MixedFrac)
seen_of standing = seen value_of standing

-- the values at the corner of the theory's state, which meet the rows of the literals told
pub record AreValuesOf (s : TheoryView (State MixedFrac)) (values : Values) : Type 0 where
  pub at_corner : AreValuesAt s.state.corner values.over values.values
  pub met : AreMet s.rows (entry values.values) (unsigned_abs values.over) s.told
  pub count : length values.values ≡ s.rows.columns
  pub over_from : pos 1 ≤ℤ values.over
  pub each_in : All IsWithin values.values

-- the values of an assignment, or an operation of them that overflows
abbrev pub IsValued : TheoryView (State MixedFrac) → List Bool → Spent → Solved → Type 0
IsValued s truths spent (solved.Model values same kept) = (same ≡ truths) × (kept ≡ spent) × AreValuesOf s values
IsValued s truths spent (solved.Closed cert) = ⊥
IsValued s truths spent (solved.Spent kept) = ⊥
IsValued s truths spent (solved.Stuck stuck kept) = (kept ≡ spent) × IsStuckValue limit s.state.corner stuck
IsValued s truths spent solved.NoMemory = Unit {0}

-- the values may be asked for where an assignment is total
abbrev pub MayValue : TheoryView (State MixedFrac) → Found → Type 0
MayValue s (found.Total truths journal) = s.fine ≡ true
MayValue s (found.Closed cert) = Unit {0}
MayValue s (found.Spent journal) = Unit {0}
MayValue s (found.Stuck stuck journal) = Unit {0}
MayValue s found.NoMemory = Unit {0}

-- what a search found, as an answer: with the values of a total assignment, and with what was spent
abbrev pub Answers : TheoryView (State MixedFrac) → Budget → Found → Solved → Type 0
Answers s budget (found.Total truths journal) answer = IsValued s truths (record { budget = budget; journal = journal }) answer
Answers s budget (found.Closed cert) answer = answer ≡ solved.Closed cert
Answers s budget (found.Spent journal) answer = answer ≡ solved.Spent (record { budget = budget; journal = journal })
Answers s budget (found.Stuck stuck journal) answer = answer ≡ solved.Stuck stuck (record { budget = budget; journal = journal })
Answers s budget found.NoMemory answer = answer ≡ solved.NoMemory

-- decisions, propagated literals and pivots are charged
abbrev pub charged_moves : List Move → ℕ
charged_moves moves = how_many is_decide moves + how_many is_propagate moves + how_many is_pivot moves

module _ (c : Clauses) (budget : ℕ) where
  -- the limit is that of the search, the counts are those of the moves, and the charged moves are at most the limit
  pub record IsCounted (spent : Spent) : Type 0 where
    pub limit_is : spent.budget.limit ≡ budget
    pub tally : IsTally spent.journal.moves (counts spent.budget)
    pub at_most : charged_moves spent.journal.moves ≤ budget

  -- the journal reaches this place, learning, at which the rows of the literals told have a common solution, and no variable is violated
  pub record IsCalmAt (place : Reached (State MixedFrac)) (spent : Spent) : Type 0 where
    pub counted : IsCounted spent
    pub reached : Reaches (theory_of c) c spent.journal.moves place
    pub learned : ReachesLearning (theory_of c) c spent.journal.moves place
    pub solution : HasSolution (rows_of c) (literals place.trail)
    pub calm : HasViolated place.state → ⊥

  -- there each atom is told with its truth, and each clause is true
  pub record IsTotalAt (truths : List Bool) (place : Reached (State MixedFrac)) (spent : Spent) : Type 0 where
    pub at : IsCalmAt place spent
    pub atoms : length truths ≡ length c.atoms
    pub assignment : IsAssignment truths (literals place.trail)
    pub clauses : Satisfies (truth_in truths) c.clauses

  -- the values are those at this place's corner, and meet the rows of the literals told there; with the truths they are a model
  pub record AreModelAt (values : Values) (truths : List Bool) (place : Reached (State MixedFrac)) : Type 0 where
    pub at_corner : AreValuesAt place.state.corner values.over values.values
    pub met : AreMet (rows_of c) (entry values.values) (unsigned_abs values.over) (literals place.trail)
    pub count : length values.values ≡ c.columns
    pub over_from : pos 1 ≤ℤ values.over
    pub each_in : All IsWithin values.values
    pub atoms : length truths ≡ length c.atoms
    pub model : IsModel c (entry values.values) (unsigned_abs values.over) (truth_in truths)

  -- a model at the corner that the journal reaches: an atom off the trail is as true as its row there
  pub record IsFound (values : Values) (truths : List Bool) (spent : Spent) : Type 0 where
    pub place : Reached (State MixedFrac)
    pub at : IsCalmAt place spent
    pub is_model : AreModelAt values truths place

  -- such a model, whose truths are all told
  pub record IsFoundTotal (values : Values) (truths : List Bool) (spent : Spent) : Type 0 where
    pub place : Reached (State MixedFrac)
    pub total : IsTotalAt truths place spent
    pub is_model : AreModelAt values truths place

  -- the lemmas prove that there is no model, with trees that a certificate's text can hold and a checker can add up
  pub record IsLightProof (cert : Cert) : Type 0 where
    pub proves : Proves c cert
    pub few : length c.clauses + length cert.lemmas ≤ 2 ^ 32
    pub light : AreLight (rows_of c) cert.lemmas

  -- the whole budget is spent, and some further charged move may be made
  pub record IsSpent (spent : Spent) : Type 0 where
    pub counted : IsCounted spent
    pub all : charged_moves spent.journal.moves ≡ budget
    pub goes_on : IsOpen (theory_of c) c spent.journal.moves
    pub learned : IsOpenLearning (theory_of c) c spent.journal.moves

  -- at a total assignment, an operation of epsilon or of the scale overflows
  pub record IsStuckTotal (stuck : Stuck) (spent : Spent) : Type 0 where
    pub truths : List Bool
    pub place : Reached (State MixedFrac)
    pub total : IsTotalAt truths place spent
    pub overflows : IsStuckValue limit place.state.corner stuck

  -- an operation overflows in the last move, or at the place reached, or in the values there
  pub record IsStuck (stuck : Stuck) (spent : Spent) : Type 0 where
    pub counted : IsCounted spent
    pub overflows : Sticks (theory_of c) c spent.journal.moves stuck ⊎ IsStuckTotal stuck spent
    pub learned : SticksLearning (theory_of c) c spent.journal.moves stuck ⊎ IsStuckTotal stuck spent

  -- what an answer says, where this is said of a model
  abbrev pub SolvesWith : (Values → List Bool → Spent → Type 0) → Solved → Type 0
  SolvesWith Model (solved.Model values truths spent) = Model values truths spent
  SolvesWith Model (solved.Closed cert) = IsLightProof cert
  SolvesWith Model (solved.Spent spent) = IsSpent spent
  SolvesWith Model (solved.Stuck stuck spent) = IsStuck stuck spent
  SolvesWith Model solved.NoMemory = Unit {0}

  abbrev pub Solves : Solved → Type 0
  Solves answer = SolvesWith IsFound answer

  abbrev pub SolvesTotal : Solved → Type 0
  SolvesTotal answer = SolvesWith IsFoundTotal answer
