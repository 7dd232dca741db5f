-- What contracts see of a theory, how its states follow one another, and what its answers say.
use Rattle.std.specs.Prelude.{◌≡◌, ℕ, ◌+◌, ◌<◌, ◌≤◌, ℤ, Bool, true, false, ◌⊎◌, List, [], ◌∷◌, ◌++◌, map, length, IfSome, slice_get}
use Rattle.whole.specs.Budget.{Counts, counts, spent}
use Rattle.whole.specs.declared.answers.Stuck.{Stuck}
use Rattle.whole.specs.declared.budget.Budget.{Budget}
use Rattle.farkas_cert.specs.declared.journals.Journal.{Journal}
use Rattle.farkas_cert.specs.declared.journals.Move.{Move}
use Rattle.farkas_cert.specs.declared.journals.Move.TheVariants.{Pivot}
use Rattle.farkas_cert.specs.declared.literals.Lit.{Lit}
use Rattle.farkas_cert.specs.declared.trees.Part.{Part}
use Rattle.clause_form.specs.declared.theory.Heard.{Heard}
use Rattle.clause_form.specs.declared.theory.Heard.TheVariants as heard
use Rattle.clause_form.specs.Derivations.{HasAtom, IsContradiction, Rows, SumsFit}
use Rattle.clause_form.specs.Models.{RowHolds}

-- how a theory's states stand to each other
pub record Relations (S : Type 0) : Type 1 where
  -- a theory may begin in this state
  pub opening : S → Type 0
  -- a state follows when this literal is told, this pivot is made, or the list is cut to this mark
  pub after_literal : S → Lit → S → Type 0
  pub after_pivot : S → ℕ → ℕ → S → Type 0
  pub after_undo : S → ℕ → S → Type 0
  -- the pivot may be made at this state
  pub allowed_pivot : S → ℕ → ℕ → Type 0
  -- these literals are a clash of this state
  pub clash : S → List Lit → Type 0
  -- an operation may pass while the literal or the pivot is carried out at this state, or at this state alone
  pub stuck_in_literal : S → Lit → Stuck → Type 0
  pub stuck_in_pivot : S → ℕ → ℕ → Stuck → Type 0
  pub stuck_at : S → Stuck → Type 0
  -- the bounds of this state contradict
  pub contradicts : S → Type 0
  -- a variable is violated at this state
  pub violated : S → Type 0

-- a theory works, or each later call gives the same refusal
pub data Rest : Type 0 where
  works : Rest
  without_memory : Rest
  stuck : Stuck → Rest

pub record TheoryView (S : Type 0) : Type 0 where
  -- the columns, forms and atoms that it stands for
  pub rows : Rows
  -- the literals told, the latest last
  pub told : List Lit
  pub state : S
  -- the last call was a check that answered Fine
  pub fine : Bool
  -- after a clash an undo that cuts the list is owed
  pub owes : Bool
  pub rest : Rest

-- ---- what is common to the answers

-- the row of each literal of a row holds where each column has the value `value column / over`
abbrev pub AreMet : Rows → (ℕ → ℤ) → ℕ → List Lit → Type 0
AreMet rows value over [] = Unit {0}
AreMet rows value over (l ∷ ls) =
    IfSome (slice_get rows.atoms l.atom) (RowHolds rows.columns rows.forms value over l.positive) × AreMet rows value over ls

-- the literals told have a common solution
abbrev pub HasSolution : Rows → List Lit → Type 0
HasSolution rows told = (value : ℕ → ℤ) × (over : ℕ) × (0 < over) × AreMet rows value over told

module _ {S : Type 0} (R : Relations S) where
  -- the parts are a contradiction of the literals told, which no checker's sum overflows, and a clash of the state
  pub record HasClash (new : TheoryView S) (parts : List Part) : Type 0 where
    pub few : length parts ≤ 2049
    pub contradiction : IsContradiction new.rows new.told parts
    pub fits : SumsFit new.rows parts
    pub clash : R.clash new.state (map (λ p. p.lit) parts)

  -- the literal was told
  pub record TookLiteral (old : TheoryView S) (l : Lit) (new : TheoryView S) : Type 0 where
    pub rows : new.rows ≡ old.rows
    pub told : new.told ≡ old.told ++ l ∷ []
    pub state : R.after_literal old.state l new.state
    pub fine : new.fine ≡ false
    pub rest : new.rest ≡ works

  -- pivots that are allowed one after the other lead from one state to the other
  abbrev pub PivotsLead : S → List (ℕ × ℕ) → S → Type 0
  PivotsLead s [] t = s ≡ t
  PivotsLead s (p ∷ ps) t = R.allowed_pivot s p.0 p.1 × ((u : S) × R.after_pivot s p.0 p.1 u × PivotsLead u ps t)

  -- the pivots were made, and nothing was told
  pub record MadePivots (old : TheoryView S) (ps : List (ℕ × ℕ)) (new : TheoryView S) : Type 0 where
    pub rows : new.rows ≡ old.rows
    pub told : new.told ≡ old.told
    pub state : PivotsLead old.state ps new.state
    pub rest : new.rest ≡ works

  -- ---- tell

  -- an operation overflowed while the literal was carried out, or at the state after it
  abbrev pub StuckAfterLiteral : S → Lit → Stuck → Type 0
  StuckAfterLiteral s l k = R.stuck_in_literal s l k ⊎ ((t : S) × R.after_literal s l t × R.stuck_at t k)

  abbrev pub HearsLiteralAtWork : TheoryView S → Lit → Heard → TheoryView S → Type 0
  HearsLiteralAtWork old l heard.Fine new = TookLiteral old l new × (new.owes ≡ false) × (R.contradicts new.state → ⊥)
  HearsLiteralAtWork old l (heard.Clash parts) new = TookLiteral old l new × (new.owes ≡ true) × HasClash new parts
  HearsLiteralAtWork old l heard.Spent new = ⊥
  HearsLiteralAtWork old l (heard.Stuck k) new = (new.rest ≡ stuck k) × (new.rows ≡ old.rows) × StuckAfterLiteral old.state l k
  HearsLiteralAtWork old l heard.NoMemory new = (new.rest ≡ without_memory) × (new.rows ≡ old.rows)

  -- a theory at rest repeats its answer
  abbrev pub Repeats : Rest → Heard → Rest → Type 0
  Repeats works answer new = Unit {0}
  Repeats without_memory answer new = (answer ≡ heard.NoMemory) × (new ≡ without_memory)
  Repeats (stuck k) answer new = (answer ≡ heard.Stuck k) × (new ≡ stuck k)

  pub record HearsLiteral (old : TheoryView S) (l : Lit) (answer : Heard) (new : TheoryView S) : Type 0 where
    pub at_work : old.rest ≡ works → HearsLiteralAtWork old l answer new
    pub at_rest : Repeats old.rest answer new.rest

  -- ---- check

  -- an operation overflowed while the last pivot was carried out, or at the state reached
  abbrev pub StuckAfterPivots : S → List (ℕ × ℕ) → Stuck → Type 0
  StuckAfterPivots s ps k =
      ((front : List (ℕ × ℕ)) × (last : ℕ × ℕ) × (t : S) × (ps ≡ front ++ last ∷ []) × PivotsLead s front t × R.allowed_pivot t last.0 last.1 × R.stuck_in_pivot t last.0 last.1 k)
      ⊎ ((t : S) × PivotsLead s ps t × R.stuck_at t k)

  abbrev pub HearsCheckAtWork : TheoryView S → List (ℕ × ℕ) → Heard → TheoryView S → Counts → Type 0
  HearsCheckAtWork old ps heard.Fine new after =
      MadePivots old ps new × (new.fine ≡ true) × (new.owes ≡ false)
      × (R.contradicts new.state → ⊥) × (R.violated new.state → ⊥) × HasSolution new.rows new.told
  HearsCheckAtWork old ps (heard.Clash parts) new after = MadePivots old ps new × (new.fine ≡ false) × (new.owes ≡ true) × HasClash new parts
  HearsCheckAtWork old ps heard.Spent new after =
      MadePivots old ps new × (new.fine ≡ false) × (new.owes ≡ false)
      × (spent after ≡ after.limit) × ((b : ℕ) × (o : ℕ) × R.allowed_pivot new.state b o)
  HearsCheckAtWork old ps (heard.Stuck k) new after = (new.rest ≡ stuck k) × (new.rows ≡ old.rows) × StuckAfterPivots old.state ps k
  HearsCheckAtWork old ps heard.NoMemory new after = (new.rest ≡ without_memory) × (new.rows ≡ old.rows)

  -- each pivot is charged and written, and nothing else
  pub record HearsCheck (old : TheoryView S) (answer : Heard) (new : TheoryView S) (before after : Budget) (journal written : Journal) : Type 0 where
    pub pivots : List (ℕ × ℕ)
    pub charged : counts after ≡ record { limit = before.limit; decisions = before.decisions; propagations = before.propagations; pivots = before.pivots + length pivots; conflicts = before.conflicts }
    pub moves : written.moves ≡ journal.moves ++ map (λ p. Pivot p.0 p.1) pivots
    pub at_work : old.rest ≡ works → HearsCheckAtWork old pivots answer new (counts after)
    pub at_rest : Repeats old.rest answer new.rest
