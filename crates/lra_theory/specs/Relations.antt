-- How the states of the theory of linear rows follow one another, after Dutertre and de Moura's simplex for DPLL(T).
use Rattle.std.specs.Prelude.{◌≡◌, ℕ, Bool, List, [], ◌∷◌, ◌++◌, take}
use Rattle.ordered_field.specs.Rational.{ℚ}
use Rattle.ordered_field.specs.Delta.{DeltaValue}
use Rattle.whole.specs.declared.answers.Stuck.{Stuck}
use Rattle.farkas_cert.specs.declared.literals.Lit.{Lit}
use Rattle.clause_form.specs.declared.clauses.Clauses.{Clauses}
use Rattle.clause_form.specs.Derivations.{rows_of}
use Rattle.clause_form.specs.Theories.{Relations}
use Rattle.simplex.specs.declared.limits.Limit.{Limit}
use Rattle.simplex.specs.Corners.{IsBlandsChoice, IsAfterPivot}
use Rattle.simplex.specs.Limits.{IsViolated}
use Rattle.simplex.specs.Moves.{IsStuckPivot}
use Rattle.simplex.specs.Shares.{Weight}
use Rattle.simplex.specs.States.{zero_delta}
use Rattle.lra_theory.specs.Clashes.{AreOfClash, AreLiterals, IsStuckClash}
use Rattle.lra_theory.specs.Forms.{Defines}
use Rattle.lra_theory.specs.Setting.{given_by_first, Opposes, SetsBound, IsStuckSetting}
use Rattle.lra_theory.specs.States.{State}

-- some literal's limit contradicts the one in force on the other side
abbrev pub IsOpposed : {F : Type 0} → State F → Type 0
IsOpposed s = (position : ℕ) × ((limit : Limit DeltaValue) × ((other : Limit DeltaValue) × Opposes s position limit other))

-- a variable is below its lower limit or above its upper one
abbrev pub HasViolated : {F : Type 0} → State F → Type 0
HasViolated s = (upper : Bool) × ((v : ℕ) × IsViolated upper s.corner.limits v (s.corner.value v))

-- the limits are cut to those that the first literals gave, and the tableau and the values stay
pub record IsAfterUndo {F : Type 0} (s : State F) (mark : ℕ) (t : State F) : Type 0 where
  pub rows : t.rows ≡ s.rows
  pub told : t.told ≡ take mark s.told
  pub table : t.corner.table ≡ s.corner.table
  pub values : t.corner.value ≡ s.corner.value
  pub limits : t.corner.limits ≡ given_by_first mark s.corner.limits

module _ {F : Type 0} (limit : ℕ) (value : F → ℚ) where
  -- the tableau defines the forms, all values are zero, and nothing is told
  pub record IsOpening (s : State F) : Type 0 where
    pub told : s.told ≡ []
    pub table : Defines value s.rows s.corner.table
    pub zeros : (v : ℕ) → s.corner.value v ≡ zero_delta
    pub unbounded : s.corner.limits ≡ []

  -- the literal is listed, and its bound is set
  pub record IsAfterLiteral (s : State F) (l : Lit) (t : State F) : Type 0 where
    pub rows : t.rows ≡ s.rows
    pub told : t.told ≡ s.told ++ l ∷ []
    pub bound : SetsBound value s l t.corner

  -- Bland's choice is carried out: the two variables change places, and the basic one moves to its violated limit
  pub record IsAfterExchange (s : State F) (b o : ℕ) (t : State F) : Type 0 where
    pub rows : t.rows ≡ s.rows
    pub told : t.told ≡ s.told
    pub upper : Bool
    pub choice : IsBlandsChoice value s.corner upper b o
    pub after : IsAfterPivot value s.corner upper b o t.corner

  -- the pivot is Bland's choice
  abbrev pub MayPivot : State F → ℕ → ℕ → Type 0
  MayPivot s b o = (upper : Bool) × IsBlandsChoice value s.corner upper b o

  -- an operation of the pivot, or of the move after it, is too wide
  abbrev pub IsStuckInPivot : State F → ℕ → ℕ → Stuck → Type 0
  IsStuckInPivot s b o stuck = (upper : Bool) × (IsBlandsChoice value s.corner upper b o × IsStuckPivot limit value s.corner upper b o stuck)

  -- the literals of the limits of a clash, in their order
  abbrev pub IsClash : State F → List Lit → Type 0
  IsClash s lits = (ws : List Weight) × (AreOfClash value s ws × AreLiterals s.told ws lits)

  abbrev pub relations : Relations (State F)
  relations = record {
    opening = IsOpening;
    after_literal = IsAfterLiteral;
    after_pivot = IsAfterExchange;
    after_undo = IsAfterUndo;
    allowed_pivot = MayPivot;
    clash = IsClash;
    stuck_in_literal = IsStuckSetting value limit;
    stuck_in_pivot = IsStuckInPivot;
    stuck_at = IsStuckClash value;
    contradicts = IsOpposed;
    violated = HasViolated;
  }

  -- it is an opening over the columns, forms and atoms of these clauses
  pub record IsOpeningOf (c : Clauses) (s : State F) : Type 0 where
    pub rows : s.rows ≡ rows_of c
    pub opening : IsOpening s
