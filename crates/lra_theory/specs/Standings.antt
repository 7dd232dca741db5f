-- The theory as a caller sees it.
use Rattle.std.specs.Prelude.{◌≡◌, ℕ, Bool, true, false, List, [], ◌∷◌, ◌++◌, map, Option, None, Some}
use Rattle.ordered_field.specs.Rational.{ℚ}
use Rattle.whole.specs.declared.answers.Stuck.{Stuck}
use Rattle.farkas_cert.specs.declared.literals.Lit.{Lit}
use Rattle.clause_form.specs.declared.clauses.Clauses.{Clauses}
use Rattle.clause_form.specs.declared.theory.Heard.{Heard}
use Rattle.clause_form.specs.declared.theory.Heard.TheVariants as heard
use Rattle.clause_form.specs.Derivations.{Rows, rows_of}
use Rattle.clause_form.specs.Theories.{Rest, works, without_memory, stuck, TheoryView}
use Rattle.simplex.specs.States.{corner, State as SimplexState}
use Rattle.lra_theory.specs.declared.fault.LraFault.{LraFault}
use Rattle.lra_theory.specs.declared.fault.LraFault.TheVariants as fault
use Rattle.lra_theory.specs.declared.trail.Told.{Told}
use Rattle.lra_theory.specs.Relations.{IsOpeningOf}
use Rattle.lra_theory.specs.States.{State}

-- the literals whose bounds are set, each with how many limits were put in force before it, and the literal after them whose
-- bound contradicts, if there is one; the simplex; whether the last check was Fine, a cut is owed, or a refusal is repeated
pub record Standing (F : Type 0) : Type 0 where
  pub rows : Rows
  pub told : List Told
  pub refused : Option Lit
  pub simplex : SimplexState F
  pub fine : Bool
  pub owes : Bool
  pub rest : Option LraFault

abbrev pub lits_of : List Told → Option Lit → List Lit
lits_of told None = map (λ t. t.lit) told
lits_of told (Some l) = map (λ t. t.lit) told ++ l ∷ []

abbrev pub rest_of : Option LraFault → Rest
rest_of None = works
rest_of (Some (fault.Stuck k)) = stuck k
rest_of (Some fault.NoMemory) = without_memory

abbrev pub state_of : {F : Type 0} → (F → ℚ) → Rows → List Lit → SimplexState F → State F
state_of value rows told simplex = record { rows = rows; told = told; corner = corner value simplex }

-- what a search sees of it
abbrev pub seen : {F : Type 0} → (F → ℚ) → Standing F → TheoryView (State F)
seen value a = record {
  rows = a.rows;
  told = lits_of a.told a.refused;
  state = state_of value a.rows (lits_of a.told a.refused) a.simplex;
  fine = a.fine;
  owes = a.owes;
  rest = rest_of a.rest;
}

-- ---- a theory at work, and after an answer

abbrev pub at_work : {F : Type 0} → Bool → Bool → Rows → List Told → Option Lit → SimplexState F → Standing F
at_work fine owes rows told refused simplex =
    record { rows = rows; told = told; refused = refused; simplex = simplex; fine = fine; owes = owes; rest = None }

abbrev pub is_fine : Heard → Bool
is_fine heard.Fine = true
is_fine (heard.Clash parts) = false
is_fine heard.Spent = false
is_fine (heard.Stuck k) = false
is_fine heard.NoMemory = false

abbrev pub is_clash : Heard → Bool
is_clash heard.Fine = false
is_clash (heard.Clash parts) = true
is_clash heard.Spent = false
is_clash (heard.Stuck k) = false
is_clash heard.NoMemory = false

abbrev pub rest_after : Heard → Option LraFault
rest_after heard.Fine = None
rest_after (heard.Clash parts) = None
rest_after heard.Spent = None
rest_after (heard.Stuck k) = Some (fault.Stuck k)
rest_after heard.NoMemory = Some fault.NoMemory

abbrev pub after : {F : Type 0} → Bool → Heard → Rows → List Told → Option Lit → SimplexState F → Standing F
after fine answer rows told refused simplex =
    record { rows = rows; told = told; refused = refused; simplex = simplex; fine = fine; owes = is_clash answer; rest = rest_after answer }

-- what a fault says to a search
abbrev pub heard_of : LraFault → Heard
heard_of (fault.Stuck k) = heard.Stuck k
heard_of fault.NoMemory = heard.NoMemory

-- the literal that contradicts, where its clash is answered
abbrev pub kept : Heard → Lit → Option Lit
kept heard.Fine l = None
kept (heard.Clash parts) l = Some l
kept heard.Spent l = None
kept (heard.Stuck k) l = None
kept heard.NoMemory l = None

-- the fault is want of memory, or its operation is as P says
abbrev pub IfStuck : LraFault → (Stuck → Type 0) → Type 0
IfStuck (fault.Stuck k) P = P k
IfStuck fault.NoMemory P = Unit {0}

-- a theory of these clauses to which nothing was told
pub record IsFresh {F : Type 0} (limit : ℕ) (value : F → ℚ) (c : Clauses) (s : TheoryView (State F)) : Type 0 where
  pub rows : s.rows ≡ rows_of c
  pub told : s.told ≡ []
  pub state : IsOpeningOf limit value c s.state
  pub fine : s.fine ≡ false
  pub owes : s.owes ≡ false
  pub rest : s.rest ≡ works
