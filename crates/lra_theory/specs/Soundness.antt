-- What is so of every theory: which limits its literals gave, and what its tableau means.
use Rattle.std.specs.Prelude.{◌≡◌, ◌↔◌, ℕ, ◌+◌, ◌^◌, ◌<◌, ◌≤◌, ℤ, pos, ◌≤ℤ◌, unsigned_abs, Bool, true, false, List, [], ◌∷◌, ◌++◌, take, length, ◌⊎◌, Option, None, Some, MatchOption, slice_get}
use Rattle.ordered_field.specs.Rational.{ℚ}
use Rattle.ordered_field.specs.Delta.{DeltaValue}
use Rattle.tableau.specs.Tables.{variables, Meets}
use Rattle.farkas_cert.specs.declared.literals.Lit.{Lit}
use Rattle.linear_form.specs.declared.lists.Form.{Form}
use Rattle.clause_form.specs.declared.clauses.Atom.TheVariants.{Row}
use Rattle.clause_form.specs.Derivations.{Rows}
use Rattle.clause_form.specs.WellFormed.{IsGoodForm, IsGoodRow}
use Rattle.simplex.specs.declared.limits.Limit.{Limit}
use Rattle.simplex.specs.declared.outcome.Bound.{Bound}
use Rattle.simplex.specs.Bounds.{IsLimitOf}
use Rattle.simplex.specs.Limits.{IsImplied, Contradicts}
use Rattle.simplex.specs.States.{corner, limits_in, zero_delta, State as SimplexState}
use Rattle.lra_theory.specs.declared.fault.LraFault.{LraFault}
use Rattle.lra_theory.specs.declared.trail.Told.{Told}
use Rattle.lra_theory.specs.Forms.{Defines, MeetsForms, variables_of}
use Rattle.lra_theory.specs.Literals.{bound_of}
use Rattle.lra_theory.specs.Setting.{given_by_first}
use Rattle.lra_theory.specs.Relations.{HasViolated}
use Rattle.lra_theory.specs.Standings.{lits_of, state_of}

-- the rows are those of well formed clauses
pub record IsGood (rows : Rows) : Type 0 where
  pub few : variables_of rows ≤ 2048
  pub forms : (j : ℕ) (f : Form) → slice_get rows.forms j ≡ Some f → IsGoodForm rows.columns f
  pub atoms : (n form : ℕ) (num den : ℤ) (strict : Bool) → slice_get rows.atoms n ≡ Some (Row form num den strict) → IsGoodRow (variables_of rows) form num den

pub record IsGoodBound (rows : Rows) (b : Bound) : Type 0 where
  pub var : b.var < variables_of rows
  pub num : unsigned_abs b.num < 10 ^ 16
  pub den : unsigned_abs b.den < 10 ^ 16
  pub some : pos 1 ≤ℤ b.den

-- ---- the limits that the literals gave

-- the literal at this position, over the limits before it, puts these in force: one, where its bound is stronger
abbrev pub Gives : Rows → ℕ → List (Limit DeltaValue) → Lit → List (Limit DeltaValue) → Type 0
Gives rows position before l more =
    MatchOption (bound_of rows l) (more ≡ [])
    (λ b. (limit : Limit DeltaValue) × IsLimitOf b position limit × (¬ Contradicts before limit)
    × ((IsImplied before limit × (more ≡ [])) ⊎ ((¬ IsImplied before limit) × (more ≡ limit ∷ []))))

-- the literals from this position on, one after the other, lead from these limits to those
abbrev pub AreGiven : Rows → ℕ → List (Limit DeltaValue) → List Told → List (Limit DeltaValue) → Type 0
AreGiven rows position before [] limits = before ≡ limits
AreGiven rows position before (t ∷ ts) limits =
    (more : List (Limit DeltaValue)) × (t.mark ≡ length before) × Gives rows position before t.lit more
    × AreGiven rows (position + 1) (before ++ more) ts limits

pub record IsSound {F : Type 0} (value : F → ℚ) (rows : Rows) (told : List Told) (s : SimplexState F) : Type 0 where
  pub good : IsGood rows
  pub columns : s.rest ≡ None → s.table.columns ≡ rows.columns
  pub count : s.rest ≡ None → variables s.table ≡ variables_of rows
  pub exact : (x : ℕ → ℚ) → Meets value s.table x ↔ MeetsForms rows x
  pub given : AreGiven rows 0 [] told (limits_in value s.limits)

-- while the last check's answer stands, nothing is refused, nothing ended the theory, and no variable is violated
pub record IsSettled {F : Type 0} (value : F → ℚ) (rows : Rows) (told : List Told) (refused : Option Lit) (s : SimplexState F) (rest : Option LraFault) : Type 0 where
  pub agrees : refused ≡ None
  pub works : rest ≡ None
  pub calm : HasViolated (state_of value rows (lits_of told refused) s) → ⊥

-- the same of a theory's parts: the last literal stands apart only while a cut is owed
pub record IsKept {F : Type 0} (value : F → ℚ) (rows : Rows) (told : List Told) (refused : Option Lit) (s : SimplexState F) (fine owes : Bool) (rest : Option LraFault) : Type 0 where
  pub sound : IsSound value rows told s
  pub few : length (lits_of told refused) < 2 ^ 32
  pub agrees : owes ≡ false → refused ≡ None
  pub works : rest ≡ None → s.rest ≡ None
  pub settled : fine ≡ true → IsSettled value rows told refused s rest

-- the simplex over the forms, to which nothing was told
pub record IsOpened {F : Type 0} (value : F → ℚ) (rows : Rows) (s : SimplexState F) : Type 0 where
  pub table : Defines value rows s.table
  pub exact : (x : ℕ → ℚ) → Meets value s.table x ↔ MeetsForms rows x
  pub zeros : (v : ℕ) → (corner value s).value v ≡ zero_delta
  pub unbounded : s.limits ≡ []
  pub works : s.rest ≡ None

-- the list is cut, with the limits that the literals after it gave
pub record IsCut {F : Type 0} (value : F → ℚ) (mark : ℕ) (told : List Told) (refused : Option Lit) (s : SimplexState F) (kept : List Told) (left : Option Lit) (t : SimplexState F) : Type 0 where
  pub lits : lits_of kept left ≡ take mark (lits_of told refused)
  pub none : left ≡ None
  pub table : t.table ≡ s.table
  pub values : t.values ≡ s.values
  pub limits : limits_in value t.limits ≡ given_by_first mark (limits_in value s.limits)
  pub rest : t.rest ≡ s.rest
  pub sound : (rows : Rows) → IsSound value rows told s → IsSound value rows kept t
