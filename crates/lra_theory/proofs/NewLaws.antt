-- A theory to which nothing was told.
use Rattle.std.proofs.Common.{◌≡◌, ℕ, List, [], length, false, Option, None, refl, sym, ap, subst, ◌∙◌, arith}
use Rattle.ordered_field.specs.Rational.{ℚ}
use Rattle.farkas_cert.specs.declared.literals.Lit.{Lit}
use Rattle.clause_form.specs.declared.clauses.Clauses.{Clauses}
use Rattle.clause_form.specs.Derivations.{Rows, rows_of}
use Rattle.clause_form.specs.WellFormed.{IsWellFormed}
use Rattle.simplex.specs.States.{limits_in, State as SimplexState}
use Rattle.lra_theory.specs.declared.trail.Told.{Told}
use Rattle.lra_theory.specs.Soundness.{IsGood, IsKept, IsOpened, IsSound}
use Rattle.lra_theory.specs.Standings.{IsFresh, lits_of, seen}

pub good_rows : (c : Clauses) → IsWellFormed c → IsGood (rows_of c)
good_rows c formed = record { few = formed.few_forms; forms = formed.forms; atoms = formed.rows }

module _ {F : Type 0} (value : F → ℚ) (rows : Rows) (s : SimplexState F) (opened : IsOpened value rows s) where
  sound_none : IsGood rows → IsSound value rows [] s
  sound_none good = record {
    good = good;
    columns = λ _. opened.table.columns;
    count = λ _. opened.table.count;
    exact = opened.exact;
    given = ap (limits_in value) (sym opened.unbounded);
  }

pub is_kept : {F : Type 0} (value : F → ℚ) (c : Clauses) → IsWellFormed c → (rows : Rows) → rows ≡ rows_of c → (s : SimplexState F) → IsOpened value rows s → (told : List Told) (refused : Option Lit) → told ≡ [] → refused ≡ None → IsKept value rows told refused s false false None
is_kept value c formed rows are s opened told refused none agrees = record {
  sound = subst (λ ls. IsSound value rows ls s) (sym none) (sound_none value rows s opened (subst (λ r. IsGood r) (sym are) (good_rows c formed)));
  few = let count : length (lits_of told refused) ≡ 0 = ap (λ ls. length (lits_of ls refused)) none ∙ ap (λ r. length (lits_of [] r)) agrees in omega arith;
  agrees = λ _. agrees;
  works = λ _. opened.works;
  settled = λ e. absurd (cc);
}

pub is_fresh : {F : Type 0} (limit : ℕ) (value : F → ℚ) (c : Clauses) (rows : Rows) → rows ≡ rows_of c → (s : SimplexState F) → IsOpened value rows s → (told : List Told) (refused : Option Lit) → told ≡ [] → refused ≡ None → IsFresh limit value c (seen value (record { rows = rows; told = told; refused = refused; simplex = s; fine = false; owes = false; rest = None }))
is_fresh limit value c rows are s opened told refused none agrees = record {
  rows = are;
  told = nothing;
  state = record {
    rows = are;
    opening = record { told = nothing; table = opened.table; zeros = opened.zeros; unbounded = ap (limits_in value) opened.unbounded };
  };
  fine = refl;
  owes = refl;
  rest = refl;
}
  where
    nothing : lits_of told refused ≡ []
    nothing = ap (λ ls. lits_of ls refused) none ∙ ap (λ r. lits_of [] r) agrees
