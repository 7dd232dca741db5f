-- The clauses of a test are well formed.
use Rattle.std.proofs.Common.{◌≡◌, ℕ, zero, suc, pos, false, true, List, [], ◌∷◌, Some, slice_get, sym, subst, arith}
use Rattle.farkas_cert.specs.declared.literals.Lit.{Lit}
use Rattle.clause_form.specs.WellFormed.{Below, IsWellFormed}
use Rattle.clause_form.specs.declared.clauses.Clauses.{Clauses}
use Rattle.cert_check.specs.Examples.{problem}
use Rattle.cert_check.proofs.SmallProblems.{problem_formed}

abbrev two : List Lit
two = record { atom = 0; positive = true } ∷ record { atom = 1; positive = false } ∷ []

abbrev pub either : Clauses
either = record (problem false (pos 1)) { clauses = two ∷ [] }

two_in_range : (k : ℕ) (clause : List Lit) → slice_get (two ∷ []) k ≡ Some clause → Below 2 clause
two_in_range zero clause e =
    let same : two ≡ clause = cc in
    subst (Below 2) same (omega arith, (omega arith, tt))
two_in_range (suc k) clause e = absurd (cc)

-- one clause in place of the two of a small problem
pub either_formed : (c : Clauses) → c ≡ either → IsWellFormed c
either_formed c same =
    let formed = problem_formed false (pos 1) (omega arith) (λ e. cc) in
    let here : IsWellFormed either = record {
      few_forms = formed.few_forms;
      few_atoms = formed.few_atoms;
      few_clauses = omega arith;
      forms = formed.forms;
      forms_differ = formed.forms_differ;
      rows = formed.rows;
      rows_differ = formed.rows_differ;
      in_range = two_in_range;
    } in
    subst IsWellFormed (sym same) here
