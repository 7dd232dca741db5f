-- What is learned at a conflict, from its start or from another clause that is false.
use Rattle.std.specs.Prelude.{◌≡◌, ℕ, ◌⊎◌, List}
use Rattle.farkas_cert.specs.Trees.{tree_of}
use Rattle.farkas_cert.specs.declared.literals.Lit.{Lit}
use Rattle.clause_form.specs.Derivations.{Rows}
use Rattle.clause_form.specs.Journals.{Entry, literals}
use Rattle.learned_clause.specs.Learning.{IsLearnedFrom}
use Rattle.learned_clause.specs.Resolutions.{IsLearnedBy}
use Rattle.learned_clause.specs.declared.learning.Learned.{Learned}
use Rattle.learned_clause.specs.declared.learning.Start.{Start}
use Rattle.learned_clause.specs.declared.learning.Start.TheVariants.{Clause}
use Rattle.clause_search.specs.Standings.{IsFalseAt}

-- the start itself, or a false clause
abbrev pub IsStartHere : List (List Lit) → List Lit → Start → Start → Type 0
IsStartHere known lits start from = (from ≡ start) ⊎ ((n : ℕ) × (from ≡ Clause n) × IsFalseAt known lits n)

-- the clause that one of them gives
pub record IsLearnedHere (rows : Rows) (known : List (List Lit)) (trail : List Entry) (start : Start) (learned : Learned) : Type 0 where
  pub from : Start
  pub one : IsStartHere known (literals trail) start from
  pub follows : IsLearnedFrom rows known trail learned.clause (tree_of learned.proof) learned.keep
  pub exact : IsLearnedBy known trail from learned.clause learned.keep
