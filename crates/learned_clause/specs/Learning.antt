-- What is false at a conflict, and what is learned from it.
use Rattle.std.specs.Prelude.{◌≡◌, ℕ, ◌<◌, ◌≤◌, ◌⊎◌, List, [], map, take, length, Some, slice_get}
use Rattle.farkas_cert.specs.Literals.{negation}
use Rattle.farkas_cert.specs.Trees.{Tree}
use Rattle.farkas_cert.specs.declared.literals.Lit.{Lit}
use Rattle.clause_form.specs.Derivations.{Closes, Has, HasAtom, IsContradiction, IsFalseOn, NamesOnce, Rows, SumsFit}
use Rattle.clause_form.specs.Journals.{Entry, IsOpenClause, OthersFalse, literals}
use Rattle.learned_clause.specs.declared.learning.Start.{Start}
use Rattle.learned_clause.specs.declared.learning.Start.TheVariants.{Clause, Clash}
use Rattle.learned_clause.specs.LightTrees.{IsLight}
use Rattle.learned_clause.specs.Trails.{DecidedAt}

-- a known clause is false on the path, or its rows contradict, with sums that a checker can take
abbrev pub IsFalseStart : Rows → List (List Lit) → List Lit → Start → Type 0
IsFalseStart c known path (Clause n) = (lits : List Lit) × (slice_get known n ≡ Some lits) × IsFalseOn path lits
IsFalseStart c known path (Clash parts) = (length parts ≤ 2049) × IsContradiction c path parts × SumsFit c parts

-- one literal's atom is off the list, and the other literals are false
pub record IsUnitOn (lits clause : List Lit) : Type 0 where
  pub late : Lit
  pub has : Has late clause
  pub off : HasAtom late.atom lits → ⊥
  pub others : OthersFalse lits late clause

-- cut to this length, the trail ends before a decision and makes the clause unit; no earlier decision's cut does
pub record CutsTo (trail : List Entry) (clause : List Lit) (keep : ℕ) : Type 0 where
  pub within : keep < length trail
  pub decided : DecidedAt trail keep
  pub unit_after : IsUnitOn (literals (take keep trail)) clause
  pub open_before : (k : ℕ) → k < keep → DecidedAt trail k → IsOpenClause (literals (take k trail)) clause

-- the clause is false on the trail and follows by the tree; it is empty, or a cut makes it unit
pub record IsLearnedFrom (c : Rows) (known : List (List Lit)) (trail : List Entry) (clause : List Lit) (tree : Tree) (keep : ℕ) : Type 0 where
  pub once : NamesOnce (length c.atoms) clause
  pub false_here : IsFalseOn (literals trail) clause
  pub follows : Closes c known tree (map negation clause)
  pub light : IsLight c (length trail) tree
  pub cut : (clause ≡ []) ⊎ CutsTo trail clause keep
