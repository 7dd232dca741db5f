-- What is learned from the starts of a conflict.
use Rattle.std.proofs.Common.{◌≡◌, ℕ, ◌⊎◌, inl, inr, List, Result, Ok, Err, IfOk, refl, sym, subst}
use Rattle.farkas_cert.specs.Trees.{tree_of}
use Rattle.farkas_cert.specs.declared.literals.Lit.{Lit}
use Rattle.clause_form.specs.Derivations.{Rows}
use Rattle.clause_form.specs.Journals.{Entry, literals}
use Rattle.whole.specs.declared.answers.NoMemory.{NoMemory}
use Rattle.learned_clause.specs.Learning.{IsLearnedFrom}
use Rattle.learned_clause.specs.Resolutions.{IsLearnedBy}
use Rattle.learned_clause.specs.Trails.{entries}
use Rattle.learned_clause.specs.declared.learning.Learned.{Learned}
use Rattle.learned_clause.specs.declared.learning.Start.{Start}
use Rattle.learned_clause.specs.declared.learning.Start.TheVariants.{Clause}
use Rattle.learned_clause.specs.declared.trails.Assigned.{Assigned}
use Rattle.clause_search.specs.Standings.{IsFalseAt}
use Rattle.clause_search.specs.Starts.{IsLearnedHere}

pub learned_here : (rows : Rows) (known : List (List Lit)) (trail : List Entry) (assigned : List Assigned) (start : Start)
    (result : Result Learned NoMemory) → entries assigned ≡ trail
    → IfOk result (λ learned. IsLearnedFrom rows known (entries assigned) learned.clause (tree_of learned.proof) learned.keep)
    → IfOk result (λ learned. IsLearnedBy known (entries assigned) start learned.clause learned.keep)
    → IfOk result (λ learned. IsLearnedHere rows known trail start learned)
learned_here rows known trail assigned start (Ok learned) e follows exact = record {
  from = start;
  one = inl refl;
  follows = subst (λ (es : List Entry). IsLearnedFrom rows known es learned.clause (tree_of learned.proof) learned.keep) e follows;
  exact = subst (λ (es : List Entry). IsLearnedBy known es start learned.clause learned.keep) e exact;
}
learned_here rows known trail assigned start (Err fault) e follows exact = tt

-- what a false clause gives is learned here too
pub from_other : (rows : Rows) (known : List (List Lit)) (trail : List Entry) (start : Start) (number : ℕ) (learned : Learned)
    → IsFalseAt known (literals trail) number → IsLearnedHere rows known trail (Clause number) learned → IsLearnedHere rows known trail start learned
from_other rows known trail start number learned fails here = record {
  from = here.from;
  one = elim here.one [ inl same ↦ inr (number, same, fails) | inr other ↦ inr other ];
  follows = here.follows;
  exact = here.exact;
}

pub better_here : (rows : Rows) (known : List (List Lit)) (trail : List Entry) (start : Start) (first other result : Learned)
    → IsLearnedHere rows known trail start first → IsLearnedHere rows known trail start other → (result ≡ first) ⊎ (result ≡ other)
    → IsLearnedHere rows known trail start result
better_here rows known trail start first other result one two which = elim which [
  | inl same ↦ subst (λ (l : Learned). IsLearnedHere rows known trail start l) (sym same) one
  | inr same ↦ subst (λ (l : Learned). IsLearnedHere rows known trail start l) (sym same) two
]
