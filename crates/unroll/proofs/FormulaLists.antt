-- Formulas that are added list by list.
use Rattle.std.proofs.Common.{◌≡◌, ◌∙◌, ap, sym, List, [], ◌∷◌, ◌++◌, append_assoc}
use Rattle.std.specs.Prelude.{flat_map}
use Rattle.std.proofs.lemmas.List.{map-append, append-nil}
use Rattle.std.proofs.lemmas.Grind.{flat_map-append}
use Rattle.condition_tree.specs.Trees.{Tree}
use Rattle.linear_form.specs.declared.relations.Comparison.{Comparison}
use Rattle.clause_form.specs.declared.formulas.Formula.{Formula}
use Rattle.run_rows.specs.declared.shapes.Shape.{Shape}
use Rattle.claims.specs.Subjects.{Symbolic}
use Rattle.unroll.specs.ClaimFormulas.{Adds, claim_formula, claim_formulas, trees}

-- the claims of one more place
pub added_more : {A : Type 0} (s : Shape) (before now next : List Formula) (g : A → List Symbolic) (xs : List A) (x : A)
    → Adds s before (flat_map g xs) now → Adds s now (g x) next → Adds s before (flat_map g (xs ++ x ∷ [])) next
added_more s before now next g xs x far step =
    let parts : claim_formulas s (flat_map g (xs ++ x ∷ [])) ≡ claim_formulas s (flat_map g xs) ++ claim_formulas s (g x) =
    (ap (claim_formulas s) (flat_map-append g xs (x ∷ []) ∙ ap (λ cs. flat_map g xs ++ cs) (append-nil (g x)))
    ∙ map-append (claim_formula s) (flat_map g xs) (g x)) in
    step ∙ ap (λ (ts : List (Tree Comparison)). ts ++ claim_formulas s (g x)) far
    ∙ append_assoc (trees before) (claim_formulas s (flat_map g xs)) (claim_formulas s (g x))
    ∙ ap (λ (ts : List (Tree Comparison)). trees before ++ ts) (sym parts)
