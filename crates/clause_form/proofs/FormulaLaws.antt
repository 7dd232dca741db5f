-- The comparisons of a list of formulas.
use Rattle.std.proofs.Common.{◌≡◌, ℕ, ◌+◌, ◌<◌, List, ◌∷◌, map, length, get_or, drop, sym, ap, ◌∙◌, subst}
use Rattle.std.proofs.lemmas.List.{drop_more}
use Rattle.condition_tree.specs.Trees.{EachLeaf}
use Rattle.condition_tree.proofs.Trees.{each_leaf_gives}
use Rattle.clause_form.specs.declared.formulas.Formula.{Formula}
use Rattle.clause_form.specs.Formulas.{CanNormalise, CanTake, EachComparison, formula_of}

-- the next formula of a list can be brought to normal form
pub next_is_small : (columns : ℕ) (items : List Formula) (i : ℕ) (f : Formula) → f ≡ get_or items i f → i < length items
    → EachComparison (CanTake columns) (map formula_of (drop i items)) → EachLeaf CanNormalise (formula_of f)
next_is_small columns items i f here inside each =
    let next = drop_more items i f inside ∙ ap (λ (g : Formula). g ∷ drop (i + 1) items) (sym here) in
    let now = subst (λ (fs : List Formula). EachComparison (CanTake columns) (map formula_of fs)) next each in
    each_leaf_gives (CanTake columns) CanNormalise (formula_of f) (λ c can. can.small) now.0
