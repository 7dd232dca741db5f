-- Forms that are differences of two columns.
use Rattle.std.proofs.Common.{◌≡◌, ℕ, zero, suc, ◌<◌, List, [], ◌∷◌, ◌++◌, pos, negsuc, sym, subst}
use Rattle.std.specs.Global.{Vec}
use Rattle.tableau.specs.declared.terms.RowTerm.{RowTerm}
use Rattle.tableau.specs.Terms.{form, AreForms, AreTerms}
use Rattle.tableau.proofs.TermLaws.{two_terms}

pub no_forms : (n : ℕ) → AreForms n []
unfolding form
no_forms n j = tt

-- one more form behind these
more : (n : ℕ) (forms : List (Vec RowTerm)) (f : Vec RowTerm) → AreForms n forms → AreTerms n f.items → AreForms n (forms ++ f ∷ [])
unfolding form
more n [] f all one zero = one
more n [] f all one (suc j) = tt
more n (g ∷ gs) f all one zero = all 0
more n (g ∷ gs) f all one (suc j) = more n gs f (λ i. all (suc i)) one j

pub difference_more : (n plus minus : ℕ) (forms bigger : List (Vec RowTerm)) (f : Vec RowTerm) → AreForms n forms → plus < n → minus < n → (plus ≡ minus → ⊥)
    → f.items ≡ record { var = plus; coef = pos 1 } ∷ record { var = minus; coef = negsuc 0 } ∷ [] → bigger ≡ forms ++ f ∷ [] → AreForms n bigger
difference_more n plus minus forms bigger f all one two apart terms is =
    subst (λ fs. AreForms n fs) (sym is) (more n forms f all
    (subst (λ ts. AreTerms n ts) (sym terms)
    (two_terms n (record { var = plus; coef = pos 1 }) (record { var = minus; coef = negsuc 0 }) one two (λ e. apart (sym e)))))
