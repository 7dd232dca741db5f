use Rattle.std.proofs.Common.{[], ◌∷◌, ◌++◌, sym, ap, subst, ◌∙◌, lit<, pos}
use Rattle.tableau.specs.Terms.{AreTerms}
use Rattle.tableau.proofs.TermLaws.{one_form, two_terms}
use Rattle.corner_values.proofs.tests.sum_of_two.Goals as goal

pub returns-clause-forms : goal.returns-clause-forms
returns-clause-forms c =
    one_form 2 _ c.in_ok-terms.terms (c.in_ok-push.ensures.items ∙ ap (λ l. l ++ c.in_ok-terms.terms ∷ []) c.new-rows.ensures.items)
    (subst (λ l. AreTerms 2 l) (sym c.in_ok-terms.ensures.items) (two_terms 2 (record { var = 0; coef = pos 1 })
    (record { var = 1; coef = pos 1 }) (lit< tt) (lit< tt) (λ e. absurd (cc))))
