-- What the answers of a theory say to the tests.
use Rattle.std.proofs.Common.{◌≡◌, ℕ, ◌+◌, ◌≤◌, true, List, [], ◌∷◌, ◌++◌, map, length, inl, inr, refl, sym, ap, subst, ◌∙◌, arith}
use Rattle.std.proofs.lemmas.List.{length-append}
use Rattle.condition_tree.specs.Trees.{Tree, EachLeaf}
use Rattle.linear_form.specs.declared.relations.Comparison.{Comparison}
use Rattle.farkas_cert.specs.declared.literals.Lit.{Lit}
use Rattle.clause_form.specs.declared.formulas.Formula.{Formula}
use Rattle.clause_form.specs.declared.theory.Heard.TheVariants as heard
use Rattle.clause_form.specs.Derivations.{HasAtom}
use Rattle.clause_form.specs.Formulas.{CanTake, EachComparison, formula_of}
use Rattle.clause_form.specs.Theories.{HearsLiteral, Relations, TheoryView}
use Rattle.clause_form.specs.WellFormed.{Below}
use Rattle.lra_theory.specs.Examples.{HasTold}

-- ---- formulas

each_more : (P : Comparison → Type 0) (fs : List (Tree Comparison)) (f : Tree Comparison) → EachComparison P fs → EachLeaf P f → EachComparison P (fs ++ f ∷ [])
each_more P [] f all one = (one, tt)
each_more P (g ∷ gs) f all one = (all.0, each_more P gs f all.1 one)

map-more : (fs : List Formula) (f : Formula) → map formula_of (fs ++ f ∷ []) ≡ map formula_of fs ++ formula_of f ∷ []
map-more [] f = refl
map-more (g ∷ gs) f = ap (λ ts. formula_of g ∷ ts) (map-more gs f)

pub formulas_more : (columns : ℕ) (fs gs : List Formula) (f : Formula) → gs ≡ fs ++ f ∷ [] → EachComparison (CanTake columns) (map formula_of fs)
    → EachLeaf (CanTake columns) (formula_of f) → EachComparison (CanTake columns) (map formula_of gs)
formulas_more columns fs gs f is all one =
    subst (λ ts. EachComparison (CanTake columns) ts) (sym (ap (λ hs. map formula_of hs) is ∙ map-more fs f))
    (each_more (CanTake columns) (map formula_of fs) (formula_of f) all one)

-- ---- literals told in the order of their atoms

below_more : (n : ℕ) (ls : List Lit) (l : Lit) → Below n ls → l.atom ≡ n → Below (n + 1) (ls ++ l ∷ [])
below_more n [] l below e = (omega (arith, e), tt)
below_more n (m ∷ ms) l below e = (let h = below.0 in omega (arith, h), below_more n ms l below.1 e)

pub below_free : (n : ℕ) (ls : List Lit) → Below n ls → HasAtom n ls → ⊥
below_free n [] below has = has
below_free n (m ∷ ms) below (inl same) = let h = below.0 in omega (arith, h, same)
below_free n (m ∷ ms) below (inr has) = below_free n ms below.1 has

module _ {S : Type 0} (R : Relations S) where
  pub told_more : (n atoms : ℕ) (s t : TheoryView S) (l : Lit) → HasTold n atoms s → HearsLiteral R s l heard.Fine t → l.atom ≡ n → HasTold (n + 1) atoms t
  told_more n atoms s t l has hears e =
      let answer = hears.at_work has.at_work in
      let took = answer.0 in
      record {
        in_range = subst (λ rows. atoms ≤ length rows.atoms) (sym took.rows) has.in_range;
        few = has.few;
        told = subst (λ ls. Below (n + 1) ls) (sym took.told) (below_more n s.told l has.told e);
        count_is = ap length took.told ∙ length-append s.told (l ∷ []) ∙ ap (λ k. k + 1) has.count_is;
        paid = answer.1;
        at_work = took.rest;
      }
