-- Formulas without constants: the trees that the code makes, and the parts of conjunctions and disjunctions, one after another.
use Rattle.std.proofs.Common.{◌≡◌, Option, None, Some, List, [], ◌∷◌, ◌++◌, map, refl, sym, ap, ◌∙◌}
use Rattle.std.specs.Global.{Vec}
use Rattle.condition_tree.specs.Trees.{Tree, conjunction, disjunction}
use Rattle.linear_form.specs.declared.relations.Comparison.{Comparison}
use Rattle.clause_form.specs.declared.formulas.Formula.{Formula}
use Rattle.clause_form.specs.declared.formulas.Formula.TheOpen.{Formula-F}
use Rattle.clause_form.specs.declared.formulas.Formula.TheFolds.{fold-roll-Formula}
use Rattle.clause_form.specs.declared.formulas.Formula.TheVariants.{And, Or, rolls-And, rolls-Or}
use Rattle.clause_form.specs.declared.simple.RowLit.{RowLit}
use Rattle.clause_form.specs.Formulas.{formula_of, formula_step}
use Rattle.clause_form.specs.Simplified.{Trimmed, conjunct, disjunct, trimmed_all, trimmed_any, node, all_parts, any_parts, closed, conjuncts, disjuncts, simplified, conjuncts_of, disjuncts_of}

pub formula_of-And : (parts : Vec Formula) → formula_of (And parts) ≡ conjunction (map formula_of parts.items)
formula_of-And parts = ap formula_of (sym (rolls-And parts)) ∙ fold-roll-Formula (Tree Comparison) formula_step (Formula-F.And parts)

pub formula_of-Or : (parts : Vec Formula) → formula_of (Or parts) ≡ disjunction (map formula_of parts.items)
formula_of-Or parts = ap formula_of (sym (rolls-Or parts)) ∙ fold-roll-Formula (Tree Comparison) formula_step (Formula-F.Or parts)

node-conjunction : (fs : List (Tree Comparison)) → node (conjunction fs) ≡ all_parts (conjuncts_of fs)
unfolding simplified
node-conjunction [] = refl
node-conjunction (f ∷ fs) = ap (λ v. all_parts (conjunct (closed (node f)) (conjuncts v))) (node-conjunction fs)

node-disjunction : (fs : List (Tree Comparison)) → node (disjunction fs) ≡ any_parts (disjuncts_of fs)
unfolding simplified
node-disjunction [] = refl
node-disjunction (f ∷ fs) = ap (λ v. any_parts (disjunct (closed (node f)) (disjuncts v))) (node-disjunction fs)

pub simplified-conjunction : (fs : List (Tree Comparison)) → simplified (conjunction fs) ≡ trimmed_all (conjuncts_of fs)
unfolding simplified
simplified-conjunction fs = ap closed (node-conjunction fs)

pub simplified-disjunction : (fs : List (Tree Comparison)) → simplified (disjunction fs) ≡ trimmed_any (disjuncts_of fs)
unfolding simplified
simplified-disjunction fs = ap closed (node-disjunction fs)

module _ (f : Formula) (parts : Vec Formula) (k : Trimmed) (kept : Option (List (Tree RowLit))) where
  pub And_gives : f ≡ And parts → k ≡ trimmed_all kept → kept ≡ conjuncts_of (map formula_of parts.items) → k ≡ simplified (formula_of f)
  And_gives is made left =
      made ∙ ap trimmed_all left ∙ sym (simplified-conjunction (map formula_of parts.items))
      ∙ ap simplified (sym (formula_of-And parts)) ∙ ap (λ (g : Formula). simplified (formula_of g)) (sym is)

  pub Or_gives : f ≡ Or parts → k ≡ trimmed_any kept → kept ≡ disjuncts_of (map formula_of parts.items) → k ≡ simplified (formula_of f)
  Or_gives is made left =
      made ∙ ap trimmed_any left ∙ sym (simplified-disjunction (map formula_of parts.items))
      ∙ ap simplified (sym (formula_of-Or parts)) ∙ ap (λ (g : Formula). simplified (formula_of g)) (sym is)

-- ---- the parts, one after another

-- a list in front of what is left
abbrev pub behind : {X : Type 0} → List X → Option (List X) → Option (List X)
behind front None = None
behind front (Some xs) = Some (front ++ xs)
