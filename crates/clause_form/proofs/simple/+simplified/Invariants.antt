use Rattle.std.proofs.Common.{◌≡◌, drop, map}
use Rattle.condition_tree.specs.Trees.{EachLeaf, conjunction, disjunction}
use Rattle.clause_form.specs.Formulas.{formula_of, CanNormalise}
use Rattle.clause_form.specs.Simplified.{simple_of, conjuncts_of, disjuncts_of}
use Rattle.clause_form.proofs.SimplifyLaws.{behind}
use Rattle.clause_form.proofs.simple.+simplified.Given as goal

-- what was kept so far, and what the parts to come give, are what all parts give
abbrev pub invariant-conjuncts-loop-part : goal.invariant-conjuncts-loop-part
invariant-conjuncts-loop-part l =
    (behind (map simple_of l.kept.items) (conjuncts_of (map formula_of (drop l.part-index l.part-items))) ≡ conjuncts_of (map formula_of l.part-items))
    × EachLeaf CanNormalise (conjunction (map formula_of (drop l.part-index l.part-items)))

abbrev pub invariant-disjuncts-loop-part : goal.invariant-disjuncts-loop-part
invariant-disjuncts-loop-part l =
    (behind (map simple_of l.kept.items) (disjuncts_of (map formula_of (drop l.part-index l.part-items))) ≡ disjuncts_of (map formula_of l.part-items))
    × EachLeaf CanNormalise (disjunction (map formula_of (drop l.part-index l.part-items)))
