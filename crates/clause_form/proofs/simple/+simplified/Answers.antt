use Rattle.clause_form.proofs.SimplifyLaws.{And_gives, Or_gives}
use Rattle.clause_form.proofs.simple.+simplified.Goals as goal

pub simplified-returns-in_ok-conjuncts-in-And : goal.simplified-returns-in_ok-conjuncts-in-And
simplified-returns-in_ok-conjuncts-in-And t c =
    And_gives c.args.formula.now c.in-And.parts _ _ c.in-And.is c.all_of.ensures c.in_ok-conjuncts-in-And.ensures

pub simplified-returns-in_ok-disjuncts-in-Or : goal.simplified-returns-in_ok-disjuncts-in-Or
simplified-returns-in_ok-disjuncts-in-Or t c =
    Or_gives c.args.formula.now c.in-Or.parts _ _ c.in-Or.is c.any_of.ensures c.in_ok-disjuncts-in-Or.ensures
