use Rattle.std.proofs.Common.{◌<◌, length, rules, arith}
use Rattle.std.proofs.lemmas.Grind.{common_steps}
use Rattle.clause_search.proofs.TableLaws.{retract_in_range, retract_law}
use Rattle.clause_search.proofs.trail.Trail.retract.Goals as goal

pub index_mut-requires : goal.index_mut-requires
index_mut-requires c =
    let less : c.in-Some.last.lit.atom < length c.self.inside.truths.items = retract_in_range c.self.inside.assigned.items c.pop.new.self.items c.self.inside.truths.items c.in-Some.last c.self.invariant c.in-Some.ensures.items in
    first_of (search rules, grind (arith, common_steps), omega arith)

pub invariant_of-self : goal.invariant_of-self
invariant_of-self c = retract_law c.self.inside.assigned.items c.pop.new.self.items c.self.inside.truths.items c.in-Some.last c.self.invariant c.in-Some.ensures.items
