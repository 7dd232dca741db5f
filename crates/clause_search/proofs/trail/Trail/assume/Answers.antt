use Rattle.clause_search.proofs.TableLaws.{assume_law}
use Rattle.clause_search.proofs.trail.Trail.assume.Goals as goal

pub invariant_of-self-2 : goal.invariant_of-self-2
invariant_of-self-2 c =
    assume_law c.self.inside.assigned.items c.push.new.self.items c.self.inside.truths.items c.args.self.now (record { lit = c.args.lit; by = c.args.by }) c.self.view_is c.self.invariant c.requires.in_range c.requires.free c.in_ok-push.ensures.items
