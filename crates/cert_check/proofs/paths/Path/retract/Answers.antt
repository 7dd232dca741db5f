use Rattle.cert_check.proofs.PathLaws.{retract_law}
use Rattle.cert_check.proofs.paths.Path.retract.Goals as goal

pub invariant_of-self : goal.invariant_of-self
invariant_of-self c =
    retract_law c.self.inside.lits.items c.pop.new.self.items c.self.inside.truths.items c.in-Some.lit c.self.invariant c.in-Some.ensures.items
