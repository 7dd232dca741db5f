use Rattle.cert_check.proofs.PathLaws.{assume_law}
use Rattle.cert_check.proofs.paths.Path.assume.Goals as goal

pub invariant_of-self-2 : goal.invariant_of-self-2
invariant_of-self-2 c =
    assume_law c.self.inside.lits.items c.push.new.self.items c.self.inside.truths.items c.args.self.now c.args.lit c.self.view_is c.self.invariant c.requires.in_range c.requires.free c.in_ok-push.ensures.items
