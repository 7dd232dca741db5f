use Rattle.lra_theory.proofs.TellLaws.{named-keeps, named-returns}
use Rattle.lra_theory.proofs.telling.named.Goals as goal

pub returns-clause-answers : goal.returns-clause-answers
returns-clause-answers g c =
    named-returns g.F.OrderedField.LIMIT g.F.OrderedField.value c.args.rows.now c.args.trail.now.told.items c.args.simplex.now c.requires.sound c.args.lit c.requires.none c.mark-mark.ensures.sound.orderly c.push_reserved.new.self.items c.mark-mark.result c.args.trail.now.refused c.push_reserved.ensures.items c.mark-mark.ensures.count c.requires.agrees

pub returns-clause-sound : goal.returns-clause-sound
returns-clause-sound g c =
    named-keeps g.F.OrderedField.LIMIT g.F.OrderedField.value c.args.rows.now c.args.trail.now.told.items c.args.simplex.now c.requires.sound c.args.lit c.requires.none c.push_reserved.new.self.items c.mark-mark.result c.push_reserved.ensures.items c.mark-mark.ensures.count
