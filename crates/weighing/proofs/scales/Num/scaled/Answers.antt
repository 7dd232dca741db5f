use Rattle.std.proofs.Common.{pos, ◌*ℤ◌, sym, ◌∙◌, ap}
use Rattle.weighing.specs.Scaled.{signed}
use Rattle.weighing.proofs.Scaling.{left_cleared, left_size, right_cleared, right_size, times_to}
use Rattle.weighing.proofs.scales.Num.scaled.Goals as goal

pub returns-in-Left-clause-size : goal.returns-in-Left-clause-size
returns-in-Left-clause-size c =
    left_size c.args.self.num _ c.requires.number_in.num_to
    (times_to c.from.result c.unsigned_abs.result c.args.scale c.from.ensures c.requires.scale_to)

pub returns-in-Right-clause-size : goal.returns-in-Right-clause-size
returns-in-Right-clause-size c =
    right_size c.args.self.num _ c.requires.number_in.num_to
    (times_to c.from.result c.unsigned_abs.result c.args.scale c.from.ensures c.requires.scale_to)

pub returns-in-Left-clause-whole : goal.returns-in-Left-clause-whole
returns-in-Left-clause-whole c = λ divides.
    left_cleared c.args.self.num c.args.self.den c.from.result c.unsigned_abs.result c.args.scale c.requires.number_in.num_to
    c.requires.number_in.den_from c.requires.number_in.den_to c.from.ensures c.unsigned_abs.ensures.value c.requires.scale_to divides
    ∙ ap (λ s. signed s (c.args.self.num *ℤ pos c.args.scale)) (sym c.in-Left.is)

pub returns-in-Right-clause-whole : goal.returns-in-Right-clause-whole
returns-in-Right-clause-whole c = λ divides.
    right_cleared c.args.self.num c.args.self.den c.from.result c.unsigned_abs.result c.args.scale c.requires.number_in.num_to
    c.requires.number_in.den_from c.requires.number_in.den_to c.from.ensures c.unsigned_abs.ensures.value c.requires.scale_to divides
    ∙ ap (λ s. signed s (c.args.self.num *ℤ pos c.args.scale)) (sym c.in-Right.is)
