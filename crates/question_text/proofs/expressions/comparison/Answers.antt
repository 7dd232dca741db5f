use Rattle.std.proofs.Common.{◌∙◌, ap}
use Rattle.weighing.specs.Weight.{Weight}
use Rattle.weighing.specs.Weighed.{related}
use Rattle.question_text.proofs.Sums.{sides}
use Rattle.question_text.proofs.expressions.comparison.Goals as goal

pub returns : goal.returns
returns c =
    c.stands.ensures.exact ∙ ap (λ (w : Weight). related c.args.rel w.sum)
    (sides c.args.run.now c.args.at.now c.args.left.now c.args.right.now c.new.result c.plus_lin-left_sum.result c.plus_lin.result
    c.scale_of_two-scale.result c.scale_of_two-scale.ensures.exact c.new.ensures c.plus_lin-left_sum.ensures c.plus_lin.ensures)
