use Rattle.std.proofs.Common.{◌≤◌, ◌∙◌, ap, sym, subst, arith}
use Rattle.weighing.specs.Weight.{Weight}
use Rattle.weighing.specs.Weighed.{related}
use Rattle.ctrl_meaning.specs.Expressions.{scale_of_two, scale_with}
use Rattle.ctrl_meaning.specs.Readings.{states_at}
use Rattle.ctrl_meaning.proofs.Scales.{scale_grows}
use Rattle.ctrl_meaning.proofs.Sums.{sides}
use Rattle.ctrl_meaning.proofs.expressions.comparison.Goals as goal

pub scale_with-requires-clause-least_to : goal.scale_with-requires-clause-least_to
scale_with-requires-clause-least_to c =
    let n = states_at c.args.run.now c.args.at.now in
    let from : 1 ≤ scale_with 1 c.args.left.now.terms = scale_grows n 1 c.args.left.now.terms (omega arith) c.requires.left_in in
    let grown : scale_with 1 c.args.left.now.terms ≤ scale_of_two c.args.left.now c.args.right.now =
    scale_grows n (scale_with 1 c.args.left.now.terms) c.args.right.now.terms from c.requires.right_in in
    omega (arith, grown, c.requires.scale_to)

pub scale_with-scale-requires-clause-start_from : goal.scale_with-scale-requires-clause-start_from
scale_with-scale-requires-clause-start_from c =
    let n = states_at c.args.run.now c.args.at.now in
    let from : 1 ≤ scale_with 1 c.args.left.now.terms = scale_grows n 1 c.args.left.now.terms (omega arith) c.requires.left_in in
    subst (λ s. 1 ≤ s) (sym c.scale_with.ensures) from

pub returns : goal.returns
returns c =
    c.stands.ensures.exact ∙ ap (λ (w : Weight). related c.args.rel w.sum)
    (sides c.args.run.now c.args.at.now c.args.left.now c.args.right.now c.new.result c.plus_lin-left_sum.result c.plus_lin.result
    c.scale_with.result c.scale_with-scale.result c.scale_with.ensures c.scale_with-scale.ensures c.new.ensures
    c.plus_lin-left_sum.ensures c.plus_lin.ensures)
