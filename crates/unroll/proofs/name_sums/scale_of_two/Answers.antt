use Rattle.std.proofs.Common.{◌≤◌, sym, subst, arith}
use Rattle.question_text.specs.Expressions.{scale_of_two, scale_with}
use Rattle.question_text.proofs.Scales.{scale_grows}
use Rattle.unroll.proofs.name_sums.scale_of_two.Goals as goal

pub scale_with-of_left-requires-clause-least_to : goal.scale_with-of_left-requires-clause-least_to
scale_with-of_left-requires-clause-least_to c =
    let from : 1 ≤ scale_with 1 c.args.left.now.terms = scale_grows 1 c.args.left.now.terms (omega arith) c.requires.left_in in
    let grown : scale_with 1 c.args.left.now.terms ≤ scale_of_two c.args.left.now c.args.right.now =
    scale_grows (scale_with 1 c.args.left.now.terms) c.args.right.now.terms from c.requires.right_in in
    omega (arith, grown, c.requires.scale_to)

pub scale_with-requires-clause-start_from : goal.scale_with-requires-clause-start_from
scale_with-requires-clause-start_from c =
    subst (λ s. 1 ≤ s) (sym c.scale_with-of_left.ensures) (scale_grows 1 c.args.left.now.terms (omega arith) c.requires.left_in)
