use Rattle.std.proofs.Common.{◌≤◌, sym, subst, arith}
use Rattle.ctrl_meaning.specs.Expressions.{scale_of_two, scale_with}
use Rattle.run_rows.specs.Runs.{state_count}
use Rattle.ctrl_meaning.proofs.Scales.{scale_grows}
use Rattle.unroll.proofs.lin_sums.comparison.Goals as goal

pub scale_with-requires-clause-least_to : goal.scale_with-requires-clause-least_to
scale_with-requires-clause-least_to c =
    let n = state_count c.args.shape.now c.args.at.now.states in
    let from : 1 ≤ scale_with 1 c.args.left.now.terms = scale_grows n 1 c.args.left.now.terms (omega arith) c.requires.can.left_in.terms_in in
    let grown : scale_with 1 c.args.left.now.terms ≤ scale_of_two c.args.left.now c.args.right.now =
    scale_grows n (scale_with 1 c.args.left.now.terms) c.args.right.now.terms from c.requires.can.right_in.terms_in in
    omega (arith, grown, c.requires.can.scale_to)

pub scale_with-scale-requires-clause-start_from : goal.scale_with-scale-requires-clause-start_from
scale_with-scale-requires-clause-start_from c =
    let n = state_count c.args.shape.now c.args.at.now.states in
    let from : 1 ≤ scale_with 1 c.args.left.now.terms = scale_grows n 1 c.args.left.now.terms (omega arith) c.requires.can.left_in.terms_in in
    subst (λ s. 1 ≤ s) (sym c.scale_with.ensures) from
