use Rattle.std.proofs.Common.{arith}
use Rattle.simplex.proofs.ViolationLaws.{found_by, all_basic}
use Rattle.simplex.proofs.choice.least_violated.Goals as goal

pub returns-in-Some : goal.returns-in-Some
returns-in-Some g c =
    found_by g.F.OrderedField.value c.args.assignment.now c.args.limits.now c.loop-variable.variable c.in-Some.violation c.in-Some.ensures.0 c.in-Some.ensures.1 c.loop-variable.invariant

pub returns : goal.returns
returns g c =
    all_basic g.F.OrderedField.value c.args.assignment.now c.args.limits.now c.loop-variable.variable c.variables-variable-end.ensures.sound.table (omega (arith, c.loop-variable-test.false, c.variables-variable-end.ensures.count)) c.loop-variable.invariant
