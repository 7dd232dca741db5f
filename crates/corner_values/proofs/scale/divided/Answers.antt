use Rattle.std.proofs.Common.{arith}
use Rattle.std.specs.Int.{w128}
use Rattle.std.proofs.lemmas.Int.{ints, quot_is, quot_fits}
use Rattle.corner_values.proofs.scale.divided.Goals as goal

pub returns : goal.returns
returns c =
    let a = c.args in
    quot_is w128 a.n a.divisor c.ranges.n c.ranges.divisor (quot_fits w128 a.n a.divisor c.ranges.n (omega (arith, ints)))
