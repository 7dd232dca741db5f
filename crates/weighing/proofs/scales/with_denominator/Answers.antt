use Rattle.std.proofs.Common.{◌≡◌, ℕ, sym, subst, unsigned_abs, to_z, of_z, rules, arith}
use Rattle.std.specs.Int.{w128}
use Rattle.std.proofs.lemmas.Int.{ints}
use Rattle.whole.specs.Numbers.{IsLcm}
use Rattle.whole.proofs.Divisors.{IsLcm-lcm_of}
use Rattle.whole.proofs.Overflow.{signed}
use Rattle.weighing.specs.Scaled.{common, den_of}
use Rattle.weighing.proofs.scales.with_denominator.Goals as goal

pub returns-clause-least : goal.returns-clause-least
returns-clause-least c =
    let from = c.requires.number_in.den_from in
    let answer : ℕ = unsigned_abs (to_z w128 (of_z w128 c.unwrap_or.result)) in
    let is : answer ≡ common c.args.scale c.args.number = search (rules, signed) in
    subst (IsLcm c.args.scale (den_of c.args.number)) (sym is)
    (IsLcm-lcm_of c.args.scale (den_of c.args.number) (omega (arith, c.requires.scale_from)) (omega (arith, ints, from)))
