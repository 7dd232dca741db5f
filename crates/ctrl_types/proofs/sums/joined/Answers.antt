use Rattle.std.proofs.Common.{◌≡◌, ℕ, pos, to_z, of_z, sym, arith}
use Rattle.std.specs.Int.{w128}
use Rattle.std.proofs.lemmas.Int.{ints}
use Rattle.whole.proofs.Overflow.{whole_some}
use Rattle.weighing.specs.Scaled.{common}
use Rattle.ctrl_types.proofs.DenominatorLaws.{is_next, kept}
use Rattle.ctrl_types.proofs.sums.joined.Goals as goal

pub returns-then-common-le-MOST_DEN-clause-within : goal.returns-then-common-le-MOST_DEN-clause-within
returns-then-common-le-MOST_DEN-clause-within c =
    let n = c.args.number in
    let scale : to_z w128 (of_z w128 c.from.result) ≡ pos c.args.den = omega (arith, ints) in
    let number = c.requires.number_in in
    let from = number.den_from in
    let to = number.den_to in
    let den : to_z w128 (of_z w128 n.den) ≡ n.den = omega (arith, ints) in
    let next = is_next c.args.den n c.requires.den_in.from number in
    let l : ℕ = common c.args.den n in
    let is = whole_some (pos l) c.in-Some.common (sym (rw (scale, den) at c.in-Some.ensures.exact)) in
    kept c.in-Some.common l is.1 is.0 next.some c.if-common-le-MOST_DEN.true
