use Rattle.std.proofs.Common.{rules, ◌≤ℤ◌, pos, unsigned_abs, FitsSigned, to_z-of_z, sym, ◌∙◌, arith, subst}
use Rattle.std.specs.Int.{w128}
use Rattle.std.proofs.lemmas.Int.{ints}
use Rattle.lowest_terms.specs.Coprime.{IsCoprime}
use Rattle.lowest_terms.proofs.CoprimeLaws.{IsCoprime-one}
use Rattle.fraction.specs.Value.{same_value}
use Rattle.fraction.proofs.Signs.{whole_value}
use Rattle.fraction.proofs.frac.FracOrderedField.from_whole.Goals as goal

pub from_parts-requires-clause-lowest : goal.from_parts-requires-clause-lowest
from_parts-requires-clause-lowest g c =
    let num : FitsSigned w128 c.in_ok-num.num = search rules in
    subst (λ n. IsCoprime (unsigned_abs n) 1) (sym (to_z-of_z num)) (IsCoprime-one (unsigned_abs c.in_ok-num.num))

pub returns-clause-exact : goal.returns-clause-exact
returns-clause-exact g c =
    let x = c.from_parts.result in
    let one : pos 1 ≤ℤ pos 1 = omega (arith, ints) in
    let n : FitsSigned w128 c.args.n = c.ranges.n in
    let num : FitsSigned w128 c.in_ok-num.num = search rules in
    same_value x.num x.den c.args.n (pos 1) x.positive one
    ((simp to_z-of_z at c.from_parts.ensures.num) ∙ (simp to_z-of_z at c.in_ok-num.ensures.exact))
    c.from_parts.ensures.den
    ∙ whole_value c.args.n one
