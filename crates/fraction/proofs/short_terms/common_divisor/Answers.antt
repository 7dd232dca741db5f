use Rattle.std.proofs.Common.{pos, ◌≤ℤ◌, unsigned_abs, FitsSigned, to_z-of_z, inl, inr, subst, sym, arith, w64}
use Rattle.std.specs.Int.{IsGcd}
use Rattle.std.proofs.lemmas.Int.{ints, to_z_pos}
use Rattle.lowest_terms.proofs.Reduction.{one_divides_all}
use Rattle.fraction.proofs.ShortTerms.{IsDivisor, divisor_is}
use Rattle.fraction.proofs.short_terms.common_divisor.Goals as goal
use Rattle.fraction.proofs.short_terms.common_divisor.Goals.{After-divisor_of_sizes}

pub returns-then-num-eq1-clause-greatest : goal.returns-then-num-eq1-clause-greatest
returns-then-num-eq1-clause-greatest c =
    let a = c.args in
    one_divides_all a.num a.den (elim c.then-num-eq1.either [ inl one ↦ inl (omega (arith, ints)) | inr one ↦ inr (omega (arith, ints)) ])

divisor : (c : After-divisor_of_sizes) → IsDivisor c.args.num c.args.den c.divisor_of_sizes.result
divisor c =
    let num : FitsSigned w64 c.args.num = c.ranges.num in
    let den : FitsSigned w64 c.args.den = c.ranges.den in
    divisor_is c.args.num c.args.den c.unsigned_abs.result c.unsigned_abs-2.result c.divisor_of_sizes.result
    (simp to_z-of_z at c.unsigned_abs.ensures.value)
    (simp to_z-of_z at c.unsigned_abs-2.ensures.value)
    c.requires
    den
    c.divisor_of_sizes.ensures

pub overflow_cast-result : goal.overflow_cast-result
overflow_cast-result c = record { sfits = (divisor c).small }

pub returns-clause-greatest : goal.returns-clause-greatest
returns-clause-greatest c =
    let d = divisor c in
    subst (λ z. IsGcd (unsigned_abs c.args.num) (unsigned_abs c.args.den) (unsigned_abs z)) (sym (to_z_pos w64 c.divisor_of_sizes.result d.small)) d.greatest

pub returns-clause-positive : goal.returns-clause-positive
returns-clause-positive c =
    let d = divisor c in
    let some : pos 1 ≤ℤ pos c.divisor_of_sizes.result = omega (arith, ints, d.some) in
    subst (λ z. pos 1 ≤ℤ z) (sym (to_z_pos w64 c.divisor_of_sizes.result d.small)) some
