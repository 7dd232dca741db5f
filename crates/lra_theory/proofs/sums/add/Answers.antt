use Rattle.std.proofs.Common.{◌≡◌, ◌*ℤ◌, FitsSigned, Some, to_z-of_z, refl, sym, subst}
use Rattle.std.specs.Int.{w128}
use Rattle.std.proofs.lemmas.Int.{fits_signed_from_abs}
use Rattle.whole.specs.Numbers.{IsWithin, fma}
use Rattle.lra_theory.specs.Clashes.{IsStuckStep}
use Rattle.lra_theory.specs.Totals.{sum_at}
use Rattle.lra_theory.proofs.SumLaws.{read-at, small_within}
use Rattle.lra_theory.proofs.TotalLaws.{fma-within}
use Rattle.lra_theory.proofs.sums.add.Goals as goal

pub returns-in-Ok-clause-ok : goal.returns-in-Ok-clause-ok
returns-in-Ok-clause-ok c =
    let mult : FitsSigned w128 c.args.mult = c.ranges.mult in
    let factor : FitsSigned w128 c.args.factor = c.ranges.factor in
    let coef : FitsSigned w128 c.args.term.coef = fits_signed_from_abs w128 c.args.term.coef (small_within c.args.term.coef c.requires.coef) in
    let sum : c.index-sum.result.now ≡ sum_at c.args.sums.now.items c.args.term.column = read-at c.args.sums.now.items c.args.term.column c.index-sum.result.now c.requires.column c.index-sum.ensures in
    let sum_fits : FitsSigned w128 c.index-sum.result.now = fits_signed_from_abs w128 c.index-sum.result.now (subst IsWithin (sym sum) c.requires.within) in
    let number_fits : FitsSigned w128 c.product-number.result = fits_signed_from_abs w128 c.product-number.result c.product-number.ensures.within in
    let number : c.product-number.result ≡ c.args.factor *ℤ c.args.term.coef = simp to_z-of_z at c.product-number.ensures.exact in
    let exact : fma c.index-sum.result.now c.args.mult c.product-number.result ≡ Some c.in-Ok.next = simp to_z-of_z at c.in-Ok.ensures.exact in
    let next : FitsSigned w128 c.in-Ok.next = fits_signed_from_abs w128 c.in-Ok.next (fma-within c.index-sum.result.now c.args.mult c.product-number.result c.in-Ok.next exact) in
    (c.in-Ok.next, subst (λ s. fma s c.args.mult (c.args.factor *ℤ c.args.term.coef) ≡ Some c.in-Ok.next) sum (subst (λ n. fma c.index-sum.result.now c.args.mult n ≡ Some c.in-Ok.next) number exact), simp to_z-of_z refl)

pub returns-in-Err-clause-stuck : goal.returns-in-Err-clause-stuck
returns-in-Err-clause-stuck c =
    let mult : FitsSigned w128 c.args.mult = c.ranges.mult in
    let factor : FitsSigned w128 c.args.factor = c.ranges.factor in
    let coef : FitsSigned w128 c.args.term.coef = fits_signed_from_abs w128 c.args.term.coef (small_within c.args.term.coef c.requires.coef) in
    let sum : c.index-sum.result.now ≡ sum_at c.args.sums.now.items c.args.term.column = read-at c.args.sums.now.items c.args.term.column c.index-sum.result.now c.requires.column c.index-sum.ensures in
    let sum_fits : FitsSigned w128 c.index-sum.result.now = fits_signed_from_abs w128 c.index-sum.result.now (subst IsWithin (sym sum) c.requires.within) in
    let number_fits : FitsSigned w128 c.product-number.result = fits_signed_from_abs w128 c.product-number.result c.product-number.ensures.within in
    let number : c.product-number.result ≡ c.args.factor *ℤ c.args.term.coef = simp to_z-of_z at c.product-number.ensures.exact in
    let stuck : IsStuckStep c.args.term.column c.args.position c.index-sum.result.now c.args.mult c.product-number.result c.in-Err.stuck = simp to_z-of_z at c.in-Err.ensures.stuck in
    subst (λ s. IsStuckStep c.args.term.column c.args.position s c.args.mult (c.args.factor *ℤ c.args.term.coef) c.in-Err.stuck) sum (subst (λ n. IsStuckStep c.args.term.column c.args.position c.index-sum.result.now c.args.mult n c.in-Err.stuck) number stuck)
