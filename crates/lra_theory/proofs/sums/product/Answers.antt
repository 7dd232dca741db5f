use Rattle.std.proofs.Common.{FitsSigned, ◌*ℤ◌, to_z-of_z, refl}
use Rattle.std.specs.Int.{w128}
use Rattle.std.proofs.lemmas.Int.{fits_signed_from_abs}
use Rattle.lra_theory.proofs.SumLaws.{small_product}
use Rattle.lra_theory.proofs.sums.product.Goals as goal

pub returns-clause-exact : goal.returns-clause-exact
returns-clause-exact c =
    let left : FitsSigned w128 c.args.left = c.ranges.left in
    let right : FitsSigned w128 c.args.right = c.ranges.right in
    let both : FitsSigned w128 (c.args.left *ℤ c.args.right) = fits_signed_from_abs w128 (c.args.left *ℤ c.args.right) (small_product c.args.left c.args.right c.requires.left c.requires.right) in
    simp to_z-of_z refl

pub returns-clause-within : goal.returns-clause-within
returns-clause-within c =
    let left : FitsSigned w128 c.args.left = c.ranges.left in
    let right : FitsSigned w128 c.args.right = c.ranges.right in
    let both : FitsSigned w128 (c.args.left *ℤ c.args.right) = fits_signed_from_abs w128 (c.args.left *ℤ c.args.right) (small_product c.args.left c.args.right c.requires.left c.requires.right) in
    simp to_z-of_z (small_product c.args.left c.args.right c.requires.left c.requires.right)
