use Rattle.std.proofs.Common.{FitsSigned, ◌*ℤ◌, to_z-of_z}
use Rattle.std.specs.Int.{w128}
use Rattle.std.proofs.lemmas.Int.{fits_signed_from_abs}
use Rattle.lra_theory.proofs.UnitLaws.{product_some, some_of_whole}
use Rattle.lra_theory.proofs.clash.unit.Goals as goal

pub returns-clause-some : goal.returns-clause-some
returns-clause-some c =
    let over : FitsSigned w128 c.args.piece.factor.den = fits_signed_from_abs w128 c.args.piece.factor.den c.requires.sound.over in
    let den : FitsSigned w128 c.args.piece.den = fits_signed_from_abs w128 c.args.piece.den c.requires.sound.den in
    some_of_whole (c.args.piece.factor.den *ℤ c.args.piece.den) c.product.result (simp to_z-of_z at c.product.ensures.exact) (product_some c.args.piece.factor.den c.args.piece.den c.requires.sound.over_some c.requires.sound.den_some)
