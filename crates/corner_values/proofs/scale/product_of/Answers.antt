use Rattle.std.proofs.Common.{pos, refl}
use Rattle.std.specs.Int.{w128}
use Rattle.std.proofs.lemmas.Int.{to_z-of_z}
use Rattle.simplex.proofs.BoundLaws.{over_one_stands}
use Rattle.corner_values.proofs.scale.product_of.Goals as goal

pub returns : goal.returns
returns c = record {
  place = refl;
  at = refl;
  by = refl;
  op = refl;
  left = over_one_stands _ c.args.left (to_z-of_z w128 c.args.left c.ranges.left) refl;
  right = over_one_stands _ c.args.right (to_z-of_z w128 c.args.right c.ranges.right) refl;
}
